-- Sums of the scores in a table.
use Rattle.std.proofs.Common.{◌≡◌, ℕ, zero, suc, ◌+◌, ◌-◌, ◌*◌, ◌^◌, ◌<◌, ◌≤◌, List, ◌++◌, map, length, get_or, take, drop, set, replicate, sym, refl, ap, ◌∙◌, subst, ⊎_elim, mod-lt, add-one, arith, length-take-le, get_or-take, get_or-drop}
use borrow.Rule.Slice.PartMut.{put_mid}
use Rattle.std.proofs.lemmas.List.{get_or-map, get_or-set_same, get_or-set_other, get_or-append_right, get_or_append_left, length-map, map-set, map-append, take-map, drop-map}
use Rattle.std.proofs.lemmas.Bool.{cases_eq, cases_lt}
use Rattle.code.specs.declared.record.Code.{Code}
use Rattle.reception.specs.Worth.{Scores, places_worth}
use Rattle.trellis.specs.declared.Numbers.{Numbers}
use Rattle.trellis.specs.Mapper.{phase_at, symbol_of, turning_number, patterns}
use Rattle.trellis.proofs.MapperLaws.{phases_some, phase_used, symbol_at}
use Rattle.trellis.proofs.Sets.{Within, within, places_bound}
use Rattle.receiver.proofs.Limited.{phases_most, places_most}
use Rattle.receiver.specs.Scored.{entry_of, places_sum, Small, Filled, Holds}

pub sum_most : (ws symbol : List ℕ) → Small ws → (a : ℕ) → places_sum ws symbol a ≤ a * 1048575
sum_most ws symbol small zero = omega arith
sum_most ws symbol small (suc a) =
    let so_far = sum_most ws symbol small a in
    let here = small (a * 16 + get_or symbol a 0) in
    omega arith

-- One place more, by an exact sum.
pub sum_more : {X : Type 0} (worth : X → ℕ) (sum : X → X → X) → ((x y : X) → worth x + worth y < 2 ^ 30 → worth (sum x y) ≡ worth x + worth y) → (xs : List X) (symbol : List ℕ) (a m : ℕ) (x y r : X) → a < 4 → m ≡ get_or symbol a 0 → a * 16 + m < length xs → y ≡ get_or xs (a * 16 + m) y → r ≡ sum x (get_or xs (a * 16 + m) y) → Small (map worth xs) → worth x ≡ places_sum (map worth xs) symbol a → worth r ≡ places_sum (map worth xs) symbol (a + 1)
sum_more worth sum exact xs symbol a m x y r few phase within is made small so_far =
    let ws = map worth xs in
    let z = get_or xs (a * 16 + m) y in
    let here : worth z ≡ entry_of ws a (get_or symbol a 0) = sym (get_or-map worth xs (a * 16 + m) y 0 within) ∙ ap (entry_of ws a) phase in
    let one = small (a * 16 + get_or symbol a 0) in
    let most = sum_most ws symbol small a in
    let whole : worth (sum x z) ≡ worth x + worth z = exact x z (omega arith) in
    ap worth made ∙ whole ∙ (λ j. so_far j + here j) ∙ ap (places_sum ws symbol) (sym (add-one a))

-- One score more of a place.
pub filled_more : {X : Type 0} (worth : X → ℕ) (xs : List X) (i : ℕ) (x : X) (f : ℕ → ℕ) → i < length xs → worth x ≡ f i → worth x ≤ 1048575 → Filled (map worth xs) i f → Filled (map worth (set xs i x)) (i + 1) f
filled_more worth xs i x f within is few so_far m h =
    let ws = map worth xs in
    let room : i < length ws = omega (arith, length-map xs worth) in
    subst (λ (vs : List ℕ). (get_or vs m 0 ≡ f m) × (f m ≤ 1048575)) (sym (map-set worth xs i x))
    (⊎_elim
    (λ (e : m ≡ i). let same = ap f e in (ap (λ (k : ℕ). get_or (set ws i (worth x)) k 0) e ∙ get_or-set_same ws i (worth x) 0 room ∙ is ∙ sym same, omega arith))
    (λ (e : m ≡ i → ⊥). let was = so_far m (omega arith) in (get_or-set_other ws i m (worth x) 0 e ∙ was.0, was.1))
    (cases_eq m i))

-- A list in which the part of n elements from one place on was written.
module _ (at n : ℕ) (xs ys : List ℕ) (room : at + n ≤ length xs) (long : length ys ≡ n) where
  before : length (take at xs) ≡ at
  before = length-take-le at xs (omega arith)

  part_below : (k : ℕ) → k < at → get_or (put_mid at n xs ys) k 0 ≡ get_or xs k 0
  part_below k l = get_or_append_left (take at xs) (ys ++ drop n (drop at xs)) 0 k (omega (arith, before)) ∙ get_or-take at xs k 0 l

  part_behind : (k : ℕ) → at ≤ k → get_or (put_mid at n xs ys) k 0 ≡ get_or (ys ++ drop n (drop at xs)) (k - at) 0
  part_behind k l = get_or-append_right (take at xs) (ys ++ drop n (drop at xs)) at k 0 before l

  part_at : (m : ℕ) → m < n → get_or (put_mid at n xs ys) (at + m) 0 ≡ get_or ys m 0
  part_at m l =
      let back : at + m - at ≡ m = omega arith in
      part_behind (at + m) (omega arith) ∙ ap (λ (k : ℕ). get_or (ys ++ drop n (drop at xs)) k 0) back ∙ get_or_append_left ys (drop n (drop at xs)) 0 m (omega arith)

  part_above : (k : ℕ) → at + n ≤ k → get_or (put_mid at n xs ys) k 0 ≡ get_or xs k 0
  part_above k l =
      let back : at + (n + (k - at - n)) ≡ k = omega arith in
      part_behind k (omega arith) ∙ get_or-append_right ys (drop n (drop at xs)) n (k - at) 0 long (omega arith)
      ∙ get_or-drop n (drop at xs) (k - at - n) 0 ∙ get_or-drop at xs (n + (k - at - n)) 0 ∙ ap (λ (j : ℕ). get_or xs j 0) back

map-put_mid : {X : Type 0} (worth : X → ℕ) (at n : ℕ) (xs ys : List X) → map worth (put_mid at n xs ys) ≡ put_mid at n (map worth xs) (map worth ys)
map-put_mid worth at n xs ys =
    map-append worth (take at xs) (ys ++ drop n (drop at xs))
    ∙ (λ i. sym (take-map worth at xs) i ++ (map-append worth ys (drop n (drop at xs)) ∙ ap (λ (zs : List ℕ). map worth ys ++ zs) (sym (drop-map worth n (drop at xs)) ∙ ap (drop n) (sym (drop-map worth at xs)))) i)

abbrev pub HoldsSmall : List ℕ → ℕ → Scores → ℕ → Type 0
HoldsSmall ws phases s places = Holds ws phases s places × Small ws

-- One place more of the table.
holds_more : (ws row : List ℕ) (phases : ℕ) (s : Scores) (a : ℕ) (f : ℕ → ℕ) → phases ≤ 16 → a * 16 + phases ≤ length ws → length row ≡ phases → Filled row phases f → ((m : ℕ) → f m ≡ s a m) → HoldsSmall ws phases s a → HoldsSmall (put_mid (a * 16) phases ws row) phases s (a + 1)
holds_more ws row phases s a f few room long r is (h, small) = (
  λ b m l k.
      ⊎_elim (λ (e : b ≡ a). ap (λ (x : ℕ). entry_of (put_mid (a * 16) phases ws row) x m) e ∙ part_at (a * 16) phases ws row room long m k ∙ (r m k).0 ∙ is m ∙ ap (λ (x : ℕ). s x m) (sym e))
      (λ (e : b ≡ a → ⊥). part_below (a * 16) phases ws row room long (b * 16 + m) (omega arith) ∙ h b m (omega arith) k) (cases_eq b a),
  λ i.
      let was = small i in
      ⊎_elim (λ (l : i < a * 16). let e = part_below (a * 16) phases ws row room long i l in omega arith)
      (λ (l : a * 16 ≤ i).
      ⊎_elim
      (λ (k : i - a * 16 < phases).
      let at : a * 16 + (i - a * 16) ≡ i = omega arith in
      let e = part_at (a * 16) phases ws row room long (i - a * 16) k in
      let same = ap (λ (j : ℕ). get_or (put_mid (a * 16) phases ws row) j 0) at in
      let new = r (i - a * 16) k in omega (arith, new.0, new.1))
      (λ (k : phases ≤ i - a * 16). let e = part_above (a * 16) phases ws row room long i (omega arith) in omega arith)
      (cases_lt (i - a * 16) phases)) (cases_lt i (a * 16)),
)

pub holds_place : {X : Type 0} (worth : X → ℕ) (xs row : List X) (phases n start : ℕ) (s : Scores) (a : ℕ) (f : ℕ → ℕ) → phases ≤ 16 → start ≡ a * 16 → n ≡ phases → a * 16 + phases ≤ length xs → length row ≡ phases → Filled (map worth row) phases f → ((m : ℕ) → f m ≡ s a m) → HoldsSmall (map worth xs) phases s a → HoldsSmall (map worth (put_mid start n xs row)) phases s (a + 1)
holds_place worth xs row phases n start s a f few start-is n-is room long r is h =
    subst (λ (ws : List ℕ). HoldsSmall ws phases s (a + 1))
    (sym (map-put_mid worth start n xs row ∙ (λ i. put_mid (start-is i) (n-is i) (map worth xs) (map worth row))))
    (holds_more (map worth xs) (map worth row) phases s a f few (omega (arith, length-map xs worth)) (length-map row worth ∙ long) r is h)

phase_below : (n : Numbers) (z a : ℕ) → Within n → a < n.places → phase_at n z a < n.phases
phase_below n z a w h = subst (λ (x : ℕ). x < n.phases) (sym (phase_used n z a h)) (mod-lt (turning_number n z + patterns n z a) (phases_some n w))

-- The entry of a label's phase lies within the table.
symbol_within : (k : Code) (symbol : List ℕ) (z a : ℕ) → symbol ≡ symbol_of k.numbers z → a < k.numbers.places → a * 16 + get_or symbol a 0 < 64
symbol_within k symbol z a is h =
    let few = places_most k in
    let most = phases_most k in
    let same = ap (λ (xs : List ℕ). get_or xs a 0) is ∙ symbol_at k.numbers z a (omega arith) in
    let below = phase_below k.numbers z a (within k.numbers k.limits) h in
    omega arith

-- The phase that is read at a used place, and its entry, which lies within the table.
module _ (k : Code) (symbol : List ℕ) (z many : ℕ) (is : symbol ≡ symbol_of k.numbers z) (all : many ≡ k.numbers.places) where
  pub length-used : length (take many symbol) ≡ k.numbers.places
  length-used = length-take-le many symbol (omega (arith, places_most k, ap length is)) ∙ all

  pub phase_read : (a x : ℕ) → a < length (take many symbol) → x ≡ get_or (take many symbol) a 0 → (a < k.numbers.places) × (x ≡ get_or (symbol_of k.numbers z) a 0) × (a * 16 + x < 64)
  phase_read a x h at =
      let used = length-used in
      let read : x ≡ get_or symbol a 0 = at ∙ get_or-take many symbol a 0 (omega arith) in
      let within = symbol_within k symbol z a is (omega arith) in
      (omega arith, read ∙ ap (λ (xs : List ℕ). get_or xs a 0) is, omega arith)

-- The table holds the worth of every label.
pub holds_sum : (n : Numbers) (ws : List ℕ) (s : Scores) (z : ℕ) → Within n → Holds ws n.phases s n.places → (a : ℕ) → a ≤ n.places → places_sum ws (symbol_of n z) a ≡ places_worth n s z a
holds_sum n ws s z w h zero few = refl
holds_sum n ws s z w h (suc a) few =
    let most = places_bound n w in
    let is : get_or (symbol_of n z) a 0 ≡ phase_at n z a = symbol_at n z a (omega arith) in
    let below = phase_below n z a w (omega arith) in
    λ i. holds_sum n ws s z w h a (omega arith) i + (ap (entry_of ws a) is ∙ h a (phase_at n z a) (omega arith) below) i

-- A table of noughts.
pub noughts_small : {X : Type 0} (worth : X → ℕ) (many : ℕ) (x : X) → worth x ≡ 0 → Small (map worth (replicate many x))
noughts_small worth zero x e i = omega arith
noughts_small worth (suc many) x e zero = omega arith
noughts_small worth (suc many) x e (suc i) = noughts_small worth many x e i
