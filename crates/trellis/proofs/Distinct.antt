-- Different labels of one code have different phases: the phases give back the bits of each kind of row.
use Rattle.std.proofs.Common.{◌≡◌, ℕ, ◌+◌, ◌-◌, ◌*◌, ◌/◌, ◌%◌, ◌^◌, ◌<◌, ◌≤◌, Bool, true, ◌&&◌, ◌||◌, eqb, ltb, leb, List, [], ◌∷◌, length, get_or, sym, refl, ap, ◌∙◌, subst, ⊎_elim, add-zero, mod-eq_of_lt, mul-zero, arith, pow_pos}
use native.Mathlib.Nat.{mod-eq-sub-mod, eq_of_mul-eq-mul_left}
use lib.Bits.{bit_xor, xor_lt}
use Rattle.std.proofs.lemmas.Bool.{and_parts, or_cases, eqb-true, ltb-true, cases_lt}
use Rattle.trellis.specs.declared.Numbers.{Numbers}
use Rattle.trellis.specs.declared.Row.{Row}
use Rattle.trellis.specs.Label.{gather, turns_by}
use Rattle.trellis.specs.Mapper.{turning_number, picked, entry_at, patterns, phase_at, symbol_of, Distinct}
use Rattle.trellis.specs.Numbers.{label_bits}
use Rattle.trellis.specs.Rows.{label_rows}
use Rattle.trellis.proofs.Gather.{double, mul-below, bit_below, peel, silent, rising, picked-rising, picked-xor}
use Rattle.trellis.proofs.MapperLaws.{bits_of, set_rows, turning-below, phase_used}
use Rattle.trellis.proofs.Sets.{Within, at_set, below, below_at}

-- The kinds of pattern rows, by the places where their entries differ: [0 1 0 1] and [0 1], [0 0 1 1], [0 0 0 1].
abbrev entry1 : Row → ℕ
entry1 = entry_at 1

abbrev entry2 : Row → ℕ
entry2 = entry_at 2

abbrev entry3 : Row → ℕ
entry3 r = bit_xor (entry_at 3 r) (bit_xor (entry_at 2 r) (entry_at 1 r))

abbrev has : (Row → ℕ) → Row → Bool
has entry r = leb 1 (entry r)

-- each row is of some kind
abbrev covered : List Row → Bool
covered [] = true
covered (r ∷ rs) = (turns_by 1 r || (has entry1 r || (has entry2 r || has entry3 r))) && covered rs

-- every entry is below m
abbrev small : (Row → ℕ) → ℕ → List Row → Bool
small entry k [] = true
small entry k (r ∷ rs) = ltb (entry r) (2 ^ k) && small entry k rs

-- the rows of a kind have the levels 0, 1, .. or, without the first, 1, 2, ..
abbrev levelled : (Row → ℕ) → List Row → Bool
levelled entry rs = rising (has entry) entry 0 rs || rising (has entry) entry 1 rs

abbrev kinds_well : ℕ → ℕ → ℕ → Bool
kinds_well l m q =
    let rs = set_rows l m q in
    covered rs && (eqb (length rs) (bits_of m * l - q) && (eqb (2 ^ bits_of m) m && (levelled entry1 rs && (levelled entry2 rs && (levelled entry3 rs
    && (silent (λ _. true) (entry_at 0) rs && below 4 (λ a. small (entry_at a) (bits_of m) rs && (ltb a l || silent (λ _. true) (entry_at a) rs))))))))

record Kinds (n : Numbers) : Type 0 where
  cover : covered (label_rows n) ≡ true
  long : length (label_rows n) ≡ label_bits n
  power : 2 ^ bits_of n.phases ≡ n.phases
  first : levelled entry1 (label_rows n) ≡ true
  second : levelled entry2 (label_rows n) ≡ true
  third : levelled entry3 (label_rows n) ≡ true
  still : silent (λ _. true) (entry_at 0) (label_rows n) ≡ true
  places : (a : ℕ) → a < 4 → (small (entry_at a) (bits_of n.phases) (label_rows n) && (ltb a n.places || silent (λ _. true) (entry_at a) (label_rows n))) ≡ true

kinds : (n : Numbers) → Within n → Kinds n
kinds n w =
    let a = and_parts _ _ (at_set kinds_well refl n w) in
    let b = and_parts _ _ a.1 in
    let c = and_parts _ _ b.1 in
    let d = and_parts _ _ c.1 in
    let e = and_parts _ _ d.1 in
    let f = and_parts _ _ e.1 in
    let g = and_parts _ _ f.1 in
    record {
      cover = a.0;
      long = eqb-true _ _ b.0;
      power = eqb-true _ _ c.0;
      first = d.0;
      second = e.0;
      third = f.0;
      still = g.0;
      places = below_at 4 (λ x. small (entry_at x) (bits_of n.phases) (label_rows n) && (ltb x n.places || silent (λ _. true) (entry_at x) (label_rows n))) g.1;
    }

pub phases_power : (n : Numbers) → Within n → 2 ^ bits_of n.phases ≡ n.phases
phases_power n w = (kinds n w).power

pub label_length : (n : Numbers) → Within n → length (label_rows n) ≡ label_bits n
label_length n w = (kinds n w).long

picked-below : (entry : Row → ℕ) (k : ℕ) (rs : List Row) → small entry k rs ≡ true → (z : ℕ) → picked entry rs z < 2 ^ k
picked-below entry k [] s z = pow_pos k
picked-below entry k (r ∷ rs) s z =
    let both = and_parts _ _ s in
    let here = ltb-true (entry r) (2 ^ k) both.0 in
    xor_lt k (z % 2 * entry r) (picked entry rs (z / 2)) (omega (arith, mul-below (z % 2) (entry r) (bit_below z))) (picked-below entry k rs both.1 (z / 2))

picked_none : (entry : Row → ℕ) (rs : List Row) → silent (λ _. true) entry rs ≡ true → (z : ℕ) → picked entry rs z ≡ 0
picked_none entry [] s z = refl
picked_none entry (r ∷ rs) s z =
    let both = and_parts (eqb (entry r) 0) (silent (λ _. true) entry rs) s in
    let here : z % 2 * entry r ≡ 0 = ap (λ (e : ℕ). z % 2 * e) (eqb-true _ _ both.0) ∙ mul-zero (z % 2) in
    λ i. bit_xor (here i) (picked_none entry rs both.1 (z / 2) i)

-- sums of numbers below m that agree modulo m
wrap : (x m : ℕ) → m ≤ x → x < m + m → x % m ≡ x - m
wrap x m h k = mod-eq-sub-mod h ∙ mod-eq_of_lt (omega arith)

cancel : (t a b m : ℕ) → t < m → a < m → b < m → (t + a) % m ≡ (t + b) % m → a ≡ b
cancel t a b m ht ha hb e =
    ⊎_elim
    (λ (l : t + a < m). ⊎_elim
    (λ (k : t + b < m). omega (arith, sym (mod-eq_of_lt l) ∙ e ∙ mod-eq_of_lt k))
    (λ (k : m ≤ t + b). omega (arith, sym (mod-eq_of_lt l) ∙ e ∙ wrap (t + b) m k (omega arith))) (cases_lt (t + b) m))
    (λ (l : m ≤ t + a). ⊎_elim
    (λ (k : t + b < m). omega (arith, sym (wrap (t + a) m l (omega arith)) ∙ e ∙ mod-eq_of_lt k))
    (λ (k : m ≤ t + b). omega (arith, sym (wrap (t + a) m l (omega arith)) ∙ e ∙ wrap (t + b) m k (omega arith))) (cases_lt (t + b) m))
    (cases_lt (t + a) m)

-- the number of a kind of rows
same_kind : (entry : Row → ℕ) (rs : List Row) → levelled entry rs ≡ true → (y z : ℕ) → picked entry rs y ≡ picked entry rs z → gather (has entry) rs y ≡ gather (has entry) rs z
same_kind entry rs l y z e =
    let by : (j : ℕ) → rising (has entry) entry j rs ≡ true → gather (has entry) rs y ≡ gather (has entry) rs z =
    λ j r. eq_of_mul-eq-mul_left (2 ^ j) (pow_pos j) _ _ (sym (picked-rising (has entry) entry j rs r y) ∙ e ∙ picked-rising (has entry) entry j rs r z) in
    ⊎_elim (by 0) (by 1) (or_cases _ _ l)

same_bits : (rs : List Row) → covered rs ≡ true → (y z : ℕ) → y < 2 ^ length rs → z < 2 ^ length rs → gather (turns_by 1) rs y ≡ gather (turns_by 1) rs z → gather (has entry1) rs y ≡ gather (has entry1) rs z → gather (has entry2) rs y ≡ gather (has entry2) rs z → gather (has entry3) rs y ≡ gather (has entry3) rs z → y ≡ z
same_bits [] c y z hy hz t a b d = omega arith
same_bits (r ∷ rs) c y z hy hz t a b d =
    let both = and_parts _ _ c in
    let t' = peel (turns_by 1) r rs y z t in
    let a' = peel (has entry1) r rs y z a in
    let b' = peel (has entry2) r rs y z b in
    let d' = peel (has entry3) r rs y z d in
    let low : y % 2 ≡ z % 2 = ⊎_elim t'.0 (λ e. ⊎_elim a'.0 (λ f. ⊎_elim b'.0 d'.0 (or_cases _ _ f)) (or_cases _ _ e)) (or_cases _ _ both.0) in
    let twice = double (length rs) in
    let high : y / 2 ≡ z / 2 = same_bits rs both.1 (y / 2) (z / 2) (omega arith) (omega arith) t'.1 a'.1 b'.1 d'.1 in
    omega arith

module _ (n : Numbers) (w : Within n) where
  -- the first place has no pattern, so its phase is the turning number
  first_phase : (z : ℕ) → phase_at n z 0 ≡ turning_number n z
  first_phase z =
      phase_used n z 0 (omega (arith, w.offset)) ∙ ap (λ (x : ℕ). (turning_number n z + x) % n.phases) (picked_none (entry_at 0) (label_rows n) (kinds n w).still z)
      ∙ ap (λ (x : ℕ). x % n.phases) (add-zero (turning_number n z)) ∙ mod-eq_of_lt (turning-below n w z)

  same-patterns : (y z a : ℕ) → turning_number n y ≡ turning_number n z → a < 4 → phase_at n y a ≡ phase_at n z a → patterns n y a ≡ patterns n z a
  same-patterns y z a t h e =
      let both = and_parts _ _ ((kinds n w).places a h) in
      let under : (x : ℕ) → patterns n x a < n.phases = λ x. subst (λ (m : ℕ). patterns n x a < m) (kinds n w).power (picked-below (entry_at a) (bits_of n.phases) (label_rows n) both.0 x) in
      ⊎_elim
      (λ u.
      let used = ltb-true a n.places u in
      cancel (turning_number n z) _ _ n.phases (turning-below n w z) (under y) (under z)
      (ap (λ (x : ℕ). (x + patterns n y a) % n.phases) (sym t) ∙ sym (phase_used n y a used) ∙ e ∙ phase_used n z a used))
      (λ s. picked_none (entry_at a) (label_rows n) s y ∙ sym (picked_none (entry_at a) (label_rows n) s z))
      (or_cases _ _ both.1)

  pub distinct : Distinct n
  distinct y z hy hz e =
      let k = kinds n w in
      let rs = label_rows n in
      let at : (a : ℕ) → get_or (symbol_of n y) a 0 ≡ get_or (symbol_of n z) a 0 = λ a. ap (λ (l : List ℕ). get_or l a 0) e in
      let T : turning_number n y ≡ turning_number n z = sym (first_phase y) ∙ at 0 ∙ first_phase z in
      let p1 = same-patterns y z 1 T (omega arith) (at 1) in
      let p2 = same-patterns y z 2 T (omega arith) (at 2) in
      let p3 = same-patterns y z 3 T (omega arith) (at 3) in
      let split : (x : ℕ) → picked entry3 rs x ≡ bit_xor (patterns n x 3) (bit_xor (patterns n x 2) (patterns n x 1)) =
      λ x. picked-xor (entry_at 3) (λ r. bit_xor (entry_at 2 r) (entry_at 1 r)) rs x ∙ ap (bit_xor (patterns n x 3)) (picked-xor (entry_at 2) (entry_at 1) rs x) in
      let third : picked entry3 rs y ≡ picked entry3 rs z = split y ∙ (λ i. bit_xor (p3 i) (bit_xor (p2 i) (p1 i))) ∙ sym (split z) in
      same_bits rs k.cover y z (subst (λ (x : ℕ). y < 2 ^ x) (sym k.long) hy) (subst (λ (x : ℕ). z < 2 ^ x) (sym k.long) hz)
      T (same_kind entry1 rs k.first y z p1) (same_kind entry2 rs k.second y z p2) (same_kind entry3 rs k.third y z third)
