-- What a turning by r does to the syndromes of the checked turning bits, whose polynomials are ps.
use Rattle.std.proofs.Common.{◌≡◌, ℕ, zero, suc, ◌+◌, ◌-◌, ◌*◌, ◌/◌, ◌%◌, ◌^◌, ◌<◌, ◌≤◌, List, [], ◌∷◌, map, length, get_or, set, replicate, sym, refl, ap, ◌∙◌, subst, ⊎_elim, add-zero, mod-eq_of_lt, mul_assoc, mul_comm, add-mul, one-mul, div-add-mod', zero-mul, add-one, arith, length-set, pow_pos}
use native.Mathlib.Nat.{zero-div, add-mod-mod}
use lib.Bits.{bit_xor, xor_zero_r}
use lib.Count.{ones}
use lib.ListN.{length-replicate}
use lib.Pow.{mod-pow-add}
use Rattle.std.proofs.lemmas.List.{length-map, get_or-map, map-set}
use Rattle.std.proofs.lemmas.Bool.{cases_eq}
use Rattle.trellis.specs.Parity.{syndrome}
use Rattle.trellis.proofs.CheckedTurns.{NoneZero}
use Rattle.trellis.proofs.Gather.{double, bit_below}
use Rattle.trellis.proofs.ParityEquation.{fed, parity_bit, parity_set, parity_same, bit_xor_at, fed-none}
use Rattle.trellis.proofs.Polynomials.{AllBelow}
use Rattle.trellis.proofs.StateShift.{sums-below, shift, shift_is}
use Rattle.trellis.proofs.Syndromes.{syndrome-zero, syndrome_low, syndrome_top, syndrome_split, syndrome_single}

-- The exponent of the step, by the polynomials of the checked turning bits.
abbrev pub exponent_of : List ℕ → ℕ
exponent_of [] = 0
exponent_of (p ∷ ps) = length ps + ones (get_or (p ∷ ps) (length ps) 0) % 2

below_at : (k : ℕ) (ps : List ℕ) → AllBelow k ps → (j : ℕ) → j < length ps → get_or ps j 0 < 2 ^ k
below_at k [] a j h = absurd (omega arith)
below_at k (p ∷ ps) a zero h = a.0
below_at k (p ∷ ps) a (suc j) h = below_at k ps a.1 j (omega arith)

some_at : (ps : List ℕ) → NoneZero ps → (j : ℕ) → j < length ps → 0 < get_or ps j 0
some_at [] a j h = absurd (omega arith)
some_at (p ∷ ps) a zero h = a.0
some_at (p ∷ ps) a (suc j) h = some_at ps a.1 j (omega arith)

-- Only r modulo 2 to the count of polynomials matters.
turn_low : (ps : List ℕ) (r t : ℕ) → syndrome ps (t + r) ≡ syndrome ps (t + r % 2 ^ length ps)
turn_low ps r t =
    let k = length ps in
    sym (syndrome_low ps k (t + r) (omega arith)) ∙ ap (syndrome ps) (sym (add-mod-mod t r (2 ^ k))) ∙ syndrome_low ps k (t + r % 2 ^ k) (omega arith)

-- r modulo the next power, where it is divided by this one.
next_bit : (r f : ℕ) → r % 2 ^ f ≡ 0 → r % 2 ^ suc f ≡ r / 2 ^ f % 2 * 2 ^ f
next_bit r f e =
    let one_more : suc f ≡ 1 + f = omega arith in
    ap (λ (k : ℕ). r % 2 ^ k) one_more ∙ mod-pow-add r 1 f ∙ ap (λ (k : ℕ). r / 2 ^ f % 2 * 2 ^ f + k) e ∙ add-zero _

-- Where the highest bit that matters is turned, its polynomial is added.
turn_top : (p : ℕ) (ps : List ℕ) (r : ℕ) → r % 2 ^ suc (length ps) ≡ 2 ^ length ps → (t : ℕ) → syndrome (p ∷ ps) (t + r) ≡ bit_xor (syndrome (p ∷ ps) t) (get_or (p ∷ ps) (length ps) 0)
turn_top p ps r e t = turn_low (p ∷ ps) r t ∙ ap (λ (k : ℕ). syndrome (p ∷ ps) (t + k)) e ∙ syndrome_top p ps t

turn-none : (ps : List ℕ) (r : ℕ) → r % 2 ^ length ps ≡ 0 → (t : ℕ) → syndrome ps (t + r) ≡ syndrome ps t
turn-none ps r e t = turn_low ps r t ∙ ap (λ (k : ℕ). syndrome ps (t + k)) e ∙ ap (syndrome ps) (add-zero t)

-- A turning by a multiple of the step adds one polynomial to every syndrome, and shifts every state by one constant.
pub record Change (ps : List ℕ) (v r : ℕ) : Type 0 where
  pub K : ℕ
  pub h : ℕ
  pub small : K < 2 ^ v
  pub shifts : bit_xor K h ≡ 2 * K
  pub adds : (t : ℕ) → syndrome ps (t + r) ≡ bit_xor (syndrome ps t) h

no_change : (ps : List ℕ) (v r : ℕ) → r % 2 ^ length ps ≡ 0 → Change ps v r
no_change ps v r e = record { K = 0; h = 0; small = pow_pos v; shifts = refl; adds = λ t. turn-none ps r e t ∙ sym (xor_zero_r _) }

pub change : (ps : List ℕ) (v r : ℕ) → AllBelow (v + 1) ps → r % 2 ^ exponent_of ps ≡ 0 → Change ps v r
change [] v r a e = no_change [] v r e
change (p ∷ ps) v r a e =
    let f = length ps in
    let h = get_or (p ∷ ps) f 0 in
    let h-small = below_at (v + 1) (p ∷ ps) a f (omega arith) in
    let weight = bit_below (ones h) in
    ⊎_elim
    (λ (even : ones h % 2 ≡ 0).
    let divides : r % 2 ^ f ≡ 0 = ap (λ (k : ℕ). r % 2 ^ k) (sym (ap (λ (k : ℕ). f + k) even ∙ add-zero f)) ∙ e in
    let bit = bit_below (r / 2 ^ f) in
    ⊎_elim
    (λ (off : r / 2 ^ f % 2 ≡ 0). no_change (p ∷ ps) v r (next_bit r f divides ∙ ap (λ (k : ℕ). k * 2 ^ f) off ∙ zero-mul (2 ^ f)))
    (λ (on : r / 2 ^ f % 2 ≡ 0 → ⊥).
    let one : r / 2 ^ f % 2 ≡ 1 = omega arith in
    let top : r % 2 ^ suc f ≡ 2 ^ f = next_bit r f divides ∙ ap (λ (k : ℕ). k * 2 ^ f) one ∙ one-mul (2 ^ f) in
    let twice = ap (λ (k : ℕ). 2 ^ k) (add-one v) ∙ double v in
    record {
      K = shift (v + 1) h;
      h = h;
      small = sums-below v (v + 1) (h / 2) (omega arith);
      shifts = shift_is (v + 1) h h-small ∙ ap (λ (k : ℕ). 2 * shift (v + 1) h + k) even ∙ add-zero _;
      adds = turn_top p ps r top;
    })
    (cases_eq (r / 2 ^ f % 2) 0))
    (λ (odd : ones h % 2 ≡ 0 → ⊥).
    let one : ones h % 2 ≡ 1 = omega arith in
    no_change (p ∷ ps) v r (ap (λ (k : ℕ). r % 2 ^ k) (sym (ap (λ (k : ℕ). f + k) one ∙ add-one f)) ∙ e))
    (cases_eq (ones h % 2) 0)

-- The lowest bit of a number that is not divided by 2^d.
lowest : (r d : ℕ) → (r % 2 ^ d ≡ 0 → ⊥) → (j : ℕ) × (j < d) × (r % 2 ^ j ≡ 0) × (r / 2 ^ j % 2 ≡ 1)
lowest r zero ne = absurd (ne (omega arith))
lowest r (suc d) ne =
    ⊎_elim
    (λ (e : r % 2 ^ d ≡ 0).
    let bit = bit_below (r / 2 ^ d) in
    let on : r / 2 ^ d % 2 ≡ 0 → ⊥ = λ off. ne (next_bit r d e ∙ ap (λ (k : ℕ). k * 2 ^ d) off ∙ zero-mul (2 ^ d)) in
    let one : r / 2 ^ d % 2 ≡ 1 = omega arith in
    (d, omega arith, e, one))
    (λ (e : r % 2 ^ d ≡ 0 → ⊥). let more = lowest r d e in (more.0, omega (arith, more.1), more.2, more.3))
    (cases_eq (r % 2 ^ d) 0)

-- A bit of a number that is not 0.
some_bit : (h v : ℕ) → 0 < h → h < 2 ^ (v + 1) → (e : ℕ) × (e ≤ v) × (h / 2 ^ e % 2 ≡ 1)
some_bit h v pos small =
    let whole : h % 2 ^ (v + 1) ≡ h = mod-eq_of_lt small in
    let bit = lowest h (v + 1) (λ z. let none : h ≡ 0 = sym whole ∙ z in omega arith) in
    (bit.0, omega (arith, bit.1), bit.3)

-- A list of turning numbers that the parity check tells from its turned list: where it is a path, that is none.
pub record Told (ps : List ℕ) (v r : ℕ) : Type 0 where
  pub numbers : List ℕ
  pub long : length numbers ≡ v + 1
  pub plain : parity_bit v (map (syndrome ps) numbers) ≡ 0
  pub turned : parity_bit v (map (λ t. syndrome ps (t + r)) numbers) ≡ 1

map-replicate : (g : ℕ → ℕ) (k x : ℕ) → map g (replicate k x) ≡ replicate k (g x)
map-replicate g zero x = refl
map-replicate g (suc k) x = ap (λ (l : List ℕ). g x ∷ l) (map-replicate g k x)

-- One number of the list is exchanged.
exchange : (g : ℕ → ℕ) (v i e : ℕ) (xs : List ℕ) (y : ℕ) → i + e ≡ v → i < length xs → parity_bit v (map g (set xs i y)) ≡ (parity_bit v (map g xs) + (g (get_or xs i 0) / 2 ^ e % 2 + g y / 2 ^ e % 2)) % 2
exchange g v i e xs y is h =
    let l : i < length (map g xs) = omega (arith, length-map xs g) in
    ap (parity_bit v) (map-set g xs i y) ∙ parity_set v i e (map g xs) (g y) is l
    ∙ ap (λ (k : ℕ). (parity_bit v (map g xs) + bit_xor k (g y) / 2 ^ e % 2) % 2) (get_or-map g xs i 0 0 h)
    ∙ ap (λ (k : ℕ). (parity_bit v (map g xs) + k) % 2) (bit_xor_at (g (get_or xs i 0)) (g y) e)
    ∙ omega arith

-- two lists that differ in one bit of their parities only cannot both agree with their turned lists
odd_one : (P Q x y a0 a1 t0 t1 w j pa pb qa qb : ℕ) → pa ≡ (P + (x + a0)) % 2 → pb ≡ (P + (x + a1)) % 2 → qa ≡ (Q + (y + t0)) % 2 → qb ≡ (Q + (y + t1)) % 2 → a1 ≡ (a0 + j) % 2 → t0 ≡ (w + j) % 2 → t1 ≡ (w + 1) % 2 → pa ≡ qa → pb ≡ qb → ⊥
odd_one P Q x y a0 a1 t0 t1 w j pa pb qa qb e1 e2 e3 e4 e5 e6 e7 e8 e9 = omega arith

module _ (p : ℕ) (ps : List ℕ) (v r : ℕ) (below : AllBelow (v + 1) (p ∷ ps)) (some : NoneZero (p ∷ ps)) where
  -- the syndrome of a turning number, and of the turned one
  abbrev plainly : ℕ → ℕ
  plainly t = syndrome (p ∷ ps) t

  abbrev turnedly : ℕ → ℕ
  turnedly t = syndrome (p ∷ ps) (t + r)

  -- A list whose two parities differ is told apart, if need be after a flip of the highest bit that matters, which turns
  -- both parities.
  settle : (xs : List ℕ) → length xs ≡ v + 1 → (parity_bit v (map plainly xs) ≡ parity_bit v (map turnedly xs) → ⊥) → Told (p ∷ ps) v r
  settle xs long differ =
      let f = length ps in
      let h = get_or (p ∷ ps) f 0 in
      let a = bit_below (fed (map plainly xs) / 2 ^ v) in
      let b = bit_below (fed (map turnedly xs) / 2 ^ v) in
      ⊎_elim
      (λ (off : parity_bit v (map plainly xs) ≡ 0). record { numbers = xs; long = long; plain = off; turned = omega arith })
      (λ (on : parity_bit v (map plainly xs) ≡ 0 → ⊥).
      let bit = some_bit h v (some_at (p ∷ ps) some f (omega arith)) (below_at (v + 1) (p ∷ ps) below f (omega arith)) in
      let e = bit.0 in
      let e-small = bit.1 in
      let e-on = bit.2 in
      let i = v - e in
      let is : i + e ≡ v = omega arith in
      let within : i < length xs = omega arith in
      let t = get_or xs i 0 in
      let up : t + 2 ^ f + r ≡ t + r + 2 ^ f = omega arith in
      let one = exchange plainly v i e xs (t + 2 ^ f) is within in
      let two = exchange turnedly v i e xs (t + 2 ^ f) is within in
      let plain-flip : plainly (t + 2 ^ f) / 2 ^ e % 2 ≡ (plainly t / 2 ^ e % 2 + h / 2 ^ e % 2) % 2 = ap (λ (k : ℕ). k / 2 ^ e % 2) (syndrome_top p ps t) ∙ bit_xor_at (plainly t) h e in
      let turned-flip : turnedly (t + 2 ^ f) / 2 ^ e % 2 ≡ (turnedly t / 2 ^ e % 2 + h / 2 ^ e % 2) % 2 =
      ap (λ (k : ℕ). syndrome (p ∷ ps) k / 2 ^ e % 2) up ∙ ap (λ (k : ℕ). k / 2 ^ e % 2) (syndrome_top p ps (t + r)) ∙ bit_xor_at (turnedly t) h e in
      record {
        numbers = set xs i (t + 2 ^ f);
        long = length-set xs i (t + 2 ^ f) ∙ long;
        plain = one ∙ omega arith;
        turned = two ∙ omega arith;
      })
      (cases_eq (parity_bit v (map plainly xs)) 0)

  -- The highest bit alone is turned: its polynomial is added at every symbol, and has an odd count of ones.
  tell_top : r % 2 ^ suc (length ps) ≡ 2 ^ length ps → ones (get_or (p ∷ ps) (length ps) 0) % 2 ≡ 1 → Told (p ∷ ps) v r
  tell_top top odd =
      let h = get_or (p ∷ ps) (length ps) 0 in
      let small : h < 2 ^ suc v = subst (λ (k : ℕ). h < 2 ^ k) (add-one v) (below_at (v + 1) (p ∷ ps) below (length ps) (omega arith)) in
      let here : turnedly 0 ≡ h = turn_top p ps r top 0 ∙ ap (λ (k : ℕ). bit_xor k h) (syndrome-zero (p ∷ ps)) in
      let zeros = replicate (suc v) 0 in
      record {
        numbers = zeros;
        long = length-replicate (suc v) 0 ∙ sym (add-one v);
        plain = ap (parity_bit v) (map-replicate plainly (suc v) 0 ∙ ap (replicate (suc v)) (syndrome-zero (p ∷ ps))) ∙ ap (λ (k : ℕ). k / 2 ^ v % 2) (fed-none (suc v)) ∙ ap (λ (k : ℕ). k % 2) (zero-div (2 ^ v));
        turned = ap (parity_bit v) (map-replicate turnedly (suc v) 0 ∙ ap (replicate (suc v)) here) ∙ parity_same v h ∙ ap (λ (k : ℕ). ones k % 2) (mod-eq_of_lt small) ∙ odd;
      }

  -- A lower bit j is the lowest that is turned: two labels that differ in it alone, at a symbol where the next higher
  -- turning bit's polynomial has a bit, differ in how their parity turns.
  tell_lower : (j : ℕ) → suc j ≤ length ps → r % 2 ^ j ≡ 0 → r / 2 ^ j % 2 ≡ 1 → Told (p ∷ ps) v r
  tell_lower j lower divides on =
      let P = 2 ^ j in
      let c = r / P in
      let b = c / 2 % 2 in
      let R = c / 2 / 2 in
      let W = R + b in
      let whole : c * P + 0 ≡ r = ap (λ (k : ℕ). c * P + k) (sym divides) ∙ div-add-mod' r P in
      let parts : c ≡ 1 + 2 * (b + 2 * R) = omega arith in
      let spread : c * P ≡ P + 2 * (b * P + 2 * (R * P)) =
      ap (λ (k : ℕ). k * P) parts ∙ add-mul 1 (2 * (b + 2 * R)) P ∙ (λ i. one-mul P i + (mul_assoc 2 (b + 2 * R) P ∙ ap (λ (k : ℕ). 2 * k) (add-mul b (2 * R) P ∙ ap (λ (k : ℕ). b * P + k) (mul_assoc 2 R P))) i) in
      let two : 2 ^ suc j ≡ 2 * P = double j in
      let four : 2 ^ suc (suc j) ≡ 4 * P = double (suc j) ∙ ap (λ (k : ℕ). 2 * k) two ∙ omega arith in
      let T0 = 2 ^ suc j * b in
      let T1 = T0 + P in
      let low : T0 ≡ 2 * (b * P) = ap (λ (k : ℕ). k * b) two ∙ mul_assoc 2 P b ∙ ap (λ (k : ℕ). 2 * k) (mul_comm P b) in
      let high : 2 ^ suc (suc j) * W ≡ 4 * (R * P) + 4 * (b * P) =
      ap (λ (k : ℕ). k * W) four ∙ mul_assoc 4 P W ∙ ap (λ (k : ℕ). 4 * k) (mul_comm P W ∙ add-mul R b P) ∙ omega arith in
      let sum0 : T0 + r ≡ 2 ^ suc (suc j) * W + P = omega arith in
      let sum1 : T1 + r ≡ 2 ^ suc (suc j) * W + 2 ^ suc j = omega arith in
      let pos = pow_pos j in
      let qs = p ∷ ps in
      let w = syndrome qs (2 ^ suc (suc j) * W) in
      let hj = get_or qs j 0 in
      let hk = get_or qs (suc j) 0 in
      let plain1 : plainly T1 ≡ bit_xor (plainly T0) hj = syndrome_split qs (suc j) b P (omega arith) ∙ ap (bit_xor (plainly T0)) (syndrome_single qs j) in
      let turned0 : turnedly T0 ≡ bit_xor w hj = ap (syndrome qs) sum0 ∙ syndrome_split qs (suc (suc j)) W P (omega arith) ∙ ap (bit_xor w) (syndrome_single qs j) in
      let turned1 : turnedly T1 ≡ bit_xor w hk = ap (syndrome qs) sum1 ∙ syndrome_split qs (suc (suc j)) W (2 ^ suc j) (omega arith) ∙ ap (bit_xor w) (syndrome_single qs (suc j)) in
      let bit = some_bit hk v (some_at qs some (suc j) (omega arith)) (below_at (v + 1) qs below (suc j) (omega arith)) in
      let e = bit.0 in
      let e-small = bit.1 in
      let e-on = bit.2 in
      let i = v - e in
      let is : i + e ≡ v = omega arith in
      let zeros : List ℕ = replicate (suc v) 0 in
      let z-long : length zeros ≡ suc v = length-replicate (suc v) 0 in
      let within : i < length zeros = omega arith in
      let p0 = exchange plainly v i e zeros T0 is within in
      let p1 = exchange plainly v i e zeros T1 is within in
      let q0 = exchange turnedly v i e zeros T0 is within in
      let q1 = exchange turnedly v i e zeros T1 is within in
      let b1 = ap (λ (k : ℕ). k / 2 ^ e % 2) plain1 ∙ bit_xor_at (plainly T0) hj e in
      let c0 = ap (λ (k : ℕ). k / 2 ^ e % 2) turned0 ∙ bit_xor_at w hj e in
      let c1 = ap (λ (k : ℕ). k / 2 ^ e % 2) turned1 ∙ bit_xor_at w hk e in
      let long : (y : ℕ) → length (set zeros i y) ≡ v + 1 = λ y. length-set zeros i y ∙ z-long ∙ sym (add-one v) in
      ⊎_elim
      (λ (same : parity_bit v (map plainly (set zeros i T0)) ≡ parity_bit v (map turnedly (set zeros i T0))). settle (set zeros i T1) (long T1) (λ also. odd_one _ _ _ _ _ _ _ _ _ _ _ _ _ _ p0 p1 q0 q1 b1 c0 (c1 ∙ ap (λ (k : ℕ). (w / 2 ^ e % 2 + k) % 2) e-on) same also))
      (λ differ. settle (set zeros i T0) (long T0) differ)
      (cases_eq (parity_bit v (map plainly (set zeros i T0))) (parity_bit v (map turnedly (set zeros i T0))))

pub tell : (ps : List ℕ) (v r : ℕ) → AllBelow (v + 1) ps → NoneZero ps → (r % 2 ^ exponent_of ps ≡ 0 → ⊥) → Told ps v r
tell [] v r below some ne = absurd (ne (omega arith))
tell (p ∷ ps) v r below some ne =
    let f = length ps in
    let h = get_or (p ∷ ps) f 0 in
    let l = lowest r (exponent_of (p ∷ ps)) ne in
    let j = l.0 in
    let under = l.1 in
    let weight = bit_below (ones h) in
    ⊎_elim
    (λ (top : j ≡ f).
    let divides : r % 2 ^ f ≡ 0 = ap (λ (k : ℕ). r % 2 ^ k) (sym top) ∙ l.2 in
    let on : r / 2 ^ f % 2 ≡ 1 = ap (λ (k : ℕ). r / 2 ^ k % 2) (sym top) ∙ l.3 in
    tell_top p ps v r below some (next_bit r f divides ∙ ap (λ (k : ℕ). k * 2 ^ f) on ∙ one-mul (2 ^ f)) (omega arith))
    (λ (other : j ≡ f → ⊥). tell_lower p ps v r below some j (omega arith) l.2 l.3)
    (cases_eq j f)
