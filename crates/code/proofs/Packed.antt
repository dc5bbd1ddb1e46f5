-- The phases of all places at once.
use Rattle.std.proofs.Common.{◌≡◌, ℕ, zero, suc, ◌+◌, ◌-◌, ◌*◌, ◌/◌, ◌%◌, ◌^◌, ◌<◌, ◌≤◌, Bool, true, false, cond, ◌&&◌, eqb, ltb, List, [], ◌∷◌, sym, refl, ap, ◌∙◌, subst, ⊎_elim, one-mul, zero-mul, arith, shr-shr}
use native.Mathlib.Nat.{zero-div}
use lib.Bits.{bit_and, bit_xor, and_mask, and_zero_r, and_shr, and_mod, xor_shr, xor_mod, xor_lt}
use Rattle.std.proofs.lemmas.Bool.{and_parts, eqb-true, ltb-true, cases_eq}
use Rattle.code.specs.Packed.{packed, used_bits}
use Rattle.trellis.specs.declared.Numbers.{Numbers}
use Rattle.trellis.specs.declared.Row.{Row}
use Rattle.trellis.specs.Limits.{is_phases}
use Rattle.trellis.specs.Mapper.{picked, entry_at, patterns, phase_at, symbol_of, turning_number}
use Rattle.trellis.specs.Rows.{label_rows}
use Rattle.trellis.proofs.Gather.{bit_below, mul-below}
use Rattle.trellis.proofs.MapperLaws.{set_rows, turn-picked, turning-below}
use Rattle.trellis.proofs.Sets.{Within, at_set, below, below_at, one_of}

-- the eight bits from bit k on
abbrev pub lane : ℕ → ℕ → ℕ
lane k x = x / 2 ^ k % 256

lane-none : (k : ℕ) → lane k 0 ≡ 0
lane-none k = ap (λ (x : ℕ). x % 256) (zero-div (2 ^ k))

lane_xor : (k x y : ℕ) → lane k (bit_xor x y) ≡ bit_xor (lane k x) (lane k y)
lane_xor k x y = ap (λ (v : ℕ). v % 256) (xor_shr x y k) ∙ xor_mod (x / 2 ^ k) (y / 2 ^ k) 8

lane_and : (k x y : ℕ) → lane k (bit_and x y) ≡ bit_and (lane k x) (lane k y)
lane_and k x y = ap (λ (v : ℕ). v % 256) (and_shr x y k) ∙ and_mod (x / 2 ^ k) (y / 2 ^ k) 8

lane_bit : (k b x : ℕ) → b < 2 → lane k (b * x) ≡ b * lane k x
lane_bit k b x h =
    ⊎_elim (λ (e : b ≡ 0). rw e (ap (lane k) (zero-mul x) ∙ lane-none k ∙ sym (zero-mul (lane k x))))
    (λ (e : b ≡ 0 → ⊥). let one : b ≡ 1 = omega arith in rw one (ap (lane k) (one-mul x) ∙ sym (one-mul (lane k x))))
    (cases_eq b 0)

picked-lane : (k : ℕ) (f : Row → ℕ) (rs : List Row) (z : ℕ) → lane k (picked f rs z) ≡ picked (λ r. lane k (f r)) rs z
picked-lane k f [] z = lane-none k
picked-lane k f (r ∷ rs) z =
    lane_xor k (z % 2 * f r) (picked f rs (z / 2)) ∙ (λ i. bit_xor (lane_bit k (z % 2) (f r) (bit_below z) i) (picked-lane k f rs (z / 2) i))

-- two entries agree in every row, and are small
abbrev agree : (Row → ℕ) → (Row → ℕ) → List Row → Bool
agree f g [] = true
agree f g (r ∷ rs) = (eqb (f r) (g r) && ltb (g r) 16) && agree f g rs

picked-agree : (f g : Row → ℕ) (rs : List Row) (z : ℕ) → agree f g rs ≡ true → picked f rs z ≡ picked g rs z
picked-agree f g [] z e = refl
picked-agree f g (r ∷ rs) z e =
    let both = and_parts (eqb (f r) (g r) && ltb (g r) 16) (agree f g rs) e in
    let here = eqb-true _ _ (and_parts (eqb (f r) (g r)) (ltb (g r) 16) both.0).0 in
    λ i. bit_xor (z % 2 * here i) (picked-agree f g rs (z / 2) both.1 i)

picked-small : (f g : Row → ℕ) (rs : List Row) (z : ℕ) → agree f g rs ≡ true → picked g rs z < 2 ^ 4
picked-small f g [] z e = omega arith
picked-small f g (r ∷ rs) z e =
    let both = and_parts (eqb (f r) (g r) && ltb (g r) 16) (agree f g rs) e in
    let here = ltb-true _ _ (and_parts (eqb (f r) (g r)) (ltb (g r) 16) both.0).1 in
    let least = mul-below (z % 2) (g r) (bit_below z) in
    xor_lt 4 (z % 2 * g r) (picked g rs (z / 2)) (omega arith) (picked-small f g rs (z / 2) both.1)

-- every set: the lanes of the patterns, and of the used bits
abbrev lanes_test : ℕ → ℕ → ℕ → Bool
lanes_test l m q =
    below 4 (λ a. agree (λ r. lane (8 * a) (packed r)) (entry_at a) (set_rows l m q) && eqb (lane (8 * a) (used_bits l m)) (cond (ltb a l) (m - 1) 0))

pub and_phases : (m : ℕ) → is_phases m ≡ true → (x : ℕ) → bit_and x (m - 1) ≡ x % m
and_phases m is x =
    ⊎_elim (λ (e : m ≡ 4). rw e (and_mask x 2))
    (λ h. ⊎_elim (λ (e : m ≡ 8). rw e (and_mask x 3)) (λ (e : m ≡ 16). rw e (and_mask x 4)) h)
    (one_of m 4 8 16 is)

pub phases_few : (m : ℕ) → is_phases m ≡ true → m ≤ 16
phases_few m is =
    ⊎_elim (λ (e : m ≡ 4). omega arith) (λ h. ⊎_elim (λ (e : m ≡ 8). omega arith) (λ (e : m ≡ 16). omega arith) h) (one_of m 4 8 16 is)

and_used : (m : ℕ) → is_phases m ≡ true → (b : Bool) (x : ℕ) → bit_and x (cond b (m - 1) 0) ≡ cond b (x % m) 0
and_used m is true x = and_phases m is x
and_used m is false x = and_zero_r x

-- a number below 16 added at every lane, from the lowest up
zeroth_lane : (t x : ℕ) → t + x / 1 % 256 < 256 → (t * 16843009 + x) / 1 % 256 ≡ t + x / 1 % 256
zeroth_lane t x h = omega arith

first_lane : (t x : ℕ) → t + x / 1 % 256 < 256 → (t * 16843009 + x) / 256 ≡ t * 65793 + x / 256
first_lane t x h = omega arith

second_lane : (t x : ℕ) → t + x % 256 < 256 → (t * 65793 + x) % 256 ≡ t + x % 256
second_lane t x h = omega arith

second_carry : (t x : ℕ) → t + x % 256 < 256 → (t * 65793 + x) / 256 ≡ t * 257 + x / 256
second_carry t x h = omega arith

third_lane : (t x : ℕ) → t + x % 256 < 256 → (t * 257 + x) % 256 ≡ t + x % 256
third_lane t x h = omega arith

third_carry : (t x : ℕ) → t + x % 256 < 256 → (t * 257 + x) / 256 ≡ t + x / 256
third_carry t x h = omega arith

last_lane : (t x : ℕ) → t + x % 256 < 256 → (t + x) % 256 ≡ t + x % 256
last_lane t x h = omega arith

module _ (n : Numbers) (w : Within n) where
  lanes : (a : ℕ) → a < 4 → (agree (λ r. lane (8 * a) (packed r)) (entry_at a) (label_rows n) ≡ true) × (lane (8 * a) (used_bits n.places n.phases) ≡ cond (ltb a n.places) (n.phases - 1) 0)
  lanes a h =
      let here = below_at 4 (λ b. agree (λ r. lane (8 * b) (packed r)) (entry_at b) (label_rows n) && eqb (lane (8 * b) (used_bits n.places n.phases)) (cond (ltb b n.places) (n.phases - 1) 0)) (at_set lanes_test refl n w) a h in
      let both = and_parts _ _ here in
      (both.0, eqb-true _ _ both.1)

  lane_pattern : (z a : ℕ) → a < 4 → lane (8 * a) (picked packed (label_rows n) z) ≡ patterns n z a
  lane_pattern z a h = picked-lane (8 * a) packed (label_rows n) z ∙ picked-agree (λ r. lane (8 * a) (packed r)) (entry_at a) (label_rows n) z (lanes a h).0

  pattern_small : (z a : ℕ) → a < 4 → patterns n z a < 16
  pattern_small z a h = picked-small (λ r. lane (8 * a) (packed r)) (entry_at a) (label_rows n) z (lanes a h).0

  -- the joined rows: the turning number t and the patterns p
  module _ (rows : List Row) (rows_are : rows ≡ label_rows n) (z t p : ℕ) (t-is : t ≡ picked (λ r. r.turn) rows z) (p-is : p ≡ picked packed rows z) (fits : p < 2 ^ 32) where
    number : t ≡ turning_number n z
    number = t-is ∙ ap (λ (rs : List Row). picked (λ r. r.turn) rs z) rows_are ∙ turn-picked n w z

    pub turn_small : t < 16
    turn_small = let few = phases_few n.phases w.phases in let below = turning-below n w z in let is = number in omega arith

    at : (a : ℕ) → a < 4 → lane (8 * a) p ≡ patterns n z a
    at a h = ap (lane (8 * a)) (p-is ∙ ap (λ (rs : List Row). picked packed rs z) rows_are) ∙ lane_pattern z a h

    small : (a : ℕ) → a < 4 → lane (8 * a) p < 16
    small a h = subst (λ (x : ℕ). x < 16) (sym (at a h)) (pattern_small z a h)

    pub sum_fits : t * 16843009 + p < 2 ^ 32
    sum_fits = let top : p / 16777216 % 256 < 16 = small 3 (omega arith) in let low = turn_small in omega arith

    -- the sum from each lane on: no lane runs over
    carried-1 : ((t * 16843009 + p) / 256 ≡ t * 65793 + p / 256) × ((t * 16843009 + p) / 256 % 256 ≡ t + p / 256 % 256)
    carried-1 =
        let low = turn_small in
        let s0 : p / 1 % 256 < 16 = small 0 (omega arith) in
        let s1 : p / 256 % 256 < 16 = small 1 (omega arith) in
        let is : (t * 16843009 + p) / 256 ≡ t * 65793 + p / 256 = first_lane t p (omega arith) in
        (is, ap (λ (x : ℕ). x % 256) is ∙ second_lane t (p / 256) (omega arith))

    carried-2 : ((t * 16843009 + p) / 65536 ≡ t * 257 + p / 65536) × ((t * 16843009 + p) / 65536 % 256 ≡ t + p / 65536 % 256)
    carried-2 =
        let low = turn_small in
        let s1 : p / 256 % 256 < 16 = small 1 (omega arith) in
        let s2 : p / 65536 % 256 < 16 = small 2 (omega arith) in
        let is : (t * 16843009 + p) / 65536 ≡ t * 257 + p / 65536 = sym (shr-shr (t * 16843009 + p) 8 8) ∙ ap (λ (x : ℕ). x / 256) carried-1.0 ∙ second_carry t (p / 256) (omega arith) ∙ ap (λ (x : ℕ). t * 257 + x) (shr-shr p 8 8) in
        (is, ap (λ (x : ℕ). x % 256) is ∙ third_lane t (p / 65536) (omega arith))

    carried-3 : (t * 16843009 + p) / 16777216 % 256 ≡ t + p / 16777216 % 256
    carried-3 =
        let low = turn_small in
        let s2 : p / 65536 % 256 < 16 = small 2 (omega arith) in
        let s3 : p / 16777216 % 256 < 16 = small 3 (omega arith) in
        let is : (t * 16843009 + p) / 16777216 ≡ t + p / 16777216 = sym (shr-shr (t * 16843009 + p) 16 8) ∙ ap (λ (x : ℕ). x / 256) carried-2.0 ∙ third_carry t (p / 65536) (omega arith) ∙ ap (λ (x : ℕ). t + x) (shr-shr p 16 8) in
        ap (λ (x : ℕ). x % 256) is ∙ last_lane t (p / 16777216) (omega arith)

    lane-sum : (a : ℕ) → a < 4 → lane (8 * a) (t * 16843009 + p) ≡ t + lane (8 * a) p
    lane-sum zero h = let low = turn_small in let s0 : p / 1 % 256 < 16 = small 0 (omega arith) in zeroth_lane t p (omega arith)
    lane-sum (suc zero) h = carried-1.1
    lane-sum (suc (suc zero)) h = carried-2.1
    lane-sum (suc (suc (suc zero))) h = carried-3
    lane-sum (suc (suc (suc (suc a)))) h = absurd (omega arith)

    phase : (a : ℕ) → a < 4 → lane (8 * a) (bit_and (t * 16843009 + p) (used_bits n.places n.phases)) ≡ phase_at n z a
    phase a h =
        lane_and (8 * a) (t * 16843009 + p) (used_bits n.places n.phases)
        ∙ (λ i. bit_and (lane-sum a h i) ((lanes a h).1 i))
        ∙ and_used n.phases w.phases (ltb a n.places) (t + lane (8 * a) p)
        ∙ (λ i. cond (ltb a n.places) ((number i + at a h i) % n.phases) 0)

    pub phases-are : (y : ℕ) → y ≡ bit_and (t * 16843009 + p) (used_bits n.places n.phases) → (y % 256 ∷ y / 256 % 256 ∷ y / 65536 % 256 ∷ y / 16777216 % 256 ∷ []) ≡ symbol_of n z
    phases-are y e =
        let first : y % 256 ≡ lane (8 * 0) y = omega arith in
        λ i. (first ∙ ap (lane (8 * 0)) e ∙ phase 0 (omega arith)) i ∷ (ap (lane (8 * 1)) e ∙ phase 1 (omega arith)) i
        ∷ (ap (lane (8 * 2)) e ∙ phase 2 (omega arith)) i ∷ (ap (lane (8 * 3)) e ∙ phase 3 (omega arith)) i ∷ []
