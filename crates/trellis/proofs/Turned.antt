-- Turned labels of an accepted code: their number, their syndrome, and the data words between them.
use Rattle.std.proofs.Common.{◌≡◌, ℕ, ◌+◌, ◌-◌, ◌*◌, ◌/◌, ◌%◌, ◌^◌, ◌<◌, Bool, true, false, cond, eqb, List, [], ◌∷◌, length, get_or, sym, refl, ap, ◌∙◌, subst, add-zero, add_assoc, mod-lt, mod-eq_of_lt, div-add-mod', zero-add, arith, pow_pos}
use native.Mathlib.Nat.{add-mul-div_right, mod-mod, mod-add-mod, add-mod-mod, add-mul-mod_self_right}
use lib.Bits.{bit_xor, xor_assoc, xor_zero_r, xor_self}
use lib.Count.{ones}
use lib.Pow.{field, mod-mod-pow}
use Rattle.std.proofs.lemmas.Bool.{cond-true, cond-false, eq-eqb, ne_eqb}
use Rattle.trellis.specs.declared.Numbers.{Numbers}
use Rattle.trellis.specs.declared.Row.{Row}
use Rattle.trellis.specs.Label.{gather, put, turns_by}
use Rattle.trellis.specs.Limits.{limit_fault, polynomial_fault, parity_turns}
use Rattle.trellis.specs.Mapper.{turning_number, turned_label}
use Rattle.trellis.specs.Numbers.{phase_bits, label_bits, polynomials}
use Rattle.trellis.specs.Parity.{syndrome}
use Rattle.trellis.specs.Precoder.{differential}
use Rattle.trellis.specs.Rows.{label_rows}
use Rattle.trellis.specs.Step.{turning_bit, checked_turns, exponent_at, step_exponent, step, differential_bits}
use Rattle.trellis.specs.Words.{rise, word_between}
use Rattle.trellis.proofs.BurstLaws.{Sends, sends, exponent_bound}
use Rattle.trellis.proofs.CheckedTurns.{checked_polynomials, turning_polynomials, Checked, checked}
use Rattle.trellis.proofs.Distinct.{phases_power}
use Rattle.trellis.proofs.Gather.{gather-put, gather-below, put-below}
use Rattle.trellis.proofs.Levels.{gather_from, put_from}
use Rattle.trellis.proofs.MapperLaws.{turns_well_lem, turning-below}
use Rattle.trellis.proofs.Sets.{Within, within}
use Rattle.trellis.proofs.Syndromes.{syndrome-zero, syndrome_low, syndrome-put, put-put, put-gather}
use Rattle.trellis.proofs.Turnings.{exponent_of}

-- An accepted code, with what is known of it.
pub record Accepted (n : Numbers) : Type 0 where
  pub sets : Within n
  pub sender : Sends n
  pub check : Checked n

pub accept : (n : Numbers) → limit_fault n ≡ 0 → polynomial_fault n ≡ 0 → parity_turns n ≡ false → Accepted n
accept n l p z = record { sets = within n l; sender = sends n l p z; check = checked n l p }

-- x xor y, and y with h more
pub xor_cancel : (a b h : ℕ) → bit_xor (bit_xor a b) (bit_xor b h) ≡ bit_xor a h
xor_cancel a b h = xor_assoc a b (bit_xor b h) ∙ ap (bit_xor a) (sym (xor_assoc b b h) ∙ ap (λ (k : ℕ). bit_xor k h) (xor_self b))

pub xor-back : (a h : ℕ) → bit_xor (bit_xor a h) h ≡ a
xor-back a h = xor_assoc a h h ∙ ap (bit_xor a) (xor_self h) ∙ xor_zero_r a

-- the exponent of the step, by the polynomials of the checked turning bits
exponent_by : (n : Numbers) (turns : ℕ) (ps : List ℕ) → length ps ≡ turns → ((j : ℕ) → j < length ps → get_or ps j 0 ≡ get_or (polynomials n) (turning_bit n j) 0) → cond (eqb turns 0) 0 (exponent_at n (turns - 1)) ≡ exponent_of ps
exponent_by n turns [] is at = cond-true (eqb turns 0) _ _ (eq-eqb turns 0 (sym is))
exponent_by n turns (p ∷ ps) is at =
    let some : turns ≡ 0 → ⊥ = λ e. omega arith in
    let less : turns - 1 ≡ length ps = omega arith in
    cond-false (eqb turns 0) _ _ (ne_eqb turns 0 some) ∙ ap (exponent_at n) less ∙ ap (λ (h : ℕ). length ps + ones h % 2) (sym (at (length ps) (omega arith)))

pub gather_nothing : (marked : Row → Bool) (rs : List Row) → gather marked rs 0 ≡ 0
gather_nothing marked [] = refl
gather_nothing marked (r ∷ rs) =
    let rest = gather_nothing marked rs in
    elim (marked r) as (λ b. cond b (0 % 2 + 2 * gather marked rs 0) (gather marked rs 0) ≡ 0) [ true ↦ omega arith | false ↦ rest ]

-- a difference modulo m does not see what both have more
rise-same : (a b q m : ℕ) → 0 < m → b < m → ((a + q) % m + (m - (b + q) % m)) % m ≡ (a + (m - b)) % m
rise-same a b q m pos small =
    let y = (b + q) % m in
    let k = (b + q) / m in
    let whole : k * m + y ≡ b + q = div-add-mod' (b + q) m in
    let y-small : y < m = mod-lt (b + q) pos in
    let sum : a + q + (m - y) ≡ a + (m - b) + k * m = omega arith in
    mod-add-mod (a + q) m (m - y) ∙ ap (λ (x : ℕ). x % m) sum ∙ add-mul-mod_self_right (a + (m - b)) k m

module _ (n : Numbers) (a : Accepted n) where
  pub exponent_is : step_exponent n ≡ exponent_of (turning_polynomials n)
  exponent_is = exponent_by n (checked_turns n n.checked (phase_bits n)) (turning_polynomials n) a.check.counts a.check.at

  power : 2 ^ phase_bits n ≡ n.phases
  power = phases_power n a.sets

  pub turned-below : (r z : ℕ) → turned_label n r z < 2 ^ label_bits n
  turned-below r z = subst (λ (k : ℕ). turned_label n r z < 2 ^ k) a.sender.long (put-below (turns_by 1) (label_rows n) ((turning_number n z + r) % n.phases) z)

  read_back : (t z : ℕ) → gather (turns_by 1) (label_rows n) (put (turns_by 1) (label_rows n) t z) ≡ t % n.phases
  read_back t z = gather-put (turns_by 1) (label_rows n) t z ∙ ap (λ (k : ℕ). t % k) (turns_well_lem n a.sets).all

  pub turned_number : (r z : ℕ) → turning_number n (turned_label n r z) ≡ (turning_number n z + r) % n.phases
  turned_number r z = read_back ((turning_number n z + r) % n.phases) z ∙ mod-mod (turning_number n z + r) n.phases

  same_label : (z : ℕ) → z < 2 ^ label_bits n → put (turns_by 1) (label_rows n) (turning_number n z) z ≡ z
  same_label z h = put-gather (turns_by 1) (label_rows n) z (subst (λ (k : ℕ). z < 2 ^ k) (sym a.sender.long) h)

  -- two turnings that make up whole turns
  pub turned-back : (r u z : ℕ) → z < 2 ^ label_bits n → (r + u) % n.phases ≡ 0 → turned_label n u (turned_label n r z) ≡ z
  turned-back r u z h e =
      let T = turning_number n z in
      let M = n.phases in
      let t = (T + r) % M in
      let number : (turning_number n (turned_label n r z) + u) % M ≡ T =
      ap (λ (k : ℕ). (k + u) % M) (turned_number r z) ∙ mod-add-mod (T + r) M u ∙ ap (λ (k : ℕ). k % M) (add_assoc T r u)
      ∙ sym (add-mod-mod T (r + u) M) ∙ ap (λ (k : ℕ). (T + k) % M) e ∙ ap (λ (k : ℕ). k % M) (add-zero T) ∙ mod-eq_of_lt (turning-below n a.sets z) in
      ap (λ (k : ℕ). put (turns_by 1) (label_rows n) k (turned_label n r z)) number ∙ put-put (turns_by 1) (label_rows n) T t z ∙ same_label z h

  -- the syndrome of a label whose turning number is replaced
  syndrome_with : (t z : ℕ) → syndrome (polynomials n) (put (turns_by 1) (label_rows n) t z) ≡ bit_xor (syndrome (polynomials n) (put (turns_by 1) (label_rows n) 0 z)) (syndrome (turning_polynomials n) t)
  syndrome_with t z =
      a.check.same (put (turns_by 1) (label_rows n) t z) ∙ syndrome-put (turns_by 1) (label_rows n) (checked_polynomials n) t z a.check.fits
      ∙ ap (λ (k : ℕ). bit_xor k (syndrome (turning_polynomials n) t)) (sym (a.check.same (put (turns_by 1) (label_rows n) 0 z)))

  whole_turns : (t : ℕ) → syndrome (turning_polynomials n) (t % n.phases) ≡ syndrome (turning_polynomials n) t
  whole_turns t = ap (λ (k : ℕ). syndrome (turning_polynomials n) (t % k)) (sym power) ∙ syndrome_low (turning_polynomials n) (phase_bits n) t a.check.few

  -- of a turned label
  pub syndrome-turned : (r z h : ℕ) → z < 2 ^ label_bits n → syndrome (turning_polynomials n) (turning_number n z + r) ≡ bit_xor (syndrome (turning_polynomials n) (turning_number n z)) h → syndrome (polynomials n) (turned_label n r z) ≡ bit_xor (syndrome (polynomials n) z) h
  syndrome-turned r z h small adds =
      let T = turning_number n z in
      let Z = syndrome (polynomials n) (put (turns_by 1) (label_rows n) 0 z) in
      let plain : syndrome (polynomials n) z ≡ bit_xor Z (syndrome (turning_polynomials n) T) = ap (syndrome (polynomials n)) (sym (same_label z small)) ∙ syndrome_with T z in
      syndrome_with ((T + r) % n.phases) z ∙ ap (bit_xor Z) (whole_turns (T + r) ∙ adds)
      ∙ sym (xor_assoc Z (syndrome (turning_polynomials n) T) h) ∙ ap (λ (k : ℕ). bit_xor k h) (sym plain)

  -- Labels that have a turning number and nothing else.
  pub bare_below : (t : ℕ) → put (turns_by 1) (label_rows n) t 0 < 2 ^ label_bits n
  bare_below t = subst (λ (k : ℕ). put (turns_by 1) (label_rows n) t 0 < 2 ^ k) a.sender.long (put-below (turns_by 1) (label_rows n) t 0)

  put_nothing : put (turns_by 1) (label_rows n) 0 0 ≡ 0
  put_nothing =
      let none : gather (turns_by 1) (label_rows n) 0 ≡ 0 = gather_nothing (turns_by 1) (label_rows n) in
      ap (λ (k : ℕ). put (turns_by 1) (label_rows n) k 0) (sym none) ∙ put-gather (turns_by 1) (label_rows n) 0 (pow_pos (length (label_rows n)))

  pub bare_syndrome : (t : ℕ) → syndrome (polynomials n) (put (turns_by 1) (label_rows n) t 0) ≡ syndrome (turning_polynomials n) t
  bare_syndrome t = syndrome_with t 0 ∙ ap (λ (k : ℕ). bit_xor k (syndrome (turning_polynomials n) t)) (ap (syndrome (polynomials n)) put_nothing ∙ syndrome-zero (polynomials n))

  pub bare_turned : (r t : ℕ) → syndrome (polynomials n) (turned_label n r (put (turns_by 1) (label_rows n) t 0)) ≡ syndrome (turning_polynomials n) (t + r)
  bare_turned r t =
      let M = n.phases in
      let number : (turning_number n (put (turns_by 1) (label_rows n) t 0) + r) % M ≡ (t + r) % M = ap (λ (k : ℕ). (k + r) % M) (read_back t 0) ∙ mod-add-mod t M r in
      ap (syndrome (polynomials n)) (ap (λ (k : ℕ). put (turns_by 1) (label_rows n) k (put (turns_by 1) (label_rows n) t 0)) number ∙ put-put (turns_by 1) (label_rows n) ((t + r) % M) t 0)
      ∙ bare_syndrome ((t + r) % M) ∙ whole_turns (t + r)

  -- The differential number is the turning number from the step's level on.
  number_from : (z : ℕ) → differential n z ≡ turning_number n z / step n
  number_from z =
      ap (λ (k : ℕ). gather (turns_by (2 ^ k)) (label_rows n) z) (sym (zero-add (step_exponent n))) ∙ gather_from 0 (step_exponent n) (label_rows n) z (turns_well_lem n a.sets).rises

  bits_split : differential_bits n + step_exponent n ≡ phase_bits n
  bits_split = omega (arith, exponent_bound n)

  pub phases_split : n.phases ≡ 2 ^ (differential_bits n + step_exponent n)
  phases_split = sym (ap (λ (k : ℕ). 2 ^ k) bits_split ∙ power)

  -- A turning by a multiple of the step raises it by as many steps,
  differential-turned : (r z : ℕ) → r % step n ≡ 0 → differential n (turned_label n r z) ≡ (differential n z + r / step n) % 2 ^ differential_bits n
  differential-turned r z e =
      let T = turning_number n z in
      let d = step_exponent n in
      let steps : r / step n * step n ≡ r = sym (add-zero _) ∙ ap (λ (k : ℕ). r / step n * step n + k) (sym e) ∙ div-add-mod' r (step n) in
      number_from (turned_label n r z) ∙ ap (λ (k : ℕ). k / step n) (turned_number r z ∙ ap (λ (k : ℕ). (T + r) % k) phases_split)
      ∙ field (T + r) (differential_bits n) d
      ∙ ap (λ (k : ℕ). k % 2 ^ differential_bits n) (ap (λ (k : ℕ). (T + k) / step n) (sym steps) ∙ add-mul-div_right T (r / step n) (pow_pos d) ∙ ap (λ (k : ℕ). k + r / step n) (sym (number_from z)))

  -- and leaves all other bits.
  others_turned : (r z t : ℕ) → r % step n ≡ 0 → put (turns_by (step n)) (label_rows n) t (turned_label n r z) ≡ put (turns_by (step n)) (label_rows n) t z
  others_turned r z t e =
      let T = turning_number n z in
      let d = step_exponent n in
      let u = (T + r) % n.phases in
      let low : u % 2 ^ d ≡ T % 2 ^ d =
      ap (λ (k : ℕ). (T + r) % k % 2 ^ d) phases_split ∙ mod-mod-pow (T + r) (differential_bits n) d ∙ sym (add-mod-mod T r (2 ^ d)) ∙ ap (λ (k : ℕ). (T + k) % 2 ^ d) e ∙ ap (λ (k : ℕ). k % 2 ^ d) (add-zero T) in
      let is : turned_label n r z ≡ put (turns_by (step n)) (label_rows n) (u / 2 ^ d) z =
      put_from 0 d (label_rows n) u z (turns_well_lem n a.sets).rises low ∙ ap (λ (k : ℕ). put (turns_by (2 ^ k)) (label_rows n) (u / 2 ^ d) z) (zero-add d) in
      ap (put (turns_by (step n)) (label_rows n) t) is ∙ put-put (turns_by (step n)) (label_rows n) t (u / 2 ^ d) z

  pub differential-below : (z : ℕ) → differential n z < 2 ^ differential_bits n
  differential-below z = subst (λ (k : ℕ). differential n z < 2 ^ k) a.sender.wide (gather-below (turns_by (step n)) (label_rows n) z)

  -- So the data word between two labels stays.
  pub word_turned : (r y z : ℕ) → r % step n ≡ 0 → word_between n (turned_label n r y) (turned_label n r z) ≡ word_between n y z
  word_turned r y z e =
      let m = 2 ^ differential_bits n in
      let q = r / step n in
      let same : rise n (turned_label n r y) (turned_label n r z) ≡ rise n y z =
      (λ i. (differential-turned r z e i + (m - differential-turned r y e i)) % m)
      ∙ rise-same (differential n z) (differential n y) q m (pow_pos (differential_bits n)) (differential-below y) in
      ap (λ (k : ℕ). k / 2) (others_turned r z (rise n (turned_label n r y) (turned_label n r z)) e ∙ ap (λ (k : ℕ). put (turns_by (step n)) (label_rows n) k z) same)
