-- What the encoder's numbers are, and that they fit.
use Rattle.std.proofs.Common.{◌≡◌, ℕ, suc, ◌+◌, ◌-◌, ◌*◌, ◌/◌, ◌%◌, ◌^◌, ◌<◌, ◌≤◌, Bool, true, List, [], ◌∷◌, drop, sym, refl, ap, ◌∙◌, subst, ⊎_elim, zero-add, zero-mul, arith, pow_pos}
use native.Mathlib.Nat.{pow-le-pow_right, zero-mod, mul-mod_left}
use lib.Bits.{bit_and, bit_xor, and_mask, xor_lt}
use Rattle.std.proofs.lemmas.Nat.{shl-shr, shl_whole, shr_le}
use Rattle.std.proofs.lemmas.Bool.{not-true, cases_Bool}
use Rattle.code.specs.declared.record.Code.{Code}
use Rattle.trellis.specs.declared.Numbers.{Numbers}
use Rattle.trellis.specs.declared.Row.{Row}
use Rattle.trellis.specs.Label.{gather, put, turns_by}
use Rattle.trellis.specs.Mapper.{turning_number}
use Rattle.trellis.specs.Numbers.{label_bits, word_bits, polynomials}
use Rattle.trellis.specs.Parity.{syndrome}
use Rattle.trellis.specs.Precoder.{differential, placed, with_parity}
use Rattle.trellis.specs.Rows.{label_rows}
use Rattle.trellis.specs.Step.{step, step_exponent, differential_bits}
use Rattle.trellis.proofs.BurstLaws.{Sends, sends}
use Rattle.trellis.proofs.Gather.{double, gather_marked, gather_other, put_other}
use Rattle.trellis.proofs.Levels.{gather_from, put_from}
use Rattle.trellis.proofs.MapperLaws.{turns_well_lem, turning-below}
use Rattle.trellis.proofs.OneLabel.{head_free}
use Rattle.trellis.proofs.Positions.{put-xor}
use Rattle.trellis.proofs.Sets.{Within, within, one_of}

pub accepted : (k : Code) → Sends k.numbers
accepted k = sends k.numbers k.limits k.polynomials k.parity

power_up : (i j : ℕ) → i ≤ j → 2 ^ i ≤ 2 ^ j
power_up i j h = pow-le-pow_right {n = 2} (omega arith) {i = i} {j = j} h

gather_none : (marked : Row → Bool) (rs : List Row) → gather marked rs 0 ≡ 0
gather_none marked [] = refl
gather_none marked (r ∷ rs) =
    ⊎_elim (λ m. gather_marked marked r rs 0 m ∙ ap (λ (x : ℕ). 0 + 2 * x) (gather_none marked rs))
    (λ m. gather_other marked r rs 0 m ∙ gather_none marked rs) (cases_Bool (marked r))

-- the first row is not marked, so the lowest bit stays
put_even : (marked : Row → Bool) (rs : List Row) (t z : ℕ) → head_free marked rs ≡ true → z % 2 ≡ 0 → put marked rs t z % 2 ≡ 0
put_even marked [] t z free e = refl
put_even marked (r ∷ rs) t z free e =
    let is = put_other marked r rs t z (not-true (marked r) free) in omega arith

module _ (k : Code) where
  ok : Within k.numbers
  ok = within k.numbers k.limits

  phases_most : k.numbers.phases ≤ 16
  phases_most =
      ⊎_elim (λ (h : k.numbers.phases ≡ 4). omega arith) (λ h. ⊎_elim (λ (h : k.numbers.phases ≡ 8). omega arith) (λ (h : k.numbers.phases ≡ 16). omega arith) h) (one_of k.numbers.phases 4 8 16 ok.phases)

  module _ (e : ℕ) (e-is : e ≡ step_exponent k.numbers) where
    -- the number of a label at the differential places
    pub number_is : (t z : ℕ) → t ≡ turning_number k.numbers z → t / 2 ^ e ≡ differential k.numbers z
    number_is t z is =
        (λ i. is i / 2 ^ e) ∙ sym (gather_from 0 e (label_rows k.numbers) z (turns_well_lem k.numbers ok).rises)
        ∙ ap (λ (j : ℕ). gather (turns_by (2 ^ j)) (label_rows k.numbers) z) (zero-add e ∙ e-is)

    pub number_small : (t z : ℕ) → t ≡ turning_number k.numbers z → t / 2 ^ e < 16
    number_small t z is =
        let few = phases_most in
        let less = turning-below k.numbers ok z in
        let down = shr_le t e in
        omega arith

    -- the modulus of the differential number, which is a power of two
    pub modulus_is : k.numbers.phases / 2 ^ e ≡ 2 ^ differential_bits k.numbers
    modulus_is = ap (λ (j : ℕ). k.numbers.phases / 2 ^ j) e-is ∙ (accepted k).modulus

    pub modulus-some : 0 < k.numbers.phases / 2 ^ e
    modulus-some = subst (λ (x : ℕ). 0 < x) (sym modulus_is) (pow_pos (differential_bits k.numbers))

    pub risen-is : (x : ℕ) → bit_and x (k.numbers.phases / 2 ^ e - 1) ≡ x % 2 ^ differential_bits k.numbers
    risen-is x = ap (λ (m : ℕ). bit_and x (m - 1)) modulus_is ∙ and_mask x (differential_bits k.numbers)

    -- the bits that are turned over
    pub shifted : e ≤ 4 → (x : ℕ) → x < 16 → (x * 2 ^ e) % 256 ≡ x * 2 ^ e
    shifted few x h = shl_whole x 4 e 8 h (omega arith)

    flip_is : (x : ℕ) → put (turns_by 1) (label_rows k.numbers) (x * 2 ^ e) 0 ≡ put (turns_by (step k.numbers)) (label_rows k.numbers) x 0
    flip_is x =
        let low : (x * 2 ^ e) % 2 ^ e ≡ gather (turns_by 1) (label_rows k.numbers) 0 % 2 ^ e = mul-mod_left x (2 ^ e) ∙ sym (ap (λ (y : ℕ). y % 2 ^ e) (gather_none (turns_by 1) (label_rows k.numbers)) ∙ zero-mod (2 ^ e)) in
        put_from 0 e (label_rows k.numbers) (x * 2 ^ e) 0 (turns_well_lem k.numbers ok).rises low
        ∙ (λ i. put (turns_by (2 ^ (zero-add e ∙ e-is) i)) (label_rows k.numbers) (shl-shr x e i) 0)

    module _ (few : e ≤ 4) (g V z : ℕ) (g-is : g ≡ differential k.numbers z) (g-small : g < 16) (V-small : V < 16) (fits : z < 2 ^ label_bits k.numbers) where
      pub replaced_is : (x : ℕ) → x ≡ put (turns_by 1) (label_rows k.numbers) ((bit_xor g V * 2 ^ e) % 256) 0 → bit_xor z x ≡ put (turns_by (step k.numbers)) (label_rows k.numbers) V z
      replaced_is x is =
          ap (bit_xor z) (is ∙ ap (λ (y : ℕ). put (turns_by 1) (label_rows k.numbers) y 0) (shifted few (bit_xor g V) (xor_lt 4 g V g-small V-small)) ∙ flip_is (bit_xor g V))
          ∙ ap (λ (y : ℕ). bit_xor z (put (turns_by (step k.numbers)) (label_rows k.numbers) (bit_xor y V) 0)) g-is
          ∙ sym (put-xor (turns_by (step k.numbers)) (label_rows k.numbers) V z (subst (λ (j : ℕ). z < 2 ^ j) (sym (accepted k).long) fits))

  -- a word at its place is a label, and it stays even where its number is replaced
  pub placed_fits : (w : ℕ) → w < 2 ^ word_bits k.numbers → placed w < 2 ^ label_bits k.numbers
  placed_fits w h =
      let least = (accepted k).least in
      let more : suc (word_bits k.numbers) ≡ label_bits k.numbers = omega (arith, (accepted k).long) in
      subst (λ (j : ℕ). 2 * w < 2 ^ j) more (let twice = double (word_bits k.numbers) in omega arith)

  pub even-placed : (V w x : ℕ) → x ≡ put (turns_by (step k.numbers)) (label_rows k.numbers) V (placed w) → x % 2 ≡ 0
  even-placed V w x is =
      ap (λ (y : ℕ). y % 2) is ∙ put_even (turns_by (step k.numbers)) (label_rows k.numbers) V (placed w) (accepted k).free (omega arith)

-- the parity bit, from the syndrome y of the other bits
module _ (n : Numbers) (S x y z : ℕ) (even : x % 2 ≡ 0) (y-is : y ≡ syndrome (drop 1 (polynomials n)) (x / 2)) (z-is : z ≡ x + bit_xor S y % 2) where
  pub label_is : z ≡ with_parity (polynomials n) S x
  label_is =
      let none : x % 2 * n.h0 ≡ 0 = ap (λ (b : ℕ). b * n.h0) even ∙ zero-mul n.h0 in
      z-is ∙ ap (λ (v : ℕ). x + bit_xor S v % 2) (y-is ∙ sym (ap (λ (v : ℕ). bit_xor v (syndrome (drop 1 (polynomials n)) (x / 2))) none))
