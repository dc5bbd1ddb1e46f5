-- The loops over the turning bits.
use Rattle.std.proofs.Common.{◌≡◌, ℕ, zero, suc, ◌+◌, ◌-◌, ◌*◌, ◌/◌, ◌%◌, ◌^◌, ◌<◌, ◌≤◌, Bool, true, false, cond, eqb, leb, length, sym, refl, ap, ◌∙◌, add_assoc, add-one, arith}
use native.Mathlib.Nat.{pow-le-pow_right}
use Rattle.std.proofs.lemmas.Nat.{shl_whole}
use Rattle.std.proofs.lemmas.Bool.{leb-true}
use Rattle.trellis.specs.declared.Numbers.{Numbers}
use Rattle.trellis.specs.Label.{put, turns_by}
use Rattle.trellis.specs.Limits.{limit_fault}
use Rattle.trellis.specs.Mapper.{turning_number}
use Rattle.trellis.specs.Numbers.{phase_bits}
use Rattle.trellis.specs.Rows.{label_rows}
use Rattle.trellis.specs.Step.{turning_bit}
use Rattle.trellis.proofs.Gather.{bit_below, put-below}
use Rattle.trellis.proofs.MapperLaws.{set_rows}
use Rattle.trellis.proofs.Positions.{read_at, write_at, turning_bits, turning_read, turning_write, bit_small}
use Rattle.trellis.proofs.Sets.{within, at_set}

abbrev rows_test : ℕ → ℕ → ℕ → Bool
rows_test l m q = leb (length (set_rows l m q)) 16

read_small : (l i q j k z : ℕ) → k ≤ 4 → read_at (turning_bits l i q j k) z < 16
read_small l i q j zero z h = omega arith
read_small l i q j (suc zero) z h = omega arith
read_small l i q j (suc (suc zero)) z h = omega arith
read_small l i q j (suc (suc (suc zero))) z h = omega arith
read_small l i q j (suc (suc (suc (suc zero)))) z h = omega arith
read_small l i q j (suc (suc (suc (suc (suc k))))) z h = absurd (omega arith)

bits_few : (n : Numbers) → phase_bits n ≤ 4
bits_few n = elim (eqb n.phases 4) as (λ b. cond b 2 (cond (eqb n.phases 8) 3 4) ≤ 4) [
  | true ↦ omega arith
  | false ↦ elim (eqb n.phases 8) as (λ b. cond b 3 4 ≤ 4) [ true ↦ omega arith | false ↦ omega arith ]
]

module _ (n : Numbers) where
  -- read from level j on, and made from level j on
  abbrev pub read_from : ℕ → ℕ → ℕ
  read_from j z = read_at (turning_bits n.places (phase_bits n) n.offset j (phase_bits n - j)) z

  abbrev pub write_from : ℕ → ℕ → ℕ
  write_from j t = write_at (turning_bits n.places (phase_bits n) n.offset j (phase_bits n - j)) t

  -- the number that is read is small
  pub read_few : (j number z : ℕ) → number ≡ read_from j z → number < 16
  read_few j number z is =
      let bits = bits_few n in
      let few = read_small n.places (phase_bits n) n.offset j (phase_bits n - j) z (omega arith) in
      omega arith

  pub read_down : (j t number z : ℕ) → 0 < j → j ≤ phase_bits n → t ≡ turning_bit n (j - 1) → number ≡ read_from j z → z / 2 ^ t % 2 + 2 * number ≡ read_from (j - 1) z
  read_down j t number z some most at is =
      let up : suc (j - 1) ≡ j = omega arith in
      let more : suc (phase_bits n - j) ≡ phase_bits n - (j - 1) = omega arith in
      (λ i. z / 2 ^ at i % 2 + 2 * is i)
      ∙ ap (λ (k : ℕ). z / 2 ^ turning_bit n (j - 1) % 2 + 2 * read_at (turning_bits n.places (phase_bits n) n.offset k (phase_bits n - j)) z) (sym up)
      ∙ ap (λ (k : ℕ). read_at (turning_bits n.places (phase_bits n) n.offset (j - 1) k) z) more

  pub read_all : limit_fault n ≡ 0 → (j number z : ℕ) → j ≡ 0 → number ≡ read_from j z → number ≡ turning_number n z
  read_all ok j number z e is =
      let whole : phase_bits n - 0 ≡ phase_bits n = omega arith in
      is ∙ ap (λ (k : ℕ). read_from k z) e
      ∙ ap (λ (k : ℕ). read_at (turning_bits n.places (phase_bits n) n.offset 0 k) z) whole ∙ sym (turning_read n (within n ok) z)

  -- what is made so far and what is left make the whole
  abbrev pub Making : ℕ → ℕ → ℕ → ℕ → Type 0
  Making j made rest number = made + write_from j rest ≡ write_from 0 number

  whole_write : limit_fault n ≡ 0 → (t : ℕ) → write_from 0 t ≡ put (turns_by 1) (label_rows n) t 0
  whole_write ok t =
      let whole : phase_bits n - 0 ≡ phase_bits n = omega arith in
      ap (λ (k : ℕ). write_at (turning_bits n.places (phase_bits n) n.offset 0 k) t) whole ∙ sym (turning_write n (within n ok) t)

  whole_small : limit_fault n ≡ 0 → (t : ℕ) → write_from 0 t < 65536
  whole_small ok t =
      let few = leb-true _ _ (at_set rows_test refl n (within n ok)) in
      let up : 2 ^ length (label_rows n) ≤ 2 ^ 16 = pow-le-pow_right {n = 2} (omega arith) {i = length (label_rows n)} {j = 16} few in
      let less = put-below (turns_by 1) (label_rows n) t 0 in
      let is = whole_write ok t in
      omega arith

  module _ (ok : limit_fault n ≡ 0) (j t made rest number : ℕ) (less : j < phase_bits n) (at : t ≡ turning_bit n j) (so_far : Making j made rest number) where
    shifted : (rest % 2 * 2 ^ t) % 65536 ≡ rest % 2 * 2 ^ t
    shifted = let small = bit_small n (within n ok) j less in shl_whole (rest % 2) 1 t 16 (bit_below rest) (omega arith)

    split : write_from j rest ≡ rest % 2 * 2 ^ turning_bit n j + write_from (j + 1) (rest / 2)
    split =
        let more : phase_bits n - j ≡ suc (phase_bits n - (j + 1)) = omega arith in
        ap (λ (k : ℕ). write_at (turning_bits n.places (phase_bits n) n.offset j k) rest) more
        ∙ ap (λ (k : ℕ). rest % 2 * 2 ^ turning_bit n j + write_at (turning_bits n.places (phase_bits n) n.offset k (phase_bits n - (j + 1))) (rest / 2)) (sym (add-one j))

    pub make-more : Making (j + 1) (made + (rest % 2 * 2 ^ t) % 65536) (rest / 2) number
    make-more =
        (λ i. (made + (shifted ∙ ap (λ (k : ℕ). rest % 2 * 2 ^ k) at) i) + write_from (j + 1) (rest / 2))
        ∙ add_assoc made (rest % 2 * 2 ^ turning_bit n j) (write_from (j + 1) (rest / 2)) ∙ ap (λ (x : ℕ). made + x) (sym split) ∙ so_far

    pub make-fits : made + (rest % 2 * 2 ^ t) % 65536 < 65536
    make-fits = let all = make-more in let small = whole_small ok number in omega arith

  pub make_all : limit_fault n ≡ 0 → (j made rest number : ℕ) → phase_bits n ≤ j → Making j made rest number → made ≡ put (turns_by 1) (label_rows n) number 0
  make_all ok j made rest number past so_far =
      let none : phase_bits n - j ≡ 0 = omega arith in
      let end : write_from j rest ≡ 0 = ap (λ (k : ℕ). write_at (turning_bits n.places (phase_bits n) n.offset j k) rest) none in
      let whole = whole_write ok number in
      omega arith
