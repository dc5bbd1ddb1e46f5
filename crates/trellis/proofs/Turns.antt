-- The count of checked turning bits, and whether the parity bit turns, with no search over the levels.
use Rattle.std.proofs.Common.{◌≡◌, ℕ, ◌-◌, ◌%◌, ◌<◌, ◌≤◌, Bool, true, false, cond, not, ◌&&◌, ◌||◌, eqb, leb, get_or, sym, refl, ap, ◌∙◌, ⊎_elim, zero-add, arith}
use lib.Count.{ones}
use Rattle.std.proofs.lemmas.Bool.{and_parts, or_cases, eqb-true, eq-eqb, ne_eqb, leb-true, cases_eq, cond-true, cond-false}
use Rattle.std.proofs.Math.Bool.{and_assoc}
use Rattle.trellis.specs.declared.Numbers.{Numbers}
use Rattle.trellis.specs.Limits.{parity_turns}
use Rattle.trellis.specs.Numbers.{phase_bits, word_bits, polynomials}
use Rattle.trellis.specs.Step.{turning_row, turning_bit, checked_turns, exponent_at, step_exponent}
use Rattle.trellis.specs.Sums.{turns_by_sum, parity_by_sum}
use Rattle.trellis.proofs.CheckedTurns.{turns_of, turns_of_lem}
use Rattle.trellis.proofs.MapperLaws.{bits_of}
use Rattle.trellis.proofs.Sets.{Within, at_set, below, below_at}

abbrev sum_test : ℕ → ℕ → ℕ → Bool
sum_test l m q = below 4 (λ c. eqb (turns_of l m q c (bits_of m)) (turns_by_sum l (bits_of m) q c))

pub checked_some : (n : Numbers) → Within n → 1 ≤ n.checked
checked_some n w = leb-true _ _ (and_parts (leb 1 n.checked) _ w.checked).0

pub checked_few : (n : Numbers) → Within n → n.checked < 4
checked_few n w =
    let rest = (and_parts (leb 1 n.checked) (leb n.checked 3 && leb n.checked (word_bits n)) w.checked).1 in
    let few = leb-true _ _ (and_parts (leb n.checked 3) (leb n.checked (word_bits n)) rest).0 in
    omega arith

pub turns_sum : (n : Numbers) → Within n → checked_turns n n.checked (phase_bits n) ≡ turns_by_sum n.places (phase_bits n) n.offset n.checked
turns_sum n w =
    turns_of_lem n n.checked (phase_bits n)
    ∙ eqb-true _ _ (below_at 4 (λ c. eqb (turns_of n.places n.phases n.offset c (phase_bits n)) (turns_by_sum n.places (phase_bits n) n.offset c)) (at_set sum_test refl n w) n.checked (checked_few n w))

-- the parity bit is the lowest turning bit and the only checked one in just these sets
abbrev pub lone_set : ℕ → ℕ → ℕ → Bool
lone_set l q c = eqb l 2 && (eqb q 1 && eqb c 1)

abbrev same : Bool → Bool → Bool
same a b = cond a b (not b)

same_is : (a b : Bool) → same a b ≡ true → a ≡ b
same_is true b e = sym e
same_is false true e = e
same_is false false e = refl

abbrev lone_test : ℕ → ℕ → ℕ → Bool
lone_test l m q =
    below 4 (λ c. eqb c 0 || (same (eqb (turning_row l (bits_of m) 0 - q) 0 && eqb (turns_of l m q c (bits_of m)) 1) (lone_set l q c)
    && cond (eqb (turning_row l (bits_of m) 0 - q) 0) (leb 1 (turns_of l m q c (bits_of m))) true))

and_under : (a x y : Bool) → (a ≡ true → x ≡ y) → (a && x) ≡ (a && y)
and_under true x y h = h refl
and_under false x y h = refl

module _ (n : Numbers) (w : Within n) where
  lone : ((eqb (turning_bit n 0) 0 && eqb (checked_turns n n.checked (phase_bits n)) 1) ≡ lone_set n.places n.offset n.checked) × (cond (eqb (turning_bit n 0) 0) (leb 1 (checked_turns n n.checked (phase_bits n))) true ≡ true)
  lone =
      let some = checked_some n w in
      let is = turns_of_lem n n.checked (phase_bits n) in
      let test = below_at 4 (λ c. eqb c 0 || (same (eqb (turning_bit n 0) 0 && eqb (turns_of n.places n.phases n.offset c (phase_bits n)) 1) (lone_set n.places n.offset c)
      && cond (eqb (turning_bit n 0) 0) (leb 1 (turns_of n.places n.phases n.offset c (phase_bits n))) true)) (at_set lone_test refl n w) n.checked (checked_few n w) in
      ⊎_elim
      (λ z. let none : n.checked ≡ 0 = eqb-true _ _ z in absurd (omega arith))
      (λ t. let both = and_parts _ _ t in (
        ap (λ (k : ℕ). eqb (turning_bit n 0) 0 && eqb k 1) is ∙ same_is _ _ both.0,
        ap (λ (k : ℕ). cond (eqb (turning_bit n 0) 0) (leb 1 k) true) is ∙ both.1,
      ))
      (or_cases _ _ test)

  exponent_none : eqb (turning_bit n 0) 0 ≡ true → eqb (step_exponent n) 0 ≡ (eqb (checked_turns n n.checked (phase_bits n)) 1 && eqb (ones n.h0 % 2) 0)
  exponent_none low =
      let t = checked_turns n n.checked (phase_bits n) in
      let some : 1 ≤ t = leb-true _ _ (sym (cond-true (eqb (turning_bit n 0) 0) (leb 1 t) true low) ∙ lone.1) in
      let is : step_exponent n ≡ exponent_at n (t - 1) = cond-false (eqb t 0) _ _ (ne_eqb t 0 (λ (e : t ≡ 0). omega arith)) in
      ⊎_elim
      (λ (e : t ≡ 1).
      let first : t - 1 ≡ 0 = omega arith in
      let here : exponent_at n 0 ≡ ones n.h0 % 2 = zero-add _ ∙ ap (λ (k : ℕ). ones (get_or (polynomials n) k 0) % 2) (eqb-true _ _ low) in
      ap (λ (k : ℕ). eqb k 0) (is ∙ ap (exponent_at n) first ∙ here) ∙ sym (ap (λ (b : Bool). b && eqb (ones n.h0 % 2) 0) (eq-eqb t 1 e)))
      (λ (e : t ≡ 1 → ⊥).
      ne_eqb (step_exponent n) 0 (λ (z : step_exponent n ≡ 0). omega arith) ∙ sym (ap (λ (b : Bool). b && eqb (ones n.h0 % 2) 0) (ne_eqb t 1 e)))
      (cases_eq t 1)

  pub parity_sum : parity_turns n ≡ parity_by_sum n
  parity_sum =
      and_under (eqb (turning_bit n 0) 0) _ _ exponent_none
      ∙ sym (and_assoc (eqb (turning_bit n 0) 0) _ _)
      ∙ ap (λ (b : Bool). b && eqb (ones n.h0 % 2) 0) lone.0
      ∙ and_assoc (eqb n.places 2) (eqb n.offset 1 && eqb n.checked 1) _ ∙ ap (λ (b : Bool). eqb n.places 2 && b) (and_assoc (eqb n.offset 1) (eqb n.checked 1) _)
