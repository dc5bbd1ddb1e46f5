-- The degree of a polynomial, by a shift.
use Rattle.std.proofs.Common.{◌≡◌, ℕ, ◌+◌, ◌*◌, ◌/◌, ◌^◌, ◌<◌, ◌≤◌, ap, ◌∙◌, ⊎_elim, add-one, one-mul, arith, pow_pos}
use Rattle.std.proofs.lemmas.Bool.{cases_lt}
use Rattle.std.proofs.lemmas.Nat.{div_below, le-div}
use Rattle.trellis.proofs.Gather.{double}

twice : (v : ℕ) → 2 ^ (v + 1) ≡ 2 * 2 ^ v
twice v = ap (λ (k : ℕ). 2 ^ k) (add-one v) ∙ double v

pub shifted_some : (h v : ℕ) → 2 ^ v ≤ h → 1 ≤ h / 2 ^ v
shifted_some h v e = le-div 1 h (2 ^ v) (pow_pos v) (omega (arith, one-mul (2 ^ v)))

pub shifted_few : (h v : ℕ) → h < 2 ^ (v + 1) → h / 2 ^ v ≤ 1
shifted_few h v e = let below = div_below h (2 ^ v) 2 (pow_pos v) (omega (arith, twice v)) in omega arith

pub shifted_most : (h v : ℕ) → h / 2 ^ v ≤ 1 → h < 2 ^ (v + 1)
shifted_most h v e =
    ⊎_elim (λ (less : h < 2 ^ (v + 1)). less)
    (λ (more : 2 ^ (v + 1) ≤ h). let two = le-div 2 h (2 ^ v) (pow_pos v) (omega (arith, twice v)) in absurd (omega arith))
    (cases_lt h (2 ^ (v + 1)))

pub ruleset degrees = (shifted_some, shifted_few, shifted_most)
