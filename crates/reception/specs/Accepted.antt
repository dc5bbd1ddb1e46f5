-- Codes that are accepted.
use Rattle.std.specs.Prelude.{◌≡◌, false}
use Rattle.trellis.specs.declared.Numbers.{Numbers}
use Rattle.trellis.specs.Limits.{limit_fault, polynomial_fault, parity_turns}

-- The numbers are a code within its limits.
pub record IsCode (n : Numbers) : Type 0 where
  pub limits : limit_fault n ≡ 0
  pub polynomials : polynomial_fault n ≡ 0
  pub parity : parity_turns n ≡ false
