-- How numbers are judged, and the refusal numbers.
use Rattle.std.specs.Prelude.{ℕ, cond, Some, None, Ok, Err, Option, Result, ◌==◌}
use Rattle.code.specs.declared.flaw.Flaw.{Flaw}
use Rattle.code.specs.declared.flaw.Flaw.TheVariants.{Limit, Polynomial, Parity}
use Rattle.code.specs.declared.record.Code.{Code}
use Rattle.trellis.specs.declared.Numbers.{Numbers}
use Rattle.trellis.specs.Limits.{limit_fault, polynomial_fault, parity_turns}

-- The refusal number of each flaw, and the column that it names.
abbrev pub flaw_number : Flaw → ℕ
flaw_number (Limit column) = 3
flaw_number (Polynomial column) = 4
flaw_number Parity = 5

abbrev pub flaw_column : Flaw → ℕ
flaw_column (Limit column) = column
flaw_column (Polynomial column) = column
flaw_column Parity = 0

-- The numbers, if they are a code. Limits are judged first, then polynomials, then the parity bit.
abbrev pub judged : Numbers → Result Numbers Flaw
judged n =
    cond (limit_fault n == 0)
    (cond (polynomial_fault n == 0) (cond (parity_turns n) (Err Parity) (Ok n)) (Err (Polynomial (polynomial_fault n))))
    (Err (Limit (limit_fault n)))

-- One step of that judgment: the flaw of the column at fault, where the column is not 0.
abbrev pub passed : (ℕ → Flaw) → ℕ → Result Unit Flaw
passed flaw column = cond (column == 0) (Ok tt) (Err (flaw column))

-- The judgment without the numbers.
abbrev pub found : Result Numbers Flaw → Result Unit Flaw
found (Ok n) = Ok tt
found (Err f) = Err f

-- The flaw of numbers that are no code.
abbrev pub flaw_in : Result Numbers Flaw → Option Flaw
flaw_in (Ok n) = None
flaw_in (Err f) = Some f

-- The numbers of the code that was made.
abbrev pub numbers_of : Result Code Flaw → Result Numbers Flaw
numbers_of (Ok k) = Ok k.numbers
numbers_of (Err f) = Err f
