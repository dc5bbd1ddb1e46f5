-- The number, line and column of each fault of a book.
use Rattle.std.specs.Prelude.{ℕ}
use Rattle.book.specs.declared.fault.Fault.{Fault}
use Rattle.book.specs.declared.fault.Fault.TheVariants.{Shape, Names, Limit, Polynomial, Parity, TooManyCodes, TooLong}

-- The refusal number.
abbrev pub fault_number : Fault → ℕ
fault_number (Shape line column) = 1
fault_number Names = 2
fault_number (Limit line column) = 3
fault_number (Polynomial line column) = 4
fault_number (Parity line) = 5
fault_number TooManyCodes = 6
fault_number TooLong = 6

-- Lines count from 1; 0 is the whole text.
abbrev pub fault_line : Fault → ℕ
fault_line (Shape line column) = line
fault_line Names = 1
fault_line (Limit line column) = line
fault_line (Polynomial line column) = line
fault_line (Parity line) = line
fault_line TooManyCodes = 34
fault_line TooLong = 0

-- Columns count from 1; 0 is the whole line.
abbrev pub fault_column : Fault → ℕ
fault_column (Shape line column) = column
fault_column Names = 0
fault_column (Limit line column) = column
fault_column (Polynomial line column) = column
fault_column (Parity line) = 0
fault_column TooManyCodes = 0
fault_column TooLong = 0
