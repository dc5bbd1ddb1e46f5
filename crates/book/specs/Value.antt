-- The numbers that columns stand for.
use Rattle.std.specs.Prelude.{ℕ, ◌+◌, ◌-◌, ◌*◌, cond, List, take, fold, Some, None, Option}
use Rattle.book.specs.Column.{Column, decimal, octal, dash, end, is_digit}

-- The value of a digit; no other byte has one.
abbrev pub digit : ℕ → ℕ
digit b = cond (is_digit 10 b) (b - 48) 0

-- The value of digits in a base.
abbrev pub value : ℕ → List ℕ → ℕ
value base digits = fold (λ n b. n * base + digit b) 0 digits

-- The value of one or two decimal digits.
abbrev pub decimal_value : List ℕ → ℕ
decimal_value bytes = value 10 (take 2 bytes)

-- The value of one to three octal digits.
abbrev pub octal_value : List ℕ → ℕ
octal_value bytes = value 8 (take 3 bytes)

-- The number of a decimal column.
unfoldable pub small : Column → ℕ
small (decimal part) = decimal_value part.bytes
small (octal part) = 0
small (dash part) = 0
small (end part) = 0

-- The polynomial of an octal column; a dash stands for none.
unfoldable pub polynomial : Column → Option ℕ
polynomial (decimal part) = None
polynomial (octal part) = Some (octal_value part.bytes)
polynomial (dash part) = None
polynomial (end part) = None
