-- The columns of a line and what may stand in them. Bytes are numbers: the digit 0 is 48, the dash 45, the space 32 and
-- the line feed 10.
use Rattle.std.specs.Prelude.{◌≡◌, ℕ, zero, suc, ◌+◌, Bool, cond, ◌&&◌, List, take, drop, Ok, Err, ◌==◌, nat_eq, nat_le, nat_lt}
use Rattle.std.specs.Borrow.{Bor}
use Rattle.std.specs.Fn.{Mut, CalledAt}
use Rattle.std.specs.List.{prefix_len}
use Rattle.book.specs.declared.fault.Fault.TheVariants.{Shape}
use Rattle.book.specs.Reading.{Reading, next}

-- A part of the text with its line and column number.
pub record Span : Type 0 where
  pub bytes : List ℕ
  pub line : ℕ
  pub column : ℕ

-- A column by what stands in it; the line feed is the last.
pub data Column : Type 0 where
  decimal : Span → Column
  octal : Span → Column
  dash : Span → Column
  end : Span → Column

-- How many of the first `most` bytes pass the test, up to the first that does not.
abbrev pub run : (ℕ → Bool) → ℕ → List ℕ → ℕ
run test most bytes = prefix_len test (take most bytes)

-- Every call of the closure answers what the test says of the byte, and leaves the closure as it was.
abbrev pub AnswersAs : {F : Type 0} → Mut F (Bor ℕ × Unit {0}) Bool → F → (ℕ → Bool) → Type 0
AnswersAs {F} calls closure test = (b : ℕ) (answer : Bool) (left : F) → CalledAt calls closure b answer left → (left ≡ closure) × (answer ≡ test b)

-- The byte is one of the first `base` digits.
abbrev pub is_digit : ℕ → ℕ → Bool
is_digit base b = nat_le 48 b && nat_lt b (48 + base)

-- The first `size` bytes; where that is none, the line leaves its shape.
abbrev pub cut : ℕ → ℕ → ℕ → List ℕ → Reading Span
cut zero line number text = Err (Shape line number)
cut (suc n) line number text = Ok (record { bytes = take (suc n) text; line = line; column = number }, drop (suc n) text)

-- One or two decimal digits.
abbrev pub decimals : ℕ → ℕ → List ℕ → Reading Column
decimals line number text = next (cut (run (is_digit 10) 2 text) line number text) (λ part rest. Ok (decimal part, rest))

-- One to three octal digits.
abbrev pub octals : ℕ → ℕ → List ℕ → Reading Column
octals line number text = next (cut (run (is_digit 8) 3 text) line number text) (λ part rest. Ok (octal part, rest))

-- A dash, or else octal digits.
abbrev pub polynomials : ℕ → ℕ → List ℕ → Reading Column
polynomials line number text =
    cond (run (nat_eq 45) 1 text == 0) (octals line number text)
    (next (cut 1 line number text) (λ part rest. Ok (dash part, rest)))

-- What stands in the column of this number.
unfoldable pub content : ℕ → ℕ → List ℕ → Reading Column
content line number text =
    cond (nat_le number 5) (decimals line number text)
    (cond (nat_le number 7) (octals line number text) (polynomials line number text))

-- The one space between columns.
unfoldable pub space : ℕ → ℕ → List ℕ → Reading Span
space line number text = cut (run (nat_eq 32) 1 text) line number text

-- A column, with the one space after it unless it is the ninth.
unfoldable pub column : ℕ → ℕ → List ℕ → Reading Column
column line number text =
    next (content line number text) (λ found rest.
    cond (number == 9) (Ok (found, rest))
    (next (space line number rest) (λ between after. Ok (found, after))))

-- The line feed after the ninth column.
unfoldable pub line_end : ℕ → List ℕ → Reading Column
line_end line text = next (cut (run (nat_eq 10) 1 text) line 9 text) (λ part rest. Ok (end part, rest))
