-- The lines that tell the steps of a book's codes, or why its text is refused.
use Rattle.std.specs.Prelude.{ℕ, List, [], ◌∷◌, ◌++◌, Ok, Err, codes, decimal, Result}
use Rattle.std.specs.List.{flat_map}
use Rattle.trellis.specs.Step.{step}
use Rattle.trellis.specs.declared.Numbers.{Numbers}
use Rattle.book.specs.Book.{book_of}
use Rattle.book.specs.Fault.{fault_number, fault_line, fault_column}
use Rattle.book.specs.declared.fault.Fault.{Fault}

-- A number in decimal and the byte after it: a space, which is 32, or the line feed, which is 10.
unfoldable pub cell : ℕ → ℕ → List ℕ
cell n after = decimal n ++ after ∷ []

-- A code's places, phases, offset, checked bits, memory and step.
unfoldable pub step_row : Numbers → List ℕ
step_row n =
    cell n.places 32 ++ (cell n.phases 32 ++ (cell n.offset 32 ++ (cell n.checked 32 ++ (cell n.memory 32 ++
    cell (step n) 10))))

-- The heading and a row for each code.
abbrev pub step_lines : List Numbers → List ℕ
step_lines ns = codes "l m q c v step" ++ (10 ∷ flat_map step_row ns)

-- A fault's line, column and number.
unfoldable pub fault_row : Fault → List ℕ
fault_row fault = cell (fault_line fault) 32 ++ (cell (fault_column fault) 32 ++ cell (fault_number fault) 10)

-- The heading and the fault's row.
abbrev pub fault_lines : Fault → List ℕ
fault_lines fault = codes "line column number" ++ (10 ∷ fault_row fault)

-- The lines of what a text gave.
abbrev pub lines_of : Result (List Numbers) Fault → List ℕ
lines_of (Ok ns) = step_lines ns
lines_of (Err fault) = fault_lines fault

-- The listing of a text.
abbrev pub listing_of : List ℕ → List ℕ
listing_of text = lines_of (book_of text)
