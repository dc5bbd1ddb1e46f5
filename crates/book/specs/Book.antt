-- A book's text and the codes that it gives.
use Rattle.std.specs.Prelude.{ℕ, zero, suc, cond, List, [], ◌∷◌, ◌++◌, map, length, take, drop, Some, None, Ok, Err, codes, Option, Result, nat_lt}
use Rattle.std.specs.Result.{result_map_both}
use Rattle.std.specs.Str.{bytes_eq}
use Rattle.arrayvec.specs.ArrayVec.{ArrayVec}
use Rattle.trellis.specs.declared.Numbers.{Numbers}
use Rattle.book.specs.declared.fault.Fault.{Fault}
use Rattle.book.specs.declared.fault.Fault.TheVariants.{Names, TooManyCodes, TooLong}
use Rattle.book.specs.declared.record.Book.{Book}
use Rattle.book.specs.declared.entry.Entry.{Entry}
use Rattle.book.specs.Line.{code_line, numbers_at, unchanged}
use Rattle.book.specs.Reading.{Reading}

-- The first line, with its line feed.
abbrev pub names : List ℕ
names = codes "l m q c v h0 h1 h2 h3" ++ 10 ∷ []

-- A code line's numbers, before those of the lines after it.
abbrev pub before : Reading Numbers → (List ℕ → Result (List Numbers) Fault) → Result (List Numbers) Fault
before (Ok p) lines = result_map_both (λ ns. p.0 ∷ ns) unchanged (lines p.1)
before (Err fault) lines = Err fault

-- The codes of the lines from this one on, where `most` codes may still come.
abbrev pub code_lines : ℕ → ℕ → List ℕ → Result (List Numbers) Fault
code_lines most line [] = Ok []
code_lines zero line (b ∷ text) = Err TooManyCodes
code_lines (suc most) line (b ∷ text) = before (code_line line (b ∷ text)) (code_lines most (suc line))

-- The codes of a text, or its first fault: its size is judged first, then the names line, then line by line.
unfoldable pub book_of : List ℕ → Result (List Numbers) Fault
book_of text =
    cond (nat_lt 4096 (length text)) (Err TooLong)
    (cond (bytes_eq (take (length names) text) names) (code_lines 32 2 (drop (length names) text)) (Err Names))

-- The codes of entries, in order.
abbrev pub codes_held : ArrayVec Entry → List Numbers
codes_held entries = map numbers_at entries.items

-- The codes of entries that were filled, or the fault that ended it.
abbrev pub filled : ArrayVec Entry → Result Unit Fault → Result (List Numbers) Fault
filled entries (Ok done) = Ok (codes_held entries)
filled entries (Err fault) = Err fault

-- The codes of a book, in order.
abbrev pub codes_of : Book → List Numbers
codes_of book = codes_held book.entries

-- The code at an entry, counted from 0; past the last there is none.
abbrev pub entry_of : List Numbers → ℕ → Option Numbers
entry_of [] entry = None
entry_of (n ∷ codes) zero = Some n
entry_of (n ∷ codes) (suc entry) = entry_of codes entry
