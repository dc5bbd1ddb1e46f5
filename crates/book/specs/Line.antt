-- A code line: its nine columns and its end, and what is judged of their numbers.
use Rattle.std.specs.Prelude.{ℕ, List, None, Ok}
use Rattle.std.specs.Option.{unwrap_or}
use Rattle.std.specs.Result.{result_map_both}
use Rattle.trellis.specs.declared.Numbers.{Numbers}
use Rattle.code.specs.Flaw.{judged}
use Rattle.code.specs.declared.flaw.Flaw.{Flaw}
use Rattle.code.specs.declared.flaw.Flaw.TheVariants as flaw
use Rattle.code.specs.declared.record.Code.{Code}
use Rattle.book.specs.declared.fault.Fault.{Fault}
use Rattle.book.specs.declared.entry.Entry.{Entry}
use Rattle.book.specs.declared.fault.Fault.TheVariants.{Limit, Polynomial, Parity}
use Rattle.book.specs.Column.{column, line_end}
use Rattle.book.specs.Reading.{Reading, next}
use Rattle.book.specs.Value.{small, polynomial}

-- Numbers as they are, a fault as it is, and the numbers of a code and of an entry.
abbrev pub itself : Numbers → Numbers
itself n = n

abbrev pub unchanged : Fault → Fault
unchanged fault = fault

abbrev pub numbers_in : Code → Numbers
numbers_in code = code.numbers

abbrev pub numbers_at : Entry → Numbers
numbers_at entry = entry.code.numbers

-- The numbers of columns 1 to 5; the polynomials are yet to be read.
unfoldable pub decimal_columns : ℕ → List ℕ → Reading Numbers
decimal_columns line text =
    next (column line 1 text) (λ l rest.
    next (column line 2 rest) (λ m rest.
    next (column line 3 rest) (λ q rest.
    next (column line 4 rest) (λ c rest.
    next (column line 5 rest) (λ v rest.
    Ok (
      record {
        places = small l;
        phases = small m;
        offset = small q;
        checked = small c;
        memory = small v;
        h0 = 0;
        h1 = 0;
        h2 = None;
        h3 = None;
      },
      rest,
    ))))))

-- The same numbers with the polynomials of columns 6 to 9, and the line's end.
unfoldable pub polynomial_columns : ℕ → Numbers → List ℕ → Reading Numbers
polynomial_columns line n text =
    next (column line 6 text) (λ h0 rest.
    next (column line 7 rest) (λ h1 rest.
    next (column line 8 rest) (λ h2 rest.
    next (column line 9 rest) (λ h3 rest.
    next (line_end line rest) (λ feed rest.
    Ok (
      record {
        places = n.places;
        phases = n.phases;
        offset = n.offset;
        checked = n.checked;
        memory = n.memory;
        h0 = unwrap_or (polynomial h0) 0;
        h1 = unwrap_or (polynomial h1) 0;
        h2 = polynomial h2;
        h3 = polynomial h3;
      },
      rest,
    ))))))

-- The numbers of the nine columns.
abbrev pub line_numbers : ℕ → List ℕ → Reading Numbers
line_numbers line text = next (decimal_columns line text) (polynomial_columns line)

-- The flaw of a line's numbers as the book's fault.
abbrev pub at_line : ℕ → Flaw → Fault
at_line line (flaw.Limit column) = Limit line column
at_line line (flaw.Polynomial column) = Polynomial line column
at_line line flaw.Parity = Parity line

-- The numbers of a code line: its shape is judged first, then its numbers.
unfoldable pub code_line : ℕ → List ℕ → Reading Numbers
code_line line text = next (line_numbers line text) (λ n rest. result_map_both (λ m. (m, rest)) (at_line line) (judged n))
