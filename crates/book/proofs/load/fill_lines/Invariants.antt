use Rattle.std.proofs.Common.{◌≡◌, ◌+◌, ◌-◌, ◌≤◌, length}
use Rattle.book.specs.Book.{codes_held, code_lines}
use Rattle.book.proofs.Lines.{after}
use Rattle.book.proofs.load.fill_lines.Given as goal

-- The codes that are held, before those of what is left, are the codes of all lines.
abbrev pub invariant-loop-reader : goal.invariant-loop-reader
invariant-loop-reader l = record {
  most : length l.entries.items ≤ 32;
  line : l.reader.line ≡ length l.entries.items + 2;
  codes : after (codes_held l.entries) (code_lines (32 - length l.entries.items) l.reader.line l.reader.rest.now) ≡ code_lines 32 2 l.text;
}

abbrev pub decreases-loop-reader : goal.decreases-loop-reader
decreases-loop-reader l = 33 - length l.entries.items
