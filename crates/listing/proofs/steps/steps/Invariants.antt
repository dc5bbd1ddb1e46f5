use Rattle.std.proofs.Common.{◌≡◌, ◌+◌, ◌*◌, ◌≤◌, take, map, length}
use Rattle.book.specs.Line.{numbers_at}
use Rattle.listing.specs.Lines.{written}
use Rattle.listing.specs.Listing.{step_lines}
use Rattle.listing.proofs.steps.steps.Given as goal

abbrev pub invariant-loop-entry : goal.invariant-loop-entry
invariant-loop-entry l =
    (written l.lines ≡ step_lines (map numbers_at (take l.entry-index l.entries))) ×
    (length (written l.lines) ≤ 15 + 24 * l.entry-index)
