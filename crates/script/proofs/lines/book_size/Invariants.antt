use Rattle.std.proofs.Common.{true}
use Rattle.script.specs.Lines.{empty_line}
use Rattle.script.proofs.Scan.{Passed}
use Rattle.script.proofs.lines.book_size.Given as goal

abbrev pub invariant-loop-at : goal.invariant-loop-at
invariant-loop-at l = Passed (empty_line l.begins) (empty_line true) l.text l.at
