use Rattle.receiver.proofs.Begun.{Begun}
use Rattle.receiver.proofs.cell.begin_row.Given as goal

abbrev pub invariant-loop-kept : goal.invariant-loop-kept
invariant-loop-kept g l = Begun g.K.Kept.says l.kept-items l.kept-index
