use Rattle.std.proofs.Common.{◌+◌}
use Rattle.receiver.specs.Cells.{survivor, survivors}
use Rattle.receiver.proofs.Ending.{BestBelow}
use Rattle.receiver.proofs.finish.best_end.Given as goal

abbrev pub invariant-loop-place : goal.invariant-loop-place
invariant-loop-place g l = BestBelow (survivors g.K.Kept.says l.row) (l.place + 1) (survivor g.K.Score.Score.worth l.best)
