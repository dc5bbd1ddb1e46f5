use Rattle.std.proofs.Common.{map}
use Rattle.receiver.specs.Cells.{survivor, survivors}
use Rattle.receiver.specs.Grouped.{GroupsBest}
use Rattle.receiver.specs.Scored.{label_sum}
use Rattle.receiver.proofs.group.best_labels.Given as goal

abbrev pub invariant-loop-group : goal.invariant-loop-group
invariant-loop-group g l =
    GroupsBest l.code.numbers (label_sum l.code.numbers (map g.S.Score.worth l.table.scores)) l.group (survivors (survivor g.S.Score.worth) l.cell-items)
