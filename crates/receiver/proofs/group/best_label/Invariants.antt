use Rattle.std.proofs.Common.{◌≡◌, ◌%◌, map}
use Rattle.receiver.specs.Cells.{survivor}
use Rattle.receiver.specs.Scored.{label_sum}
use Rattle.receiver.proofs.Residues.{BestBefore}
use Rattle.receiver.proofs.group.best_label.Given as goal

abbrev pub invariant-loop-label : goal.invariant-loop-label
invariant-loop-label g l =
    (l.label % l.groups ≡ l.group)
    × BestBefore l.code.numbers (label_sum l.code.numbers (map g.S.Score.worth l.table.scores)) l.group l.label (survivor g.S.Score.worth l.best)
