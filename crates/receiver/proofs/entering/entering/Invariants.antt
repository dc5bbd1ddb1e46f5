use Rattle.std.proofs.Common.{ℕ, ◌+◌, ◌*◌, ◌^◌, ◌<◌, List}
use Rattle.code.specs.declared.record.Code.{Code}
use Rattle.receiver.specs.Cells.{survivor, survivors, row_in}
use Rattle.receiver.specs.Entered.{Given}
use Rattle.receiver.specs.Ways.{Known}
use Rattle.survivors.specs.Best.{Survivor}
use Rattle.receiver.proofs.Pairs.{PairsBest}
use Rattle.receiver.proofs.entering.entering.Given as goal

abbrev pub invariant-loop-way : goal.invariant-loop-way
invariant-loop-way g l =
    let row = row_in (survivors g.K.Kept.says l.row) in
    (k : Code) (bs : List Survivor) (first : ℕ) → Known k bs g.K.Score.Score.worth first l.ways → 2 * l.step < 2 ^ k.numbers.memory
    → Given k.numbers row bs (λ s. PairsBest k.numbers s row (first + l.step) (l.way-index + 1) (survivor g.K.Score.Score.worth l.best))
