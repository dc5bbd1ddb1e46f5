use Rattle.std.proofs.Common.{ℕ, ◌+◌, ◌*◌, ◌^◌, ◌<◌, ◌≤◌, List, length}
use Rattle.code.specs.declared.record.Code.{Code}
use Rattle.receiver.specs.Cells.{survivors, row_in}
use Rattle.receiver.specs.Entered.{Given, EntersBest}
use Rattle.receiver.specs.Ways.{Known}
use Rattle.survivors.specs.Best.{Survivor}
use Rattle.receiver.proofs.extend.fill_half.Given as goal

abbrev pub invariant-loop-step : goal.invariant-loop-step
invariant-loop-step g l =
    let row = row_in (survivors g.K.Kept.says l.before) in
    (k : Code) (bs : List Survivor) (first : ℕ) → Known k bs g.K.Score.Score.worth first l.ways → 2 * length l.half ≤ 2 ^ k.numbers.memory
    → Given k.numbers row bs (λ s. (E : ℕ) → E < l.step → EntersBest k.numbers s row (first + E) (row_in (survivors g.K.Kept.says l.half) E))
