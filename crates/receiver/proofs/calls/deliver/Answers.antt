use Rattle.std.proofs.Common.{ℕ, ◌<◌, None, Some, Option, subst, arith}
use Rattle.receiver.specs.Cells.{survivors}
use Rattle.receiver.specs.Delivery.{Writes}
use Rattle.receiver.specs.EndState.{BlockEnd}
use Rattle.receiver.specs.Stands.{rows_in}
use Rattle.receiver.specs.declared.cell.Cell.{Cell}
use Rattle.receiver.proofs.Ended.{end_there, deliver-end}
use Rattle.receiver.proofs.Standing.{open_is, standing}
use Rattle.receiver.proofs.calls.deliver.Goals as goal

pub returns-in_err-end-clause-answer : goal.returns-in_err-end-clause-answer
returns-in_err-end-clause-answer g c b s =
    let r = c.args.progress in
    let k = c.in_ok-code.code in
    let cs = c.args.cells.now in
    let some : 0 < r.count = omega arith in
    let ends : BlockEnd g.K.Score.Score.worth (survivors g.K.Kept.says cs) k.numbers r.count None = subst (λ (o : Option (Cell g.row.K-Score.Denot)). BlockEnd g.K.Score.Score.worth (survivors g.K.Kept.says cs) k.numbers r.count o) c.in_err-end.ensures.ok_part c.block_end.ensures in
    absurd (end_there g.K.Kept.says g.K.Score.Score.worth cs k r.count b (standing g.K.Kept.says cs r k b (open_is r.code k c.in_ok-code.ensures) s) some ends)

pub returns-clause-answer : goal.returns-clause-answer
returns-clause-answer g c b s =
    let r = c.args.progress in
    let k = c.in_ok-code.code in
    let cs = c.args.cells.now in
    let end = c.in_ok-end.end in
    let ends : BlockEnd g.K.Score.Score.worth (survivors g.K.Kept.says cs) k.numbers r.count (Some end) = subst (λ (o : Option (Cell g.row.K-Score.Denot)). BlockEnd g.K.Score.Score.worth (survivors g.K.Kept.says cs) k.numbers r.count o) c.in_ok-end.ensures.ok_part c.block_end.ensures in
    deliver-end g.K.Kept.says g.K.Score.Score.worth cs k r.count b (standing g.K.Kept.says cs r k b (open_is r.code k c.in_ok-code.ensures) s) end ends
    c.args.words.now c.deliver_words.new.words (omega arith) (omega arith)
    (subst (λ (E : ℕ). Writes k.numbers (rows_in g.K.Kept.says cs k.numbers) r.count E c.args.words.now c.deliver_words.new.words) c.from.ensures c.deliver_words.ensures.words)
