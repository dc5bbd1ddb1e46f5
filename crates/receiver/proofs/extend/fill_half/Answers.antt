use Rattle.std.proofs.Common.{arith}
use Rattle.std.proofs.lemmas.List.{length-map, length-set}
use Rattle.receiver.specs.Cells.{survivor, survivors, row_in}
use Rattle.receiver.proofs.Following.{first_more}
use Rattle.receiver.proofs.extend.fill_half.Goals as goal

pub loop-step-preserved : goal.loop-step-preserved
loop-step-preserved g c =
    let more = c.loop-step-test.true in
    let still = length-set c.loop-step.half c.loop-step.step c.keep.result in
    λ k bs first known many.
    first_more g.K.Kept.says k.numbers (row_in (survivors g.K.Kept.says c.args.before.now)) bs first c.loop-step.step c.loop-step.half c.keep.result (survivor g.K.Score.Score.worth c.entering.result)
    (omega arith) c.keep.ensures (c.entering.ensures k bs first known (omega (arith, still))) (c.loop-step.invariant k bs first known (omega (arith, still)))

pub returns : goal.returns
returns g c =
    let past = c.loop-step-test.false in
    λ k bs first known many s groups exact E h. c.loop-step.invariant k bs first known (omega (arith, c.loop-step.auto.half)) s groups exact E (omega (arith, c.loop-step.auto.half, length-map c.loop-step.half g.K.Kept.says))
