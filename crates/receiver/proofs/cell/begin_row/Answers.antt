use Rattle.std.proofs.Common.{◌≡◌, true, length, take, ◌∙◌, arith, length-take-le}
use Rattle.receiver.proofs.Begun.{begun_more, begun_front}
use Rattle.receiver.proofs.cell.begin_row.Goals as goal

pub loop-kept-init : goal.loop-kept-init
loop-kept-init g c E l = absurd (omega arith)

pub loop-kept-preserved : goal.loop-kept-preserved
loop-kept-preserved g c =
    let long = c.loop-kept.auto.kept-items in
    let more = c.loop-kept-test.true in
    let nought = c.nought.ensures in
    begun_more g.K.Kept.says c.loop-kept.kept-items c.loop-kept.kept-index c.keep.result (omega arith)
    (c.keep.ensures ∙ (λ i. record { worth = nought i; label = 0; sole = true })) c.loop-kept.invariant

pub returns : goal.returns
returns g c =
    let long = c.loop-kept.auto.kept-items in
    let part : length (take c.args.states c.args.cells.now) ≡ c.args.states = length-take-le _ _ c.requires in
    let past = c.loop-kept-test.false in
    begun_front g.K.Kept.says c.loop-kept.kept-items _ c.args.states (omega arith) (λ E l. c.loop-kept.invariant E (omega arith))
