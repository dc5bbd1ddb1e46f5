use Rattle.std.proofs.Common.{arith}
use Rattle.receiver.proofs.Sums.{filled_more}
use Rattle.receiver.proofs.table.fill.Goals as goal

pub loop-phase-init : goal.loop-phase-init
loop-phase-init g c m h = absurd (omega arith)

pub loop-phase-preserved : goal.loop-phase-preserved
loop-phase-preserved g c =
    let long = c.loop-phase.auto.row in
    let more = c.loop-phase-test.true in
    filled_more g.S.Score.worth c.loop-phase.row c.loop-phase.phase c.score.result
    ((g.F.Front.meaning c.args.front.now).worth c.args.phases c.args.reading.now) (omega arith) c.score.ensures.worth c.score.ensures.small c.loop-phase.invariant

pub returns : goal.returns
returns g c = let past = c.loop-phase-test.false in λ m h. c.loop-phase.invariant m (omega arith)
