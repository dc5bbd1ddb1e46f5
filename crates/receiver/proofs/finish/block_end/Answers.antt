use Rattle.std.proofs.Common.{List, length, subst, arith}
use Rattle.receiver.specs.Cells.{survivors}
use Rattle.receiver.specs.EndState.{BestEnds}
use Rattle.receiver.proofs.EndRow.{row_in, block_end}
use Rattle.receiver.proofs.finish.block_end.Goals as goal

pub returns : goal.returns
returns g c =
    let n = c.args.code.numbers in
    let least = c.states_of-states.ensures.least in
    let states = c.states_of-states.result in
    let cs = c.args.cells.now in
    let worth = g.K.Score.Score.worth in
    let best = subst (λ (row : List g.row.K.Denot). BestEnds worth (survivors g.K.Kept.says row) c.best_end.result) c.row_at.ensures c.best_end.ensures in
    block_end g.K.Kept.says worth cs n states c.args.count c.states_of-states.ensures.value (omega arith) (row_in c.args.count states (length cs) c.if-count-cells.false) c.best_end.result best
