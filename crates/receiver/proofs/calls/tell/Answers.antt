use Rattle.std.proofs.Common.{◌<◌, arith}
use Rattle.receiver.proofs.Ended.{tell_by}
use Rattle.receiver.proofs.Standing.{open_is, standing}
use Rattle.receiver.proofs.calls.tell.Goals as goal

pub returns : goal.returns
returns g c b s =
    let r = c.args.progress in
    let k = c.in_ok-code.code in
    let some : 0 < r.count = omega arith in
    tell_by g.K.Kept.says g.K.Score.Score.worth c.args.cells.now k r.count b (standing g.K.Kept.says c.args.cells.now r k b (open_is r.code k c.in_ok-code.ensures) s)
    c.block_end.result c.blank.result c.unwrap_or-end.result c.block_end.ensures c.unwrap_or-end.ensures some
