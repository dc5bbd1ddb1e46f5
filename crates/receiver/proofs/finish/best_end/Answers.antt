use Rattle.std.proofs.Common.{◌+◌, List, get_or, ap, sym, arith}
use Rattle.receiver.proofs.Ending.{best_first, best_more, read_behind, best_all}
use Rattle.receiver.proofs.finish.best_end.Goals as goal

pub loop-place-init : goal.loop-place-init
loop-place-init g c =
    let is = c.in_ok-first.ensures.cases.0 in let long = c.in_ok-first.ensures.cases.1 in
    best_first g.K.Kept.says c.args.row.now c.in_ok-first.first.now _ (omega arith) (ap (λ (xs : List g.row.K.Denot). get_or xs 0 c.in_ok-first.first.now) (sym is)) c.end_at-best.ensures

pub loop-place-preserved : goal.loop-place-preserved
loop-place-preserved g c =
    let is = c.in_ok-first.ensures.cases.0 in let long = c.in_ok-first.ensures.cases.1 in
    let more = c.loop-place-test.true in
    best_more g.K.Kept.says c.args.row.now (c.loop-place.place + 1) c.index-others-place.result _ _ _ (omega arith)
    (read_behind g.K.Kept.says c.args.row.now c.in_ok-first.first.now c.in_ok-first.others.now c.loop-place.place c.index-others-place.result is c.index-others-place.is)
    c.end_at.ensures c.join_end.ensures c.loop-place.invariant

pub returns : goal.returns
returns g c =
    let is = c.in_ok-first.ensures.cases.0 in let long = c.in_ok-first.ensures.cases.1 in
    let past = c.loop-place-test.false in
    let most = c.loop-place.auto.place-end in
    best_all g.K.Kept.says c.args.row.now (c.loop-place.place + 1) _ (omega arith) c.loop-place.invariant
