use Rattle.std.proofs.Common.{◌≡◌, ◌+◌, List, get_or, ap, ◌∙◌, arith}
use Rattle.receiver.specs.Cells.{survivors, row_in}
use Rattle.receiver.specs.declared.entering.Way.{Way}
use Rattle.receiver.proofs.Pairs.{pairs_one, pairs_more, pairs_all}
use Rattle.receiver.proofs.Ways.{pairs_are, way_best, length-others, other_at}
use Rattle.receiver.proofs.entering.entering.Goals as goal

pub loop-way-init : goal.loop-way-init
loop-way-init g c =
    let row = row_in (survivors g.K.Kept.says c.args.row.now) in
    let ways = c.args.ways.now in
    let w = c.index-all-0.result in
    let some = c.requires.some in
    let is : w ≡ get_or ways 0 w = c.index-all-0.is ∙ ap (λ (ws : List (Way g.row.K-Score.Denot)). get_or ws 0 w) c.as_slice-all.ensures in
    λ k bs first known small s groups exact.
    pairs_one k.numbers s row (first + c.args.step) _
    (way_best k s row bs g.K.Score.Score.worth first c.args.step 0 ways w _ known small (omega (arith, c.type_inv.ways)) is groups exact c.path-best.ensures)

pub loop-way-preserved : goal.loop-way-preserved
loop-way-preserved g c =
    let row = row_in (survivors g.K.Kept.says c.args.row.now) in
    let ways = c.args.ways.now in
    let all = c.as_slice-all.result.now in
    let i = c.loop-way.way-index in
    let w = c.way-item.result in
    let more = c.loop-way-test.true in
    let long = length-others ways all c.as_slice-all.ensures in
    let is = other_at ways all c.as_slice-all.ensures i w more c.way-item.is in
    λ k bs first known small s groups exact.
    pairs_more k.numbers s row (first + c.args.step) (i + 1) _ _ _ c.better-best.ensures (c.loop-way.invariant k bs first known small s groups exact)
    (way_best k s row bs g.K.Score.Score.worth first c.args.step (i + 1) ways w _ known small (omega arith) is groups exact c.path.ensures)

pub returns : goal.returns
returns g c =
    let row = row_in (survivors g.K.Kept.says c.args.row.now) in
    let past = c.loop-way-test.false in
    let long = length-others c.args.ways.now c.as_slice-all.result.now c.as_slice-all.ensures in
    λ k bs first known small s groups exact.
    let even = pairs_are k.numbers.checked in
    let all = known.pairs in
    pairs_all k.numbers s row (first + c.args.step) (c.loop-way.way-index + 1) _ (omega arith) (c.loop-way.invariant k bs first known small s groups exact)
