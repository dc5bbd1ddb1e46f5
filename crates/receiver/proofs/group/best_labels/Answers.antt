use Rattle.std.proofs.Common.{◌≡◌, List, map, length, take, replicate, arith, length-take-le}
use Rattle.receiver.specs.Scored.{label_sum}
use Rattle.receiver.specs.declared.cell.Cell.{Cell}
use Rattle.receiver.proofs.Residues.{groups_more, groups_front}
use Rattle.receiver.proofs.Room.{cell_room}
use Rattle.receiver.proofs.group.best_labels.Goals as goal

pub offset_bounds-cell-items-group : goal.offset_bounds-cell-items-group
offset_bounds-cell-items-group g c =
    let light = g.met.S.Score.light in
    let more = c.loop-group-test.true in
    let few = c.groups_of.ensures.most in
    let many = c.from-groups.ensures in
    let blank : List (Cell g.row.S.Denot) = replicate 16 c.blank-best.result in
    let part : length (take c.from-groups.result blank) ≡ c.from-groups.result = length-take-le c.from-groups.result blank (omega arith) in
    let room = cell_room c.loop-group.group _ _ (omega arith) light.0 light.1 in record { fits = omega arith }

pub loop-group-preserved : goal.loop-group-preserved
loop-group-preserved g c =
    let more = c.loop-group-test.true in
    let long = c.loop-group.auto.cell-items in
    groups_more g.S.Score.worth c.args.code.numbers (label_sum c.args.code.numbers (map g.S.Score.worth c.args.table.now.scores)) c.loop-group.group c.loop-group.cell-items c.best_label.result
    (omega arith) c.best_label.ensures c.loop-group.invariant

pub returns : goal.returns
returns g c =
    let past = c.loop-group-test.false in
    let long = c.loop-group.auto.cell-items in
    let many = c.from-groups.ensures in
    let is = c.groups_of.ensures.value in
    let few = c.groups_of.ensures.most in
    let blank : List (Cell g.row.S.Denot) = replicate 16 c.blank-best.result in
    let part : length (take c.from-groups.result blank) ≡ c.from-groups.result = length-take-le c.from-groups.result blank (omega arith) in
    groups_front g.S.Score.worth c.args.code.numbers (label_sum c.args.code.numbers (map g.S.Score.worth c.args.table.now.scores)) _ c.loop-group.cell-items _
    (omega arith) (λ k h. c.loop-group.invariant k (omega arith))
