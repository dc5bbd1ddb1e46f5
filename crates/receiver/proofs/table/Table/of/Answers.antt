use Rattle.std.proofs.Common.{◌≡◌, ℕ, ◌+◌, ◌-◌, ◌*◌, List, length, take, drop, ap, ◌∙◌, arith, length-take-le, length-drop}
use Rattle.reception.specs.Worth.{scores_of}
use Rattle.receiver.proofs.Limited.{places_most, phases_most}
use Rattle.receiver.proofs.Sums.{holds_place, noughts_small}
use Rattle.receiver.proofs.table.Table.of.Goals as goal

pub loop-place-init : goal.loop-place-init
loop-place-init g c = (λ a m l k. absurd (omega arith), noughts_small g.S.Score.worth 64 c.nought-scores.result c.nought-scores.ensures)

pub loop-place-preserved : goal.loop-place-preserved
loop-place-preserved g c =
    let r = c.args.reading.now in
    let n = r.code.numbers in
    let f = g.F.Front.meaning r.front.now in
    let all = c.loop-place.all in
    let place = c.loop-place.place in
    let more = c.loop-place-test.true in
    let few = places_most r.code in
    let most = phases_most r.code in
    let size : length all ≡ 64 = omega (arith, c.loop-place.auto.all) in
    let start = c.from-start.ensures in
    let many = c.from.ensures in
    let k = c.from-start.result * 16 in
    let part : length (take (k + c.from.result - k) (drop k all)) ≡ n.phases = length-take-le (k + c.from.result - k) (drop k all) (omega (arith, length-drop k all)) ∙ omega arith in
    holds_place g.S.Score.worth all c.fill.new.row n.phases (k + c.from.result - k) k (scores_of f n.phases r.words.now) place (f.worth n.phases c.place.result.now)
    most (omega arith) (omega arith) (omega arith) (omega (arith, c.fill.auto.row)) (λ m h. c.fill.ensures m (omega arith)) (λ m. ap (λ (ws : List ℕ). f.worth n.phases ws m) c.place.ensures) c.loop-place.invariant
