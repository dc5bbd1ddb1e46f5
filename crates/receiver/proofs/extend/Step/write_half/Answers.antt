use Rattle.std.proofs.Common.{◌<◌, ◌≤◌, ◌^◌, sym, subst, rules, arith, pow_pos}
use Rattle.std.proofs.lemmas.Fn.{serves_by}
use Rattle.receiver.specs.Cells.{survivor, survivors}
use Rattle.receiver.specs.Ways.{Into, Reaches}
use Rattle.receiver.proofs.Limited.{groups_most, states_most}
use Rattle.receiver.proofs.Made.{all_made}
use Rattle.receiver.proofs.Room.{cell_room, way_room}
use Rattle.receiver.proofs.Ways.{half_first, pairs_are, known_by, reaches}
use Rattle.receiver.proofs.extend.Step.write_half.Goals as goal

pub from_fn-ways-requires : goal.from_fn-ways-requires
from_fn-ways-requires g c =
    let n = c.args.self.now.code.numbers in
    let light = g.met.K.Score.Score.light in
    let within = half_first c.args.self.now.code c.args.first c.requires.first in
    let few = groups_most c.args.self.now.code in
    let even = pairs_are n.checked in
    let many : g.row.N ≤ 8 = omega (arith, c.requires.pairs) in (
      way_room g.row.N _ _ (omega arith) light.0 light.1,
      serves_by _ (λ xs q. q.2.now < 2 ^ q.0.now.numbers.memory) (λ xs q x v h r. search rules) _ _ _ _ within
          (λ xs t q x u y s h. (cell_room 16 _ _ (omega arith) light.0 light.1, (h, omega (arith, many, s.0, s.1)))),
    )

pub fill_half-requires : goal.fill_half-requires
fill_half-requires g c =
    let k = c.args.self.now.code in
    let bs = survivors (survivor g.K.Score.Score.worth) c.args.self.now.best.now in
    let light = g.met.K.Score.Score.light in
    let made = all_made _ _ (λ u w. Into k.numbers bs g.K.Score.Score.worth c.args.first u w) (λ a b q r. search rules) g.row.N c.from_fn-ways.result c.from_fn-ways.ensures.items in
    let long = c.from_fn-ways.ensures.items.long in
    let pairs = c.requires.pairs in
    let known = known_by k bs g.K.Score.Score.worth c.args.first c.from_fn-ways.result (omega arith) c.requires.first (λ u d h. made u d (omega arith)) in
    let half = c.requires.half in
    let row = c.args.self.now.whole in
    let few = groups_most k in
    let even = pairs_are k.numbers.checked in
    let most = states_most k in
    let some : 0 < 2 ^ k.numbers.checked = pow_pos k.numbers.checked in (
      way_room g.row.N _ _ (omega arith) light.0 light.1,
      (
        omega arith,
        (
          omega arith,
          λ step h. subst (Reaches c.from_fn-ways.result step) (sym row) (reaches k bs g.K.Score.Score.worth c.args.first step c.from_fn-ways.result known (omega arith)),
        ),
      ),
    )

pub returns : goal.returns
returns g c =
    let k = c.args.self.now.code in
    let bs = survivors (survivor g.K.Score.Score.worth) c.args.self.now.best.now in
    let made = all_made _ _ (λ u w. Into k.numbers bs g.K.Score.Score.worth c.args.first u w) (λ a b q r. search rules) g.row.N c.from_fn-ways.result c.from_fn-ways.ensures.items in
    let long = c.from_fn-ways.ensures.items.long in
    let pairs = c.requires.pairs in
    let half = c.requires.half in
    let known = known_by k bs g.K.Score.Score.worth c.args.first c.from_fn-ways.result (omega arith) c.requires.first (λ u d h. made u d (omega arith)) in
    c.fill_half.ensures k bs c.args.first known (omega arith)
