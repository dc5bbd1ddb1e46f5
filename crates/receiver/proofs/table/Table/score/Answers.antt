use Rattle.std.proofs.Common.{◌≡◌, ℕ, map, ap, ◌∙◌, arith}
use Rattle.receiver.specs.Scored.{places_sum}
use Rattle.trellis.specs.Mapper.{symbol_of}
use Rattle.receiver.proofs.Limited.{places_most}
use Rattle.receiver.proofs.Sums.{sum_more, phase_read, length-used}
use Rattle.receiver.proofs.table.Table.score.Goals as goal

pub offset_bounds-self-place : goal.offset_bounds-self-place
offset_bounds-self-place g c =
    let read = phase_read c.args.code c.symbol-symbol.result c.args.label c.from.result c.symbol-symbol.ensures.value c.from.ensures c.loop-place.place c.from-in-loop-place.result c.loop-place-test.true c.from-in-loop-place.ensures in omega arith

pub listed : goal.listed
listed g c =
    let read = phase_read c.args.code c.symbol-symbol.result c.args.label c.from.result c.symbol-symbol.ensures.value c.from.ensures c.loop-place.place c.from-in-loop-place.result c.loop-place-test.true c.from-in-loop-place.ensures in omega arith

pub bounds-self-place : goal.bounds-self-place
bounds-self-place g c =
    let read = phase_read c.args.code c.symbol-symbol.result c.args.label c.from.result c.symbol-symbol.ensures.value c.from.ensures c.loop-place.place c.from-in-loop-place.result c.loop-place-test.true c.from-in-loop-place.ensures in omega arith

pub loop-place-preserved : goal.loop-place-preserved
loop-place-preserved g c =
    let few = places_most c.args.code in
    let read = phase_read c.args.code c.symbol-symbol.result c.args.label c.from.result c.symbol-symbol.ensures.value c.from.ensures c.loop-place.place c.from-in-loop-place.result c.loop-place-test.true c.from-in-loop-place.ensures in
    sum_more g.S.Score.worth g.S.Score.sum g.met.S.Score.exact c.args.self.now.scores (symbol_of c.args.code.numbers c.args.label) c.loop-place.place c.from-in-loop-place.result
    c.loop-place.sum c.index-self-place.result c.plus-sum.result (omega arith) read.1 (omega arith) c.index-self-place.is c.plus-sum.ensures c.args.self.now.small c.loop-place.invariant

pub returns : goal.returns
returns g c =
    let past = c.loop-place-test.false in
    let most = c.loop-place.auto.place-end in
    let used = length-used c.args.code c.symbol-symbol.result c.args.label c.from.result c.symbol-symbol.ensures.value c.from.ensures in
    let all : c.loop-place.place ≡ c.args.code.numbers.places = omega arith in
    c.loop-place.invariant ∙ ap (λ (a : ℕ). places_sum (map g.S.Score.worth c.args.self.now.scores) (symbol_of c.args.code.numbers c.args.label) a) all
