use Rattle.std.proofs.Common.{sym, ap, ◌∙◌, arith}
use Rattle.receiver.proofs.Places.{all_fit-each, all_fit-not, fit_more}
use Rattle.receiver.proofs.reading.Reading.is_fit.Goals as goal

pub loop-place-init : goal.loop-place-init
loop-place-init g c a l = absurd (omega arith)

pub loop-place-preserved : goal.loop-place-preserved
loop-place-preserved g c =
    let r = c.args.self.now in
    let f = g.F.Front.meaning r.front.now in
    let M = r.code.numbers.phases in
    fit_more f M r.words.now c.loop-place.place (ap (f.fit M) (sym c.place.ensures) ∙ sym c.if-not-fit.ensures) c.loop-place.invariant

pub returns-then-not-fit : goal.returns-then-not-fit
returns-then-not-fit g c =
    let r = c.args.self.now in
    let f = g.F.Front.meaning r.front.now in
    let M = r.code.numbers.phases in
    sym (all_fit-not f M r.code.numbers.places r.words.now c.loop-place.place c.loop-place-test.true (ap (f.fit M) (sym c.place.ensures) ∙ sym c.if-not-fit.ensures))

pub returns : goal.returns
returns g c =
    let r = c.args.self.now in
    let past = c.loop-place-test.false in
    sym (all_fit-each (g.F.Front.meaning r.front.now) r.code.numbers.phases r.code.numbers.places r.words.now (λ a l. c.loop-place.invariant a (omega arith)))
