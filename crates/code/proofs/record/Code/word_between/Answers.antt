use Rattle.std.proofs.Common.{arith}
use Rattle.code.proofs.Numbered.{number_below, modulus_few, number_is, label_is, label-fits, before-below, after-below, word-is}
use Rattle.code.proofs.record.Code.word_between.Goals as goal

pub overflow_cast-number : goal.overflow_cast-number
overflow_cast-number c =
    let is = number_is c.args.self _ c.step-step.ensures.value _ c.rows-rows.ensures.value _ _ c.gathered-number.ensures in
    let below = number_below c.args.self c.args.label.0 in
    let few = modulus_few c.args.self in
    record { fits = omega arith }

pub overflow_cast-gathered : goal.overflow_cast-gathered
overflow_cast-gathered c =
    let is = number_is c.args.self _ c.step-step.ensures.value _ c.rows-rows.ensures.value _ _ c.gathered.ensures in
    let below = number_below c.args.self c.args.before.0 in
    let few = modulus_few c.args.self in
    record { fits = omega arith }

pub difference-rise-requires-clause-before : goal.difference-rise-requires-clause-before
difference-rise-requires-clause-before c =
    let k = c.args.self in
    let s = c.step-step.ensures.value in
    let r = c.rows-rows.ensures.value in
    before-below k _ s c.args.before.0 c.args.label.0 _ _ (number_is k _ s _ r _ _ c.gathered.ensures) (number_is k _ s _ r _ _ c.gathered-number.ensures)

pub difference-rise-requires-clause-number : goal.difference-rise-requires-clause-number
difference-rise-requires-clause-number c =
    let k = c.args.self in
    let s = c.step-step.ensures.value in
    let r = c.rows-rows.ensures.value in
    after-below k _ s c.args.before.0 c.args.label.0 _ _ (number_is k _ s _ r _ _ c.gathered.ensures) (number_is k _ s _ r _ _ c.gathered-number.ensures)

pub overflow_cast-result : goal.overflow_cast-result
overflow_cast-result c =
    let fits = label-fits c.args.self _ c.step-step.ensures.value _ c.rows-rows.ensures.value _ _ _ c.replaced.ensures in record { fits = omega arith }

pub returns : goal.returns
returns c =
    let k = c.args.self in
    let s = c.step-step.ensures.value in
    let r = c.rows-rows.ensures.value in
    word-is k _ s c.args.before.0 c.args.label.0 _ _ (number_is k _ s _ r _ _ c.gathered.ensures) (number_is k _ s _ r _ _ c.gathered-number.ensures)
    _ _ c.difference-rise.ensures (label_is k _ s _ r _ _ _ c.replaced.ensures)
