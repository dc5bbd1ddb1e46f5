use Rattle.std.proofs.Common.{arith}
use Rattle.code.proofs.Numbered.{number_below, modulus_few, number_is}
use Rattle.code.proofs.record.Code.differential.Goals as goal

pub overflow_cast-result : goal.overflow_cast-result
overflow_cast-result c =
    let is = number_is c.args.self _ c.step.ensures.value _ c.rows.ensures.value _ _ c.gathered.ensures in
    let below = number_below c.args.self c.args.label.0 in
    let few = modulus_few c.args.self in
    record { fits = omega arith }
