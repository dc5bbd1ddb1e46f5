use Rattle.std.proofs.Common.{◌≡◌, arith}
use Rattle.code.proofs.TurningLoops.{read_few, read_down, read_all}
use Rattle.code.proofs.record.Code.number_at.Goals as goal

pub overflow_mul-number : goal.overflow_mul-number
overflow_mul-number c =
    let few = read_few c.args.self.numbers c.loop-level.level c.loop-level.number c.args.label c.loop-level.invariant.0 in record { fits = omega arith }

pub overflow_add-number : goal.overflow_add-number
overflow_add-number c =
    let few = read_few c.args.self.numbers c.loop-level.level c.loop-level.number c.args.label c.loop-level.invariant.0 in record { fits = omega arith }

pub loop-level-preserved : goal.loop-level-preserved
loop-level-preserved c =
    let i = c.loop-level.invariant in
    (read_down c.args.self.numbers c.loop-level.level c.turning_bit.result c.loop-level.number c.args.label c.loop-level-test.true i.1 c.turning_bit.ensures i.0, omega arith)

pub returns : goal.returns
returns c =
    let none : c.loop-level.level ≡ 0 = omega (arith, c.loop-level-test.false) in
    read_all c.args.self.numbers c.args.self.limits c.loop-level.level c.loop-level.number c.args.label none c.loop-level.invariant.0
