use Rattle.std.proofs.Common.{◌<◌, ◌≤◌, arith}
use Rattle.trellis.specs.Numbers.{phase_bits}
use Rattle.code.proofs.TurningLoops.{make-more, make-fits, make_all}
use Rattle.code.proofs.record.Code.label_at.Goals as goal

pub overflow_add-made : goal.overflow_add-made
overflow_add-made c =
    let is = c.phase_bits-level-end.ensures.value in
    let less : c.loop-level.level < phase_bits c.args.self.numbers = omega (arith, c.loop-level-test.true) in
    record { fits = make-fits c.args.self.numbers c.args.self.limits c.loop-level.level c.turning_bit.result c.loop-level.made c.loop-level.rest c.args.number less c.turning_bit.ensures c.loop-level.invariant }

pub loop-level-preserved : goal.loop-level-preserved
loop-level-preserved c =
    let is = c.phase_bits-level-end.ensures.value in
    let less : c.loop-level.level < phase_bits c.args.self.numbers = omega (arith, c.loop-level-test.true) in
    make-more c.args.self.numbers c.args.self.limits c.loop-level.level c.turning_bit.result c.loop-level.made c.loop-level.rest c.args.number less c.turning_bit.ensures c.loop-level.invariant

pub returns : goal.returns
returns c =
    let is = c.phase_bits-level-end.ensures.value in
    let past : phase_bits c.args.self.numbers ≤ c.loop-level.level = omega (arith, c.loop-level-test.false) in
    make_all c.args.self.numbers c.args.self.limits c.loop-level.level c.loop-level.made c.loop-level.rest c.args.number past c.loop-level.invariant
