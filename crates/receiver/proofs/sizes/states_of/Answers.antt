use Rattle.std.proofs.Common.{arith}
use Rattle.std.proofs.lemmas.Nat.{one_shl}
use Rattle.receiver.proofs.Limited.{memory_most, states_least, states_most}
use Rattle.receiver.proofs.sizes.states_of.Goals as goal

pub returns-clause-least : goal.returns-clause-least
returns-clause-least c =
    let few = memory_most c.args.code in
    let is = one_shl c.args.code.numbers.memory 64 (omega arith) in
    omega (arith, states_least c.args.code)

pub returns-clause-most : goal.returns-clause-most
returns-clause-most c =
    let few = memory_most c.args.code in
    let is = one_shl c.args.code.numbers.memory 64 (omega arith) in
    omega (arith, states_most c.args.code)
