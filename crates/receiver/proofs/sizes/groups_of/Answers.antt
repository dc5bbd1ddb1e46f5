use Rattle.std.proofs.Common.{◌+◌, arith}
use Rattle.std.proofs.lemmas.Nat.{one_shl}
use Rattle.receiver.proofs.Limited.{checked_most, groups_most}
use Rattle.receiver.proofs.sizes.groups_of.Goals as goal

pub returns-clause-most : goal.returns-clause-most
returns-clause-most c =
    let few = checked_most c.args.code in
    let is = one_shl (c.args.code.numbers.checked + 1) 16 (omega arith) in
    omega (arith, groups_most c.args.code)
