use Rattle.std.proofs.Common.{arith}
use lib.Bits.{xor_lt}
use Rattle.trellis.proofs.Polynomials.{syndrome_nine}
use Rattle.sender.proofs.encoder.next_state.Goals as goal

pub remembered-requires : goal.remembered-requires
remembered-requires c =
    let few = syndrome_nine c.args.code.numbers c.args.code.limits c.args.code.polynomials c.args.label.0 in
    xor_lt 9 c.args.state.0 _ (omega arith) (rw c.requires few)
