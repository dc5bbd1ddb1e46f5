use Rattle.std.proofs.Common.{◌+◌, arith}
use Rattle.sender.proofs.Fits.{modulus-some, risen-is}
use Rattle.sender.proofs.encoder.Precoder.risen.Goals as goal

pub overflow_sub-result : goal.overflow_sub-result
overflow_sub-result c = let some = modulus-some c.args.self.code c.args.self.exponent c.args.self.exponent_is in omega arith

pub returns-clause-value : goal.returns-clause-value
returns-clause-value c = risen-is c.args.self.code c.args.self.exponent c.args.self.exponent_is (c.args.differential + c.args.number)
