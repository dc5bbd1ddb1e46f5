use Rattle.trellis.proofs.Sets.{within}
use Rattle.code.proofs.Packed.{and_phases}
use Rattle.code.proofs.record.Code.modulo.Goals as goal

pub returns : goal.returns
returns c = let n = c.args.self.numbers in and_phases n.phases (within n c.args.self.limits).phases c.args.number
