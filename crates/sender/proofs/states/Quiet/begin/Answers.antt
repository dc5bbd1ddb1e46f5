use Rattle.trellis.proofs.BurstLaws.{burst_law}
use Rattle.sender.proofs.Fits.{accepted}
use Rattle.sender.proofs.states.Quiet.begin.Goals as goal

pub returns-clause-burst : goal.returns-clause-burst
returns-clause-burst c = burst_law c.args.code.numbers (accepted c.args.code)
