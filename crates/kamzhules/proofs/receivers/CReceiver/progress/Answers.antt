use Rattle.std.proofs.Common.{rules, sym}
use Rattle.kamzhules.proofs.receivers.CReceiver.progress.Goals as goal

pub returns : goal.returns
returns c = (c.in_ok-code.code, c.if-self-ne1.false, sym c.in_ok-code.ensures, search rules)
