use Rattle.script.proofs.Scan.{first_within}
use Rattle.script.proofs.lines.first_call.Goals as goal

pub returns-in-None-clause-within : goal.returns-in-None-clause-within
returns-in-None-clause-within c = first_within c.args.text.now
