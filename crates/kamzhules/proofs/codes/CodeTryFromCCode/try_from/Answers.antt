use Rattle.std.proofs.Common.{ap, ◌∙◌}
use Rattle.code.specs.Flaw.{judged}
use Rattle.kamzhules.proofs.codes.CodeTryFromCCode.try_from.Goals as goal

pub returns : goal.returns
returns c = c.new.ensures ∙ ap judged c.from.ensures
