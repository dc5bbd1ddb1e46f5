use Rattle.std.proofs.Common.{ap, ◌∙◌}
use Rattle.std.specs.Result.{result_err}
use Rattle.code.specs.Flaw.{judged}
use Rattle.code.proofs.Judged.{found-err}
use Rattle.code.proofs.flaw.Flaw.of.Goals as goal

pub returns : goal.returns
returns c = c.err.ensures.value ∙ ap result_err c.judge.ensures ∙ found-err (judged c.args.numbers)
