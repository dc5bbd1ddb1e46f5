use Rattle.code.proofs.Numbered.{label-fits}
use Rattle.code.proofs.record.Code.with_differential.Goals as goal

pub overflow_cast-result : goal.overflow_cast-result
overflow_cast-result c =
    record { fits = label-fits c.args.self _ c.step.ensures.value _ c.rows.ensures.value _ _ _ c.replaced.ensures }
