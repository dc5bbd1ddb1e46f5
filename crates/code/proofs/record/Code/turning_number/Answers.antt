use Rattle.std.proofs.Common.{sym, ◌∙◌}
use Rattle.trellis.proofs.Positions.{one-turning}
use Rattle.trellis.proofs.Sets.{within}
use Rattle.code.proofs.record.Code.turning_number.Goals as goal

pub returns-then-self-eq1 : goal.returns-then-self-eq1
returns-then-self-eq1 c =
    let n = c.args.self.numbers in
    c.modulo.ensures ∙ sym (one-turning n (within n c.args.self.limits) c.if-self-eq1.true c.args.label.0)
