use Rattle.std.proofs.Common.{sym, ◌∙◌}
use Rattle.trellis.proofs.Positions.{one-put}
use Rattle.trellis.proofs.Sets.{within}
use Rattle.code.proofs.record.Code.turning_label.Goals as goal

pub returns-then-self-eq1 : goal.returns-then-self-eq1
returns-then-self-eq1 c =
    let n = c.args.self.numbers in
    c.modulo.ensures ∙ sym (one-put n (within n c.args.self.limits) c.if-self-eq1.true c.args.number 0)
