use Rattle.std.proofs.Common.{ℕ, sym, ap, ◌∙◌}
use Rattle.trellis.specs.Sums.{turns_by_sum}
use Rattle.trellis.proofs.Sets.{within}
use Rattle.trellis.proofs.Turns.{turns_sum}
use Rattle.code.proofs.record.Code.checked_turns.Goals as goal

pub returns-clause-value : goal.returns-clause-value
returns-clause-value c =
    let n = c.args.self.numbers in
    c.turns_by_sum.ensures.value ∙ ap (λ (i : ℕ). turns_by_sum n.places i n.offset n.checked) c.phase_bits.ensures.value ∙ sym (turns_sum n (within n c.args.self.limits))
