use Rattle.std.proofs.Common.{ℕ, List, take, ap, ◌∙◌}
use Rattle.std.specs.List.{slice_get}
use Rattle.trellis.proofs.Sets.{within}
use Rattle.code.proofs.Joined.{used_phase}
use Rattle.code.proofs.record.Code.phase.Goals as goal

pub returns : goal.returns
returns c =
    let n = c.args.self.numbers in
    c.phase_of.ensures
    ∙ ap (λ (l : List ℕ). slice_get (take n.places l) c.args.place) c.symbol.ensures.value
    ∙ used_phase n (within n c.args.self.limits) c.args.label.0 c.args.place
