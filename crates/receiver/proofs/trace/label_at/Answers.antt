use Rattle.std.proofs.Common.{List, get_or, ap, ◌∙◌}
use Rattle.receiver.specs.Cells.{survivors, no_survivor}
use Rattle.survivors.specs.Best.{Survivor}
use Rattle.receiver.proofs.EndRow.{part_at}
use Rattle.receiver.proofs.trace.label_at.Goals as goal

pub returns : goal.returns
returns g c =
    let says = g.K.Kept.says in
    ap (λ (s : Survivor). s.label)
    (c.cell_at.ensures ∙ ap (λ (row : List g.row.K.Denot). get_or (survivors says row) c.args.state no_survivor) c.row_at.ensures
    ∙ part_at says c.args.cells.now c.args.states c.args.t c.args.state c.requires.state)
