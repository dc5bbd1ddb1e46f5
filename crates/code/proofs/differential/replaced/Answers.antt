use Rattle.std.proofs.Common.{ℕ, ◌*◌, ap}
use Rattle.std.proofs.lemmas.Bool.{le-leb, lt-leb}
use Rattle.trellis.specs.Label.{turns_by}
use Rattle.code.proofs.Loops.{replaced_marked, replaced_other}
use Rattle.code.proofs.differential.replaced.Goals as goal
use Rattle.code.proofs.differential.replaced.Goals.{then-least-row, else-least-row}

pub loop-row-preserved : goal.loop-row-preserved
loop-row-preserved c =
    elim c.if-least-row.branch [
      | then-least-row w ↦
          simp (w.digits-is, w.made-is) (replaced_marked (turns_by c.args.least) c.args.rows.now c.loop-row.row-index _ c.loop-row-test.true
          _ _ _ _ _ _ _ (le-leb _ _ w.if-least-row.true) (ap (λ (b : ℕ). c.loop-row.weight * b) w.lowest.ensures) c.loop-row.invariant)
      | else-least-row w ↦
          simp (w.digits-is, w.made-is) (replaced_other (turns_by c.args.least) c.args.rows.now c.loop-row.row-index _ c.loop-row-test.true
          _ _ _ _ _ _ _ (lt-leb _ _ w.if-least-row.false) w.weighed-made.ensures c.loop-row.invariant)
    ]
