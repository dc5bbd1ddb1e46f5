use Rattle.std.proofs.lemmas.Bool.{le-leb, lt-leb}
use Rattle.trellis.specs.Label.{turns_by}
use Rattle.code.proofs.Loops.{gathered_marked, gathered_other}
use Rattle.code.proofs.differential.gathered.Goals as goal
use Rattle.code.proofs.differential.gathered.Goals.{then-least-row, else-least-row}

pub loop-row-preserved : goal.loop-row-preserved
loop-row-preserved c =
    elim c.if-least-row.branch [
      | then-least-row w ↦
          simp (w.number-is, w.weight-is) (gathered_marked (turns_by c.args.least) c.args.rows.now c.loop-row.row-index _ c.loop-row-test.true
          _ _ _ _ _ (le-leb _ _ w.if-least-row.true) w.weighed-number.ensures c.loop-row.invariant)
      | else-least-row w ↦
          simp (w.number-is, w.weight-is) (gathered_other (turns_by c.args.least) c.args.rows.now c.loop-row.row-index _ c.loop-row-test.true
          _ _ _ _ (lt-leb _ _ w.if-least-row.false) c.loop-row.invariant)
    ]
