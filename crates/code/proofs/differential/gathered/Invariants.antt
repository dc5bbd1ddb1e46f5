use Rattle.trellis.specs.Label.{turns_by}
use Rattle.code.proofs.Loops.{Gathered}
use Rattle.code.proofs.differential.gathered.Given as goal

abbrev pub invariant-loop-row : goal.invariant-loop-row
invariant-loop-row l = Gathered (turns_by l.least) l.rows l.row-index l.rest l.weight l.number l.label
