use Rattle.trellis.specs.Label.{turns_by}
use Rattle.code.proofs.Loops.{Replaced}
use Rattle.code.proofs.differential.replaced.Given as goal

abbrev pub invariant-loop-row : goal.invariant-loop-row
invariant-loop-row l = Replaced (turns_by l.least) l.rows l.row-index l.digits l.rest l.weight l.made l.number l.label
