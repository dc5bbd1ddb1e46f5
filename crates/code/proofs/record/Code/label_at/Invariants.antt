use Rattle.code.proofs.TurningLoops.{Making}
use Rattle.code.proofs.record.Code.label_at.Given as goal

abbrev pub invariant-loop-level : goal.invariant-loop-level
invariant-loop-level l = Making l.self.numbers l.level l.made l.rest l.number
