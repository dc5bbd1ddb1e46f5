use Rattle.std.proofs.Common.{map}
use Rattle.receiver.specs.Scored.{Filled}
use Rattle.receiver.proofs.table.fill.Given as goal

abbrev pub invariant-loop-phase : goal.invariant-loop-phase
invariant-loop-phase g l = Filled (map g.S.Score.worth l.row) l.phase ((g.F.Front.meaning l.front).worth l.phases l.reading)
