use Rattle.std.proofs.Common.{◌≡◌, ◌≤◌}
use Rattle.trellis.specs.Numbers.{phase_bits}
use Rattle.code.proofs.TurningLoops.{read_from}
use Rattle.code.proofs.record.Code.number_at.Given as goal

abbrev pub invariant-loop-level : goal.invariant-loop-level
invariant-loop-level l = (l.number ≡ read_from l.self.numbers l.level l.label) × (l.level ≤ phase_bits l.self.numbers)
