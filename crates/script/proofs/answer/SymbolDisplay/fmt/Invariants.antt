use Rattle.std.proofs.Common.{◌∷◌, take}
use Rattle.std.specs.Fmt.{decimal, HasWritten, IsPlainFormatter}
use Rattle.std.specs.List.{flat_map}
use Rattle.script.proofs.answer.SymbolDisplay.fmt.Given as goal

abbrev pub invariant-loop-phase : goal.invariant-loop-phase
invariant-loop-phase g l =
    IsPlainFormatter l.initial.f → HasWritten g.W.Write.write_str_gives l.initial.f (flat_map (λ p. 32 ∷ decimal p) (take l.phase-index l.phase-items)) l.f
