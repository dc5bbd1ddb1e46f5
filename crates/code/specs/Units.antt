-- Answers in units, as numbers.
use Rattle.std.specs.Prelude.{ℕ, cond, Some, None, Option, nat_lt}
use Rattle.std.specs.Option.{option_map}
use Rattle.code.specs.declared.units.Phase.{Phase}
use Rattle.trellis.specs.declared.Numbers.{Numbers}
use Rattle.trellis.specs.Mapper.{phase_at}

-- The number of a phase, if there is one.
abbrev pub phase_number : Option Phase → Option ℕ
phase_number p = option_map (λ x. x.0) p

-- The phase at a used place, and nothing past the last.
abbrev pub phase_within : Numbers → ℕ → ℕ → Option ℕ
phase_within n z a = cond (nat_lt a n.places) (Some (phase_at n z a)) None
