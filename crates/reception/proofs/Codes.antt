-- What is known of a code that is accepted.
use Rattle.std.proofs.Common.{◌≡◌, ℕ, ◌+◌, ◌*◌, ◌%◌, ◌^◌, ◌<◌, sym, ◌∙◌, subst, mod-lt, pow-add}
use Rattle.reception.specs.Accepted.{IsCode}
use Rattle.reception.proofs.Differences.{difference, same_rests, rests_same}
use Rattle.trellis.specs.declared.Numbers.{Numbers}
use Rattle.trellis.specs.Mapper.{phase_at, turning_number, patterns}
use Rattle.trellis.specs.Step.{step, step_exponent, differential_bits}
use Rattle.trellis.specs.Transparency.{Correspondence, Betrayed}
use Rattle.trellis.proofs.MapperLaws.{phases_some, phase_used}
use Rattle.trellis.proofs.StepLaws.{transparency}
use Rattle.trellis.proofs.Turned.{Accepted, accept, phases_split}

module _ (n : Numbers) (c : IsCode n) where
  pub accepted : Accepted n
  accepted = accept n c.limits c.polynomials c.parity

  pub some_phases : 0 < n.phases
  some_phases = phases_some n accepted.sets

  pub phase_below : (z a : ℕ) → a < n.places → phase_at n z a < n.phases
  phase_below z a h = subst (λ (x : ℕ). x < n.phases) (sym (phase_used n z a h)) (mod-lt (turning_number n z + patterns n z a) some_phases)

  steps_whole : n.phases ≡ 2 ^ differential_bits n * step n
  steps_whole = phases_split n accepted ∙ pow-add 2 (differential_bits n) (step_exponent n)

  -- Turnings with the same rests correspond, others are betrayed.
  pub corresponds : (t u symbols : ℕ) → t % step n ≡ u % step n → Correspondence n (difference n.phases t u) symbols
  corresponds t u symbols e =
      (transparency n accepted).unit.alike (difference n.phases t u) symbols (same_rests n.phases (step n) (2 ^ differential_bits n) some_phases steps_whole t u e)

  pub betrayed : (t u : ℕ) → (t % step n ≡ u % step n → ⊥) → Betrayed n (difference n.phases t u)
  betrayed t u ne =
      (transparency n accepted).unit.apart (difference n.phases t u) (λ e. ne (rests_same n.phases (step n) (2 ^ differential_bits n) some_phases steps_whole t u e))
