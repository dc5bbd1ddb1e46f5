-- Paths through the trellis.
use Rattle.std.specs.Prelude.{◌≡◌, ℕ, List, [], ◌∷◌}
use Rattle.trellis.specs.Parity.{Allowed, next_state}

-- The labels are allowed one after another from state S, and end in state E.
abbrev pub Leads : List ℕ → ℕ → List ℕ → ℕ → Type 0
Leads hs S [] E = S ≡ E
Leads hs S (z ∷ zs) E = Allowed hs S z × Leads hs (next_state hs S z) zs E
