-- The way back through the rows.
use Rattle.std.specs.Prelude.{ℕ, zero, suc, List, [], ◌∷◌, ◌++◌}
use Rattle.survivors.specs.Best.{Survivor}
use Rattle.survivors.specs.Rows.{back}
use Rattle.trellis.specs.declared.Numbers.{Numbers}

-- The labels of the best path of t symbols to state E, oldest first.
abbrev pub trace : Numbers → (ℕ → ℕ → Survivor) → ℕ → ℕ → List ℕ
trace n row zero E = []
trace n row (suc t) E = trace n row t (back n E (row (suc t) E).label) ++ ((row (suc t) E).label ∷ [])

-- The state where it starts.
abbrev pub trace_start : Numbers → (ℕ → ℕ → Survivor) → ℕ → ℕ → ℕ
trace_start n row zero E = E
trace_start n row (suc t) E = trace_start n row t (back n E (row (suc t) E).label)
