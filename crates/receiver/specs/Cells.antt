-- Cells as survivors, and a list of cells as rows.
use Rattle.std.specs.Prelude.{ℕ, ◌+◌, ◌*◌, true, false, List, map, slice_index_or}
use Rattle.receiver.specs.declared.cell.Cell.{Cell}
use Rattle.survivors.specs.Best.{Survivor}

-- What a cell says, by the worth of its score.
abbrev pub survivor : {S : Type 0} → (S → ℕ) → Cell S → Survivor
survivor worth c = record { worth = worth c.score; label = c.label; sole = c.sole }

abbrev pub no_survivor : Survivor
no_survivor = record { worth = 0; label = 0; sole = false }

-- The empty path: worth 0, and no other ends where it does.
abbrev pub empty_path : Survivor
empty_path = record { worth = 0; label = 0; sole = true }

-- What a list of kept cells says, by what each says.
abbrev pub survivors : {K : Type 0} → (K → Survivor) → List K → List Survivor
survivors says cs = map says cs

-- A row of survivors, by its states.
abbrev pub row_in : List Survivor → ℕ → Survivor
row_in cs E = slice_index_or cs E no_survivor

-- Row t of a list of survivors, with so many states a row.
abbrev pub row_of : List Survivor → ℕ → ℕ → ℕ → Survivor
row_of cs states t E = slice_index_or cs (t * states + E) no_survivor
