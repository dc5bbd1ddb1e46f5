-- The best end state of a row.
use Rattle.std.specs.Prelude.{◌≡◌, ℕ, ◌+◌, ◌*◌, ◌^◌, ◌<◌, ◌≤◌, true, List, length, Some, None, Option, slice_index_or}
use Rattle.receiver.specs.declared.cell.Cell.{Cell}
use Rattle.receiver.specs.Cells.{survivor, no_survivor, row_of}
use Rattle.survivors.specs.Best.{Survivor, Best}
use Rattle.survivors.specs.Rows.{BestEnd}
use Rattle.trellis.specs.declared.Numbers.{Numbers}

-- What the row has for a state, with the state's number in the place of the label.
abbrev pub end_at : ℕ → Survivor → Survivor
end_at E c = record { worth = c.worth; label = E; sole = c.sole }

-- c is the best end state of the row cs.
abbrev pub BestOf : List Survivor → Survivor → Type 0
BestOf cs c = Best (λ E. E < length cs) (λ E. (slice_index_or cs E no_survivor).worth) (λ E. (slice_index_or cs E no_survivor).sole ≡ true) c

-- The best end state of the row cs, if it is not empty.
abbrev pub BestEnds : {S : Type 0} → (S → ℕ) → List Survivor → Option (Cell S) → Type 0
BestEnds worth cs None = length cs ≡ 0
BestEnds worth cs (Some c) = BestOf cs (survivor worth c)

-- The best end state after so many symbols, if the cells have that row.
abbrev pub BlockEnd : {S : Type 0} → (S → ℕ) → List Survivor → Numbers → ℕ → Option (Cell S) → Type 0
BlockEnd worth cs n count None = (count + 1) * 2 ^ n.memory ≤ length cs → ⊥
BlockEnd worth cs n count (Some c) = ((count + 1) * 2 ^ n.memory ≤ length cs) × BestEnd n (row_of cs (2 ^ n.memory) count) (survivor worth c)
