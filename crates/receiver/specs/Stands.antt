-- What a receiver stands for.
use Rattle.std.specs.Prelude.{◌≡◌, ℕ, ◌*◌, ◌^◌, ◌<◌, ◌≤◌, List, length, Some, None}
use Rattle.code.specs.declared.record.Code.{Code}
use Rattle.reception.specs.Block.{Block, no_block, block, capacity}
use Rattle.reception.specs.Worth.{Scores}
use Rattle.receiver.specs.Cells.{survivors, row_of}
use Rattle.receiver.specs.declared.record.Progress.{Progress}
use Rattle.receiver.specs.declared.record.Receiver.{Receiver}
use Rattle.survivors.specs.Best.{Survivor}
use Rattle.survivors.specs.Rows.{Rows}
use Rattle.trellis.specs.declared.Numbers.{Numbers}

-- The rows in a list of cells, for a code's number of states.
abbrev pub rows_in : {K : Type 0} → (K → Survivor) → List K → Numbers → ℕ → ℕ → Survivor
rows_in says cs n = row_of (survivors says cs) (2 ^ n.memory)

-- No state of the row has more worth.
abbrev pub RowMost : Numbers → (ℕ → Survivor) → ℕ → Type 0
RowMost n row most = (E : ℕ) → E < 2 ^ n.memory → (row E).worth ≤ most

-- The cells hold the block of the scores ss: its rows of survivors. No worth of row t passes that of t symbols' scores at
-- their most, 4 × 1,048,575 each, so that sums are exact.
pub record Holds {K : Type 0} (says : K → Survivor) (cs : List K) (n : Numbers) (ss : List Scores) : Type 0 where
  pub rows : Rows n ss (rows_in says cs n)
  pub few : length ss ≤ capacity (length cs) n
  pub small : (t : ℕ) → t ≤ length ss → RowMost n (rows_in says cs n t) (t * 4194300)

-- The cells, with the code of the open block and the count of its symbols, stand for the block.
abbrev pub StandsBy : {K : Type 0} → (K → Survivor) → List K → Progress → Block → Type 0
StandsBy says cs p no_block = p.code ≡ None
StandsBy says cs p (block n ss) = ((c : Code) × (p.code ≡ Some c) × (c.numbers ≡ n)) × (p.count ≡ length ss) × Holds says cs n ss

-- What a receiver stands for.
abbrev pub Stands : {K : Type 0} → (K → Survivor) → Receiver K → Block → Type 0
Stands says r b = StandsBy says r.cells.now r.progress b
