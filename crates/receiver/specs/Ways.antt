-- Ways into the states of one half: those below 2^(v-1), or those from there on.
use Rattle.std.specs.Prelude.{◌≡◌, ℕ, ◌+◌, ◌*◌, ◌/◌, ◌^◌, ◌<◌, ◌⊎◌, List, length, bit_xor, slice_index_or}
use Rattle.code.specs.declared.record.Code.{Code}
use Rattle.receiver.specs.declared.entering.Way.{Way}
use Rattle.receiver.specs.Cells.{survivor, no_survivor, row_in}
use Rattle.receiver.specs.Entered.{EntersBest, Given}
use Rattle.survivors.specs.Best.{Survivor}
use Rattle.survivors.specs.Rows.{back}
use Rattle.trellis.specs.declared.Numbers.{Numbers}

-- The first state of a half.
abbrev pub StartsHalf : Numbers → ℕ → Type 0
StartsHalf n first = (first ≡ 0) ⊎ (2 * first ≡ 2 ^ n.memory)

-- A way has the state from which one of the groups 2u and 2u + 1 leads to the state, and the group's best label.
pub record Into {X : Type 0} (n : Numbers) (bs : List Survivor) (worth : X → ℕ) (first u : ℕ) (w : Way X) : Type 0 where
  pub group : ℕ
  pub pair : group / 2 ≡ u
  pub before : w.before ≡ back n first group
  pub low : w.before < 2 ^ n.memory
  pub last : survivor worth w.last ≡ slice_index_or bs group no_survivor

-- A row of so many cells has the state before, by each of the ways, of the state `step` behind the first of the half.
abbrev pub Reaches : {X : Type 0} → List (Way X) → ℕ → ℕ → Type 0
Reaches {X} ways step cells = (u : ℕ) (w : Way X) → u < length ways → w ≡ slice_index_or ways u w → bit_xor w.before (2 * step) < cells

-- The ways are those of a code into the half that begins with the state `first`, one for each pair of groups.
pub record Known {X : Type 0} (k : Code) (bs : List Survivor) (worth : X → ℕ) (first : ℕ) (ways : List (Way X)) : Type 0 where
  pub pairs : length ways ≡ 2 ^ k.numbers.checked
  pub start : StartsHalf k.numbers first
  pub into : (u : ℕ) (w : Way X) → u < length ways → w ≡ slice_index_or ways u w → Into k.numbers bs worth first u w

-- The half that begins with the state `first` has the best branches into its states.
abbrev pub HalfBest : Numbers → (ℕ → Survivor) → List Survivor → List Survivor → ℕ → Type 0
HalfBest n row bs half first = Given n row bs (λ s. (E : ℕ) → E < length half → EntersBest n s row (first + E) (row_in half E))
