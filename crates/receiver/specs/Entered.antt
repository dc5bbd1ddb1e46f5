-- The branches into one state, by the pairs of groups that differ in z0: of each pair exactly one group enters the state.
use Rattle.std.specs.Prelude.{◌≡◌, ℕ, ◌+◌, ◌/◌, ◌%◌, ◌^◌, ◌<◌, ◌&&◌, List, get_or}
use Rattle.receiver.specs.Cells.{no_survivor}
use Rattle.receiver.specs.Grouped.{GroupsBest}
use Rattle.reception.specs.Worth.{Scores, label_worth}
use Rattle.survivors.specs.Best.{Survivor, Best}
use Rattle.survivors.specs.Rows.{Enters, through, AloneBefore}
use Rattle.trellis.specs.declared.Numbers.{Numbers}

-- The survivor of a state, and the best label of a group behind it.
abbrev pub continued : Survivor → Survivor → Survivor
continued before last = record { worth = before.worth + last.worth; label = last.label; sole = before.sole && last.sole }

-- The sums of a state's worth and a group's are exact.
abbrev pub Exact : Numbers → (ℕ → Survivor) → List Survivor → Type 0
Exact n row bs =
    (S g : ℕ) → S < 2 ^ n.memory → g < 2 ^ (n.checked + 1) → (row S).worth + (get_or bs g no_survivor).worth < 2 ^ 30

-- The label z enters state E, and is in one of the groups 2u and 2u + 1.
abbrev pub ByPair : Numbers → ℕ → ℕ → ℕ → Type 0
ByPair n E u z = Enters n E z × (z % 2 ^ (n.checked + 1) / 2 ≡ u)

-- The best of those labels.
abbrev pub PairBest : Numbers → Scores → (ℕ → Survivor) → ℕ → ℕ → Survivor → Type 0
PairBest n s row E u c = Best (ByPair n E u) (through n s row E) (AloneBefore n row E) c

-- The best of all that enter.
abbrev pub EntersBest : Numbers → Scores → (ℕ → Survivor) → ℕ → Survivor → Type 0
EntersBest n s row E c = Best (Enters n E) (through n s row E) (AloneBefore n row E) c

-- Where the list holds the best of each group and sums are exact, P holds of the scores.
abbrev pub Given : Numbers → (ℕ → Survivor) → List Survivor → (Scores → Type 0) → Type 0
Given n row bs P = (s : Scores) → GroupsBest n (label_worth n s) (2 ^ (n.checked + 1)) bs → Exact n row bs → P s
