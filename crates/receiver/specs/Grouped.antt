-- Groups of labels: the labels of a group have the same lowest bits, z0 and the checked ones.
use Rattle.std.specs.Prelude.{◌≡◌, ℕ, ◌+◌, ◌%◌, ◌^◌, ◌<◌, min, true, false, cond, List, nat_lt, slice_index_or}
use Rattle.receiver.specs.Cells.{no_survivor}
use Rattle.survivors.specs.Best.{Survivor, Best}
use Rattle.trellis.specs.declared.Numbers.{Numbers}
use Rattle.trellis.specs.Numbers.{label_bits}

-- Label z of group g.
abbrev pub InGroup : Numbers → ℕ → ℕ → Type 0
InGroup n g z = (z < 2 ^ label_bits n) × (z % 2 ^ (n.checked + 1) ≡ g)

-- The best label of a group.
abbrev pub GroupBest : Numbers → (ℕ → ℕ) → ℕ → Survivor → Type 0
GroupBest n worth g c = Best (InGroup n g) worth (λ _. Unit {0}) c

-- The best labels of the first groups.
abbrev pub GroupsBest : Numbers → (ℕ → ℕ) → ℕ → List Survivor → Type 0
GroupsBest n worth many cs = (g : ℕ) → g < many → GroupBest n worth g (slice_index_or cs g no_survivor)

-- A label alone.
abbrev pub alone : ℕ → ℕ → Survivor
alone worth label = record { worth = worth; label = label; sole = true }

-- The better of two: less worth wins. Of equal worth, the lower label, which is not alone.
abbrev pub better : Survivor → Survivor → Survivor
better a b =
    cond (nat_lt a.worth b.worth) a
    (cond (nat_lt b.worth a.worth) b (record { worth = a.worth; label = min a.label b.label; sole = false }))
