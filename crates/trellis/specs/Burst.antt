-- Whole bursts: the labels of a list of data words.
use Rattle.std.specs.Prelude.{◌≡◌, ℕ, ◌/◌, ◌^◌, ◌<◌, List, [], ◌∷◌, drop}
use Rattle.trellis.specs.Label.{Agree, turns_by}
use Rattle.trellis.specs.declared.Numbers.{Numbers}
use Rattle.trellis.specs.Numbers.{label_bits, polynomials}
use Rattle.trellis.specs.Parity.{next_state}
use Rattle.trellis.specs.Path.{Leads}
use Rattle.trellis.specs.Precoder.{differential, label_of, placed, risen}
use Rattle.trellis.specs.Rows.{label_rows}
use Rattle.trellis.specs.Step.{step}

-- The labels sent for the words, from trellis state S and differential number V.
abbrev pub labels_from : Numbers → ℕ → ℕ → List ℕ → List ℕ
labels_from n S V [] = []
labels_from n S V (w ∷ ws) = label_of n S V w ∷ labels_from n (next_state (polynomials n) S (label_of n S V w)) (risen n V w) ws

-- One label for each word, with the word's bits outside the parity bit and the differential bits.
abbrev pub Carry : Numbers → List ℕ → List ℕ → Type 0
Carry n [] [] = Unit {0}
Carry n [] (z ∷ zs) = ⊥
Carry n (w ∷ ws) [] = ⊥
Carry n (w ∷ ws) (z ∷ zs) =
    (z < 2 ^ label_bits n) × Agree (turns_by (step n)) (drop 1 (label_rows n)) (placed w / 2) (z / 2) × Carry n ws zs

-- The differential number starts at V and rises by that of each word, modulo 2 to the count of differential bits.
abbrev pub Rises : Numbers → ℕ → List ℕ → List ℕ → Type 0
Rises n V [] zs = Unit {0}
Rises n V (w ∷ ws) [] = ⊥
Rises n V (w ∷ ws) (z ∷ zs) = (differential n z ≡ risen n V w) × Rises n (differential n z) ws zs

-- The labels zs are a burst of the words ws: a path from state 0 that carries them.
pub record Burst (n : Numbers) (ws zs : List ℕ) : Type 0 where
  pub path : (E : ℕ) × Leads (polynomials n) 0 zs E
  pub carry : Carry n ws zs
  pub rises : Rises n 0 ws zs

-- The labels that are sent are a burst of the words, and there is no other.
abbrev pub BurstLaw : Numbers → Type 0
BurstLaw n = (ws : List ℕ) → Burst n ws (labels_from n 0 0 ws) × ((zs : List ℕ) → Burst n ws zs → zs ≡ labels_from n 0 0 ws)
