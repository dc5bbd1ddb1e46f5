-- The rows of a signal set, by the number of places and the bits of a phase.
use Rattle.std.specs.Prelude.{ℕ, zero, suc, ◌-◌, ◌*◌, ◌^◌, cond, List, [], ◌∷◌, drop, ◌==◌}
use Rattle.trellis.specs.declared.Row.{Row}
use Rattle.trellis.specs.declared.Numbers.{Numbers}
use Rattle.trellis.specs.Numbers.{phase_bits}

-- The turning row of level j: every entry is 2^j.
abbrev pub turning : ℕ → Row
turning j = record { turn = 2 ^ j; pattern = 0 ∷ 0 ∷ 0 ∷ 0 ∷ [] }

-- The row of level i that is 2^i times the zeros and ones a b c d.
abbrev pub patterned : ℕ → ℕ → ℕ → ℕ → ℕ → Row
patterned i a b c d = record { turn = 0; pattern = 2 ^ i * a ∷ 2 ^ i * b ∷ 2 ^ i * c ∷ 2 ^ i * d ∷ [] }

-- One place: k rows from level j on.
abbrev pub one_place : ℕ → ℕ → List Row
one_place j zero = []
one_place j (suc k) = turning j ∷ one_place (suc j) k

-- Two places: [0 1] and [1 1] of k levels from j on.
abbrev pub two_places : ℕ → ℕ → List Row
two_places j zero = []
two_places j (suc k) = patterned j 0 1 0 0 ∷ turning j ∷ two_places (suc j) k

-- Four places, after the three rows of level 0: k groups of four from turning level j on, and the last turning row.
abbrev pub four_places : ℕ → ℕ → List Row
four_places j zero = turning j ∷ []
four_places j (suc k) =
    patterned (suc j) 0 0 0 1 ∷ turning j ∷ patterned (suc j) 0 0 1 1 ∷ patterned (suc j) 0 1 0 1 ∷ four_places (suc j) k

-- All rows of the signal set of l places and 2^i phases.
abbrev pub signal_rows : ℕ → ℕ → List Row
signal_rows l i =
    cond (l == 1) (one_place 0 i) (cond (l == 2) (two_places 0 i)
    (patterned 0 0 0 0 1 ∷ patterned 0 0 0 1 1 ∷ patterned 0 0 1 0 1 ∷ four_places 0 (i - 1)))

-- The rows that the label bits z0, z1, .. of a code pick: those from its offset on.
abbrev pub label_rows : Numbers → List Row
label_rows n = drop n.offset (signal_rows n.places (phase_bits n))
