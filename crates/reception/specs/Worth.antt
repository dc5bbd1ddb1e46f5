-- The worth of labels and paths.
use Rattle.std.specs.Prelude.{ℕ, zero, suc, ◌+◌, List, [], ◌∷◌}
use Rattle.reception.specs.Front.{FrontMeaning}
use Rattle.reception.specs.Reading.{place_reading}
use Rattle.trellis.specs.declared.Numbers.{Numbers}
use Rattle.trellis.specs.Mapper.{phase_at}

-- The scores of one symbol: the worth at each place of each phase.
abbrev pub Scores : Type 0
Scores = ℕ → ℕ → ℕ

-- The scores that a front gives by the reading of a symbol.
abbrev pub scores_of : FrontMeaning → ℕ → List ℕ → Scores
scores_of f M ws a m = f.worth M (place_reading (f.width M) ws a) m

-- The worth of label z over its first places: the sum of the worths of its phases.
abbrev pub places_worth : Numbers → Scores → ℕ → ℕ → ℕ
places_worth n s z zero = 0
places_worth n s z (suc a) = places_worth n s z a + s a (phase_at n z a)

-- The worth of label z.
abbrev pub label_worth : Numbers → Scores → ℕ → ℕ
label_worth n s z = places_worth n s z n.places

-- The worth of a list of labels, one for each symbol.
abbrev pub path_worth : Numbers → List Scores → List ℕ → ℕ
path_worth n [] zs = 0
path_worth n (s ∷ ss) [] = 0
path_worth n (s ∷ ss) (z ∷ zs) = label_worth n s z + path_worth n ss zs
