-- Readings of whole symbols: those of the places, one behind another, W words each.
use Rattle.std.specs.Prelude.{ℕ, zero, suc, ◌<◌, Bool, true, ◌&&◌, List, [], ◌∷◌, ◌++◌, take, drop}
use Rattle.reception.specs.Front.{FrontMeaning}

-- The reading of place a.
abbrev pub place_reading : ℕ → List ℕ → ℕ → List ℕ
place_reading W ws zero = take W ws
place_reading W ws (suc a) = place_reading W (drop W ws) a

-- The readings of so many places are fit.
abbrev pub all_fit : FrontMeaning → ℕ → ℕ → List ℕ → Bool
all_fit f M zero ws = true
all_fit f M (suc places) ws = f.fit M (take (f.width M) ws) && all_fit f M places (drop (f.width M) ws)

-- One place's reading, turned by t phases.
abbrev pub turned_by : FrontMeaning → ℕ → ℕ → List ℕ → List ℕ
turned_by f M zero ws = ws
turned_by f M (suc t) ws = f.turn M (turned_by f M t ws)

-- The readings of so many places, each turned by t phases.
abbrev pub places_turned : FrontMeaning → ℕ → ℕ → ℕ → List ℕ → List ℕ
places_turned f M t zero ws = ws
places_turned f M t (suc places) ws = turned_by f M t (take (f.width M) ws) ++ places_turned f M t places (drop (f.width M) ws)

-- The clean reading of the phases of a symbol's places.
abbrev pub clean_reading : FrontMeaning → ℕ → List ℕ → List ℕ
clean_reading f M [] = []
clean_reading f M (m ∷ ms) = f.clean M m ++ clean_reading f M ms

-- Each phase is below M.
abbrev pub Phases : ℕ → List ℕ → Type 0
Phases M [] = Unit {0}
Phases M (m ∷ ms) = (m < M) × Phases M ms
