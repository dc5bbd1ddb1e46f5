-- The strike front: a reading is one phase, scored by how far each phase lies from it.
use Rattle.std.specs.Prelude.{ℕ, ◌+◌, ◌-◌, ◌%◌, min, Bool, cond, ◌&&◌, List, [], ◌∷◌, length, ◌==◌, nat_le, nat_lt, slice_index}
use Rattle.fronts.specs.declared.strikes.Strikes.{Strikes}
use Rattle.fronts.specs.Scores.{strikes_worth}

-- A reading is one word, fit if it is a phase.
abbrev pub strike_fit : ℕ → List ℕ → Bool
strike_fit M ws = length ws == 1 && nat_lt (slice_index ws 0) M

-- How far two numbers lie apart.
abbrev pub apart : ℕ → ℕ → ℕ
apart a b = (a - b) + (b - a)

-- How far two of M phases lie apart, by the shorter way round.
abbrev pub around : ℕ → ℕ → ℕ → ℕ
around M a b = min (apart a b) (M - apart a b)

-- The score at a distance: a strike if it is 2 or more.
abbrev pub at_distance : ℕ → Strikes
at_distance d = record { distance = d; strikes = cond (nat_le 2 d) 1 0 }

-- The score of phase m: nought, as at its own phase, in an unfit reading, and if m is no phase.
abbrev pub strike_score : ℕ → List ℕ → ℕ → Strikes
strike_score M ws m = at_distance (cond (strike_fit M ws && nat_lt m M) (around M (slice_index ws 0) m) 0)

-- What that score is worth.
abbrev pub strike_worth : ℕ → List ℕ → ℕ → ℕ
strike_worth M ws m = strikes_worth (strike_score M ws m)

-- The next phase; an unfit reading stays as it is.
abbrev pub strike_turn : ℕ → List ℕ → List ℕ
strike_turn M ws = cond (strike_fit M ws) ((slice_index ws 0 + 1) % M ∷ []) ws

-- The phase itself.
abbrev pub strike_clean : ℕ → ℕ → List ℕ
strike_clean M m = m ∷ []
