-- The lost-place layer: one word before the reading of the front f below. 0: the place is as f says. 1: the place is
-- lost, so that nothing is known of it, and every phase scores nought.
use Rattle.std.specs.Prelude.{ℕ, ◌+◌, Bool, false, cond, ◌&&◌, List, [], ◌∷◌, length, ◌==◌}
use Rattle.reception.specs.Front.{FrontMeaning}

-- One word more than below.
abbrev pub lost_width : FrontMeaning → ℕ → ℕ
lost_width f M = f.width M + 1

-- A lost place is fit whatever the words below are, if they are as many as a reading below has.
abbrev pub lost_fit : FrontMeaning → ℕ → List ℕ → Bool
lost_fit f M [] = false
lost_fit f M (w ∷ ws) = cond (w == 0) (f.fit M ws) (w == 1 && length ws == f.width M)

-- The worth below, or nought.
abbrev pub lost_worth : FrontMeaning → ℕ → List ℕ → ℕ → ℕ
lost_worth f M [] m = 0
lost_worth f M (w ∷ ws) m = cond (w == 0) (f.worth M ws m) 0

-- Turning turns what is below, and leaves a lost place as it is.
abbrev pub lost_turn : FrontMeaning → ℕ → List ℕ → List ℕ
lost_turn f M [] = []
lost_turn f M (w ∷ ws) = w ∷ cond (w == 0) (f.turn M ws) ws

-- A clean reading is not lost.
abbrev pub lost_clean : FrontMeaning → ℕ → ℕ → List ℕ
lost_clean f M m = 0 ∷ f.clean M m
