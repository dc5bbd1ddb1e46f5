-- Fronts by their meaning. A front turns the reading of one place, a list of 16-bit words, into scores of the phases.
use Rattle.std.specs.Prelude.{◌≡◌, ℕ, ◌+◌, ◌%◌, ◌^◌, ◌<◌, ◌≤◌, Bool, true, false, List, [], ◌∷◌, length, ◌≢◌}

-- Each word has 16 bits.
abbrev pub Words : List ℕ → Type 0
Words [] = Unit {0}
Words (w ∷ ws) = (w < 2 ^ 16) × Words ws

-- What a front says, by the number of phases M and the words alone, and the laws that it keeps. The worth of a score is
-- the whole number that the score stands for.
pub record FrontMeaning : Type 0 where
  -- how many words a reading has
  pub width : ℕ → ℕ
  -- whether a reading is fit
  pub fit : ℕ → List ℕ → Bool
  -- the worth of phase m
  pub worth : ℕ → List ℕ → ℕ → ℕ
  -- the reading turned by one phase
  pub turn : ℕ → List ℕ → List ℕ
  -- the clean reading of phase m
  pub clean : ℕ → ℕ → List ℕ
  -- A reading of another length is unfit.
  pub fit_long : (M : ℕ) (ws : List ℕ) → fit M ws ≡ true → length ws ≡ width M
  -- An unfit reading, or a phase of M or more, scores nought.
  pub unfit_nought : (M : ℕ) (ws : List ℕ) (m : ℕ) → fit M ws ≡ false → worth M ws m ≡ 0
  pub past_nought : (M : ℕ) (ws : List ℕ) (m : ℕ) → M ≤ m → worth M ws m ≡ 0
  -- Turning keeps a reading's length and whether it is fit, and an unfit one as it is.
  pub turn_long : (M : ℕ) (ws : List ℕ) → length (turn M ws) ≡ length ws
  pub turn_fit : (M : ℕ) (ws : List ℕ) → fit M (turn M ws) ≡ fit M ws
  pub turn_unfit : (M : ℕ) (ws : List ℕ) → fit M ws ≡ false → turn M ws ≡ ws
  -- The worth of the next phase is then what the worth of a phase was.
  pub turn_worth : (M : ℕ) (ws : List ℕ) (m : ℕ) → fit M ws ≡ true → m < M → worth M (turn M ws) ((m + 1) % M) ≡ worth M ws m
  -- A clean reading is fit, worth 0 at its phase and at least 1 elsewhere.
  pub clean_fit : (M m : ℕ) → m < M → fit M (clean M m) ≡ true
  pub clean_there : (M m : ℕ) → m < M → worth M (clean M m) m ≡ 0
  pub clean_else : (M m k : ℕ) → m < M → k < M → (k ≢ m) → 1 ≤ worth M (clean M m) k
  pub clean_words : (M m : ℕ) → M < 256 → m < M → Words (clean M m)
