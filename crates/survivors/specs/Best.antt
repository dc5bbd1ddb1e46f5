-- The best of some labels by their worth.
use Rattle.std.specs.Prelude.{◌≡◌, ℕ, ◌≤◌, Bool, true}

-- What a cell of the receiver says: a worth, a label of that worth, and whether nothing else has it.
pub record Survivor : Type 0 where
  pub worth : ℕ
  pub label : ℕ
  pub sole : Bool

-- c has the least worth of the labels in P, the lowest of those labels that have it, and the sole mark exactly where U holds
-- of that label and no other label in P has its worth.
pub record Best (P : ℕ → Type 0) (worth : ℕ → ℕ) (U : ℕ → Type 0) (c : Survivor) : Type 0 where
  pub inside : P c.label
  pub has : worth c.label ≡ c.worth
  pub least : (z : ℕ) → P z → c.worth ≤ worth z
  pub lowest : (z : ℕ) → P z → worth z ≡ c.worth → c.label ≤ z
  pub set_sole : c.sole ≡ true → U c.label × ((z : ℕ) → P z → worth z ≡ c.worth → z ≡ c.label)
  pub sole_set : U c.label → ((z : ℕ) → P z → worth z ≡ c.worth → z ≡ c.label) → c.sole ≡ true
