-- The least path over a list of symbols' scores. A path is a start state, any of the code's, and one label a symbol that
-- the parity check allows one after another.
use Rattle.std.specs.Prelude.{◌≡◌, ℕ, ◌<◌, ◌≤◌, Bool, true, ◌⊎◌, List, [], ◌∷◌, reverse, length}
use Rattle.reception.specs.Worth.{Scores, path_worth}
use Rattle.trellis.specs.declared.Numbers.{Numbers}
use Rattle.trellis.specs.Numbers.{polynomials}
use Rattle.trellis.specs.Path.{Leads}
use Rattle.trellis.specs.Transparency.{IsPath}

-- A path with one label for each symbol.
abbrev pub PathOver : Numbers → List Scores → ℕ → List ℕ → Type 0
PathOver n ss S zs = IsPath n (length ss) S zs

-- A path that has no more worth than any other.
pub record LeastPath (n : Numbers) (ss : List Scores) (S : ℕ) (zs : List ℕ) : Type 0 where
  pub path : PathOver n ss S zs
  pub least : (S' : ℕ) (ys : List ℕ) → PathOver n ss S' ys → path_worth n ss zs ≤ path_worth n ss ys

-- x is the least worth.
pub record LeastWorth (n : Numbers) (ss : List Scores) (x : ℕ) : Type 0 where
  pub start : ℕ
  pub labels : List ℕ
  pub is_least : LeastPath n ss start labels
  pub has : path_worth n ss labels ≡ x

-- Any two paths of worth x are the same one: the least path is sole where no other has its worth.
abbrev pub Sole : Numbers → List Scores → ℕ → Type 0
Sole n ss x =
    (S T : ℕ) (zs ys : List ℕ) → PathOver n ss S zs → PathOver n ss T ys → path_worth n ss zs ≡ x → path_worth n ss ys ≡ x → (S ≡ T) × (zs ≡ ys)

-- The mark is set exactly where the least path is sole.
pub record Marks (n : Numbers) (ss : List Scores) (x : ℕ) (mark : Bool) : Type 0 where
  pub set_sole : mark ≡ true → Sole n ss x
  pub sole_set : Sole n ss x → mark ≡ true

-- Of two lists of equal length the first comes no later: the first number that differs is lower in it.
abbrev pub NoLater : List ℕ → List ℕ → Type 0
NoLater [] ys = Unit {0}
NoLater (x ∷ xs) [] = ⊥
NoLater (x ∷ xs) (y ∷ ys) = (x < y) ⊎ ((x ≡ y) × NoLater xs ys)

-- The path that is delivered: least, and among all least paths first by the lower end state E, then the lower last label,
-- then the one before, back to the first.
pub record Chosen (n : Numbers) (ss : List Scores) (S : ℕ) (zs : List ℕ) (E : ℕ) : Type 0 where
  pub is_least : LeastPath n ss S zs
  pub ends : Leads (polynomials n) S zs E
  pub first : (T : ℕ) (ys : List ℕ) (F : ℕ) → LeastPath n ss T ys → Leads (polynomials n) T ys F → NoLater (E ∷ reverse zs) (F ∷ reverse ys)
