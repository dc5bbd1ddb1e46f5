-- What the step means: the turnings of the carrier that a code cannot tell apart.
use Rattle.std.specs.Prelude.{◌≡◌, ℕ, ◌+◌, ◌%◌, ◌^◌, ◌<◌, List, [], ◌∷◌, length, ◌≢◌}
use Rattle.trellis.specs.declared.Numbers.{Numbers}
use Rattle.trellis.specs.Mapper.{phase_at}
use Rattle.trellis.specs.Numbers.{label_bits, polynomials}
use Rattle.trellis.specs.Path.{Leads}
use Rattle.trellis.specs.Step.{step}
use Rattle.trellis.specs.Words.{words_of}

-- Each number is a label of the code.
abbrev pub Labels : Numbers → List ℕ → Type 0
Labels n [] = Unit {0}
Labels n (z ∷ zs) = (z < 2 ^ label_bits n) × Labels n zs

-- The labels zs are a path of so many symbols from state S, which is any of the code's.
pub record IsPath (n : Numbers) (symbols S : ℕ) (zs : List ℕ) : Type 0 where
  pub state : S < 2 ^ n.memory
  pub labels : Labels n zs
  pub long : length zs ≡ symbols
  pub leads : (E : ℕ) × Leads (polynomials n) S zs E

-- The phases of the labels ys are those of the labels zs turned by r: r is added modulo the number of phases at every used
-- place.
abbrev pub Turned : Numbers → ℕ → List ℕ → List ℕ → Type 0
Turned n r [] [] = Unit {0}
Turned n r [] (y ∷ ys) = ⊥
Turned n r (z ∷ zs) [] = ⊥
Turned n r (z ∷ zs) (y ∷ ys) = ((a : ℕ) → a < n.places → phase_at n y a ≡ (phase_at n z a + r) % n.phases) × Turned n r zs ys

-- A one-to-one correspondence between all paths of so many symbols, that takes each to one whose phases are its own turned
-- by r and that carries the same data words from the second symbol on.
pub record Correspondence (n : Numbers) (r symbols : ℕ) : Type 0 where
  pub forth : ℕ → List ℕ → ℕ × List ℕ
  pub back : ℕ → List ℕ → ℕ × List ℕ
  pub forth_path : (S : ℕ) (zs : List ℕ) → IsPath n symbols S zs → IsPath n symbols (forth S zs).0 (forth S zs).1
  pub back_path : (S : ℕ) (zs : List ℕ) → IsPath n symbols S zs → IsPath n symbols (back S zs).0 (back S zs).1
  pub back_forth : (S : ℕ) (zs : List ℕ) → IsPath n symbols S zs → back (forth S zs).0 (forth S zs).1 ≡ (S, zs)
  pub forth_back : (S : ℕ) (zs : List ℕ) → IsPath n symbols S zs → forth (back S zs).0 (back S zs).1 ≡ (S, zs)
  pub turned : (S : ℕ) (zs : List ℕ) → IsPath n symbols S zs → Turned n r zs (forth S zs).1
  pub words : (S : ℕ) (zs : List ℕ) → IsPath n symbols S zs → words_of n (forth S zs).1 ≡ words_of n zs

-- A path of v + 1 labels whose phases, turned by r, are the phases of no path at all, from whatever start state.
pub record Betrayed (n : Numbers) (r : ℕ) : Type 0 where
  pub start : ℕ
  pub labels : List ℕ
  pub path : IsPath n (n.memory + 1) start labels
  pub none : (S : ℕ) (ys : List ℕ) → IsPath n (n.memory + 1) S ys → Turned n r labels ys → ⊥

-- s is a unit of the turnings that the code cannot tell apart: it cannot tell a turning by a multiple of s, whatever the
-- length, and can tell any other.
pub record Unit-of (n : Numbers) (s : ℕ) : Type 0 where
  pub alike : (r symbols : ℕ) → r % s ≡ 0 → Correspondence n r symbols
  pub apart : (r : ℕ) → (r % s ≢ 0) → Betrayed n r

-- The step is such a unit, and no other power of two is.
pub record Transparency (n : Numbers) : Type 0 where
  pub unit : Unit-of n (step n)
  pub only : (e : ℕ) → Unit-of n (2 ^ e) → 2 ^ e ≡ step n
