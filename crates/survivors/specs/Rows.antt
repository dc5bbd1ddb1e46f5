-- Rows of survivors: row t has, for each state, the best path of t symbols that ends there.
use Rattle.std.specs.Prelude.{◌≡◌, ℕ, suc, ◌+◌, ◌*◌, ◌^◌, ◌<◌, true, List, length, bit_xor, slice_index_or}
use Rattle.reception.specs.Worth.{Scores, label_worth}
use Rattle.survivors.specs.Best.{Survivor, Best}
use Rattle.trellis.specs.declared.Numbers.{Numbers}
use Rattle.trellis.specs.Numbers.{label_bits, polynomials}
use Rattle.trellis.specs.Parity.{syndrome}

-- The state from which label z leads to state E.
abbrev pub back : Numbers → ℕ → ℕ → ℕ
back n E z = bit_xor (2 * E) (syndrome (polynomials n) z)

-- The label z leads to state E from a state of the code.
abbrev pub Enters : Numbers → ℕ → ℕ → Type 0
Enters n E z = (z < 2 ^ label_bits n) × (back n E z < 2 ^ n.memory)

-- The worth of the best path to E whose last label is z, and whether the best path to the state before is alone.
abbrev pub through : Numbers → Scores → (ℕ → Survivor) → ℕ → ℕ → ℕ
through n s row E z = (row (back n E z)).worth + label_worth n s z

abbrev pub AloneBefore : Numbers → (ℕ → Survivor) → ℕ → ℕ → Type 0
AloneBefore n row E z = (row (back n E z)).sole ≡ true

-- The row after a symbol with scores s.
abbrev pub Follows : Numbers → Scores → (ℕ → Survivor) → (ℕ → Survivor) → Type 0
Follows n s row next =
    (E : ℕ) → E < 2 ^ n.memory → Best (Enters n E) (through n s row E) (AloneBefore n row E) (next E)

-- Before any symbol each state has the empty path, alone and worth 0.
abbrev pub Begins : Numbers → (ℕ → Survivor) → Type 0
Begins n row = (E : ℕ) → E < 2 ^ n.memory → ((row E).worth ≡ 0) × ((row E).sole ≡ true)

-- No scores, for places past the end of a list.
abbrev pub no_scores : Scores
no_scores a m = 0

-- The rows of the symbols with scores ss.
pub record Rows (n : Numbers) (ss : List Scores) (row : ℕ → ℕ → Survivor) : Type 0 where
  pub begins : Begins n (row 0)
  pub follows : (t : ℕ) → t < length ss → Follows n (slice_index_or ss t no_scores) (row t) (row (suc t))

-- The best end state of a row: its number stands in the place of the label.
abbrev pub BestEnd : Numbers → (ℕ → Survivor) → Survivor → Type 0
BestEnd n row c = Best (λ E. E < 2 ^ n.memory) (λ E. (row E).worth) (λ E. (row E).sole ≡ true) c
