-- The data words that a trace-back writes.
use Rattle.std.specs.Prelude.{◌≡◌, ℕ, ◌-◌, List, ◌++◌, map, length, drop}
use Rattle.code.specs.declared.units.Word.{Word}
use Rattle.reception.specs.Worth.{Scores}
use Rattle.survivors.specs.Best.{Survivor}
use Rattle.survivors.specs.Rows.{Rows}
use Rattle.survivors.specs.Trace.{trace}
use Rattle.trellis.specs.declared.Numbers.{Numbers}
use Rattle.trellis.specs.Words.{words_of}

-- Data words as numbers.
abbrev pub numbers_in : List Word → List ℕ
numbers_in ws = map (λ w. w.0) ws

-- From the words before to those after: if row has the survivors of so many symbols, the words of the best path to state E
-- stand first, and the others are as they were.
abbrev pub Writes : Numbers → (ℕ → ℕ → Survivor) → ℕ → ℕ → List Word → List Word → Type 0
Writes n row symbols E before after =
    (ss : List Scores) → length ss ≡ symbols → Rows n ss row → numbers_in after ≡ words_of n (trace n row symbols E) ++ drop (symbols - 1) (numbers_in before)
