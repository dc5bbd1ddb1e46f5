-- A burst that is read clean comes back as sent.
use Rattle.std.specs.Prelude.{◌≡◌, ℕ, ◌+◌, ◌^◌, ◌<◌, ◌≤◌, Bool, List, [], ◌∷◌, length, take}
use Rattle.reception.specs.Accepted.{IsCode}
use Rattle.reception.specs.Answer.{Answer, delivered, Answers}
use Rattle.reception.specs.Block.{block, delivers, capacity, open_refusal}
use Rattle.reception.specs.Front.{FrontMeaning}
use Rattle.reception.specs.Reading.{clean_reading}
use Rattle.reception.specs.Turnings.{Run, takes_of, takens, block_after}
use Rattle.trellis.specs.Burst.{labels_from}
use Rattle.trellis.specs.declared.Numbers.{Numbers}
use Rattle.trellis.specs.Mapper.{symbol_of}
use Rattle.trellis.specs.Numbers.{word_bits}

-- The clean readings of the symbols of a list of labels.
abbrev pub clean_readings : FrontMeaning → Numbers → List ℕ → List (List ℕ)
clean_readings f n [] = []
clean_readings f n (z ∷ zs) = clean_reading f n.phases (take n.places (symbol_of n z)) ∷ clean_readings f n zs

-- The clean readings of a burst: the reference symbol, that of label 0, and the symbols of the words.
abbrev pub burst_readings : FrontMeaning → Numbers → List ℕ → List (List ℕ)
burst_readings f n ws = clean_readings f n (0 ∷ labels_from n 0 0 ws)

-- Each is a data word of the code.
abbrev pub DataWords : Numbers → List ℕ → Type 0
DataWords n [] = Unit {0}
DataWords n (w ∷ ws) = (w < 2 ^ word_bits n) × DataWords n ws

-- A freshly opened block takes the clean readings, and then delivers the words.
pub record ComesBack (cells : ℕ) (n : Numbers) (f : FrontMeaning) (ws : List ℕ) : Type 0 where
  pub accepted : Run cells 0 (block n []) (takes_of f (burst_readings f n ws)) (takens (burst_readings f n ws))
  pub words : (len : ℕ) (a : Answer) → length ws ≤ len → Answers cells (block_after cells 0 (block n []) (takes_of f (burst_readings f n ws))) (delivers len) a → (sole : Bool) × (a ≡ delivered (length ws) sole ws)

-- Every burst of at least one word that fits the block, by every front.
abbrev pub CleanBursts : Type 0
CleanBursts =
    (cells : ℕ) (n : Numbers) (f : FrontMeaning) (ws : List ℕ) → IsCode n → open_refusal cells n ≡ 0 → DataWords n ws → 1 ≤ length ws → length ws + 1 ≤ capacity cells n → ComesBack cells n f ws
