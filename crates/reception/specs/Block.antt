-- A receiver by what it was told: the number of its cells, and its block. What each call refuses, and the block after it.
use Rattle.std.specs.Prelude.{ℕ, ◌+◌, ◌-◌, ◌*◌, ◌/◌, ◌^◌, min, cond, List, [], ◌∷◌, ◌++◌, length, ◌==◌, nat_le, nat_lt}
use Rattle.reception.specs.Front.{FrontMeaning}
use Rattle.reception.specs.Reading.{all_fit}
use Rattle.reception.specs.Worth.{Scores, scores_of}
use Rattle.trellis.specs.declared.Numbers.{Numbers}

-- No block, or the block of a code with the scores of the symbols taken, oldest first.
pub data Block : Type 0 where
  no_block : Block
  block : Numbers → List Scores → Block

-- What a receiver is called with: a code to open, a front and a reading, or a buffer of so many words.
pub data Call : Type 0 where
  opens : Numbers → Call
  takes : FrontMeaning → List ℕ → Call
  tells : Call
  delivers : ℕ → Call

-- How many symbols a block holds.
abbrev pub capacity : ℕ → Numbers → ℕ
capacity cells n = min 256 (cells / 2 ^ n.memory - 1)

-- Why a call is refused, by its number; 0 where it is not. Too few cells:
abbrev pub open_refusal : ℕ → Numbers → ℕ
open_refusal cells n = cond (nat_lt cells (2 ^ n.memory * (n.memory + 2))) 20 0

-- No block; a full block; a reading of another length; an unfit reading:
abbrev pub take_refusal : ℕ → Block → FrontMeaning → List ℕ → ℕ
take_refusal cells no_block f ws = 21
take_refusal cells (block n ss) f ws =
    cond (nat_le (capacity cells n) (length ss)) 22
    (cond (length ws == n.places * f.width n.phases) (cond (all_fit f n.phases n.places ws) 0 9) 8)

-- No block; fewer than two symbols; a buffer too short:
abbrev pub deliver_refusal : Block → ℕ → ℕ
deliver_refusal no_block len = 21
deliver_refusal (block n ss) len = cond (nat_lt (length ss) 2) 23 (cond (nat_lt len (length ss - 1)) 10 0)

-- The block with one symbol more.
abbrev pub extended : Block → FrontMeaning → List ℕ → Block
extended no_block f ws = no_block
extended (block n ss) f ws = block n (ss ++ (scores_of f n.phases ws ∷ []))

-- The block after a call; a refused call leaves it, and so do tell and deliver.
abbrev pub after : ℕ → Block → Call → Block
after cells b (opens n) = cond (open_refusal cells n == 0) (block n []) b
after cells b (takes f ws) = cond (take_refusal cells b f ws == 0) (extended b f ws) b
after cells b tells = b
after cells b (delivers len) = b
