-- The refusal numbers of a receiver.
use Rattle.std.specs.Prelude.{ℕ, ◌*◌, cond, List, length, Ok, Err, Result, ◌==◌, nat_le}
use Rattle.reception.specs.Block.{capacity}
use Rattle.reception.specs.Front.{FrontMeaning}
use Rattle.reception.specs.Reading.{all_fit}
use Rattle.trellis.specs.declared.Numbers.{Numbers}
use Rattle.receiver.specs.declared.refusal.Refusal.{Refusal}
use Rattle.receiver.specs.declared.refusal.Refusal.TheVariants.{Cells, Closed, Full, Length, Unfit, Few, Short, NoPath}

abbrev pub refusal_number : Refusal → ℕ
refusal_number Cells = 20
refusal_number Closed = 21
refusal_number Full = 22
refusal_number Length = 8
refusal_number Unfit = 9
refusal_number Few = 23
refusal_number Short = 10
refusal_number NoPath = 24

-- The number of a refusal, or 0 where there is none.
abbrev pub number_or : {T : Type 0} → Result T Refusal → ℕ
number_or (Ok _) = 0
number_or (Err e) = refusal_number e

-- Why a reading is not taken into an open block with so many symbols; 0 where it is.
abbrev pub take_refusal_at : ℕ → Numbers → ℕ → FrontMeaning → List ℕ → ℕ
take_refusal_at cells n count f ws =
    cond (nat_le (capacity cells n) count) 22
    (cond (length ws == n.places * f.width n.phases) (cond (all_fit f n.phases n.places ws) 0 9) 8)
