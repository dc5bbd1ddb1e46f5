-- Worked examples, as one statement on the definitions that the contracts cite.
use Rattle.std.specs.Prelude.{◌≡◌, ℕ, ◌≤◌, true, List, [], ◌∷◌, map, take, Some, None, Ok, Err}
use Rattle.code.specs.declared.flaw.Flaw.TheVariants.{Parity}
use Rattle.code.specs.Flaw.{judged, flaw_number}
use Rattle.fronts.specs.StrikeLaws.{strike_meaning}
use Rattle.fronts.specs.TableLaws.{table_meaning}
use Rattle.reception.specs.Answer.{opened, told, delivered, Answers}
use Rattle.reception.specs.Block.{Block, no_block, block, Call, opens, tells, delivers, open_refusal}
use Rattle.reception.specs.Least.{LeastWorth}
use Rattle.reception.specs.Reading.{clean_reading}
use Rattle.reception.specs.Turnings.{Run, takes_of, takens, block_after}
use Rattle.reception.specs.Worth.{Scores, scores_of}
use Rattle.sender.specs.declared.refusal.SendRefusal.TheVariants.{TooWide}
use Rattle.sender.specs.Refusal.{refusal_number}
use Rattle.sender.specs.Sender.{begun, refusal_of}
use Rattle.trellis.specs.declared.Numbers.{Numbers}
use Rattle.trellis.specs.Burst.{labels_from}
use Rattle.trellis.specs.Mapper.{symbol_of}
use Rattle.trellis.specs.Step.{step}

-- A code with one checked bit, two, and three; polynomials are written in octal.
abbrev pub one : ℕ → ℕ → ℕ → ℕ → ℕ → ℕ → Numbers
one l m q v h0 h1 = record { places = l; phases = m; offset = q; checked = 1; memory = v; h0 = h0; h1 = h1; h2 = None; h3 = None }

abbrev pub two : ℕ → ℕ → ℕ → ℕ → ℕ → ℕ → ℕ → Numbers
two l m q v h0 h1 h2 = record { places = l; phases = m; offset = q; checked = 2; memory = v; h0 = h0; h1 = h1; h2 = Some h2; h3 = None }

abbrev pub three : ℕ → ℕ → ℕ → ℕ → ℕ → ℕ → ℕ → ℕ → Numbers
three l m q v h0 h1 h2 h3 = record { places = l; phases = m; offset = q; checked = 3; memory = v; h0 = h0; h1 = h1; h2 = Some h2; h3 = Some h3 }

-- The code of one place and 8 phases, and the code of four places and 4 phases, of which bursts are shown below.
abbrev pub one_place_code : Numbers
one_place_code = one 1 8 0 2 0o5 0o2

abbrev pub four_place_code : Numbers
four_place_code = three 4 4 3 3 0o11 0o3 0o4 0o2

-- The code is accepted and has this step.
pub record HasStep (n : Numbers) (s : ℕ) : Type 0 where
  pub accepted : judged n ≡ Ok n
  pub is : step n ≡ s

-- The phases of a burst, symbol by symbol, from the reference symbol on.
abbrev pub phases_sent : Numbers → List ℕ → List (List ℕ)
phases_sent n ws = map (λ z. take n.places (symbol_of n z)) (0 ∷ labels_from n 0 0 ws)

-- The clean readings of phases, one for each symbol of one place, by the table front; the calls that open a block and take
-- them; and the block that then stands in 20 cells.
abbrev pub readings : Numbers → List ℕ → List (List ℕ)
readings n ms = map (λ m. clean_reading table_meaning n.phases (m ∷ [])) ms

abbrev pub reception : Numbers → List ℕ → List Call
reception n ms = opens n ∷ takes_of table_meaning (readings n ms)

abbrev pub received : Numbers → List ℕ → Block
received n ms = block_after 20 0 no_block (reception n ms)

-- The scores of those readings.
abbrev pub scores : Numbers → List ℕ → List Scores
scores n ms = map (scores_of table_meaning n.phases) (readings n ms)

pub record Examples : Type 0 where
  -- steps
  pub one_place : HasStep one_place_code 4
  pub odd_top : HasStep (two 1 8 0 3 0o11 0o2 0o4) 8
  pub even_top : HasStep (two 1 8 0 4 0o23 0o6 0o14) 4
  pub four_places : HasStep four_place_code 1
  pub two_places : HasStep (one 2 8 0 2 0o5 0o2) 2
  -- a parity bit that would be differential
  pub parity : judged (one 2 4 1 2 0o5 0o2) ≡ Err Parity
  pub parity_number : flaw_number Parity ≡ 5
  -- bursts
  pub one_place_burst : phases_sent one_place_code (3 ∷ 1 ∷ 2 ∷ []) ≡ (0 ∷ []) ∷ (6 ∷ []) ∷ (7 ∷ []) ∷ (1 ∷ []) ∷ []
  pub four_place_burst : phases_sent four_place_code (9 ∷ 6 ∷ []) ≡ (0 ∷ 0 ∷ 0 ∷ 0 ∷ []) ∷ (3 ∷ 3 ∷ 3 ∷ 1 ∷ []) ∷ (3 ∷ 1 ∷ 1 ∷ 3 ∷ []) ∷ []
  -- the widest word, and the least that is too wide
  pub goes : refusal_of (begun one_place_code) 3 ≡ None
  pub too_wide : refusal_of (begun one_place_code) 4 ≡ Some TooWide
  pub too_wide_number : refusal_number TooWide ≡ 7
  -- the burst turned by the step: each reading is taken, the path of worth 0 is sole, and its words come back
  pub takes_turned : Run 20 0 no_block (reception one_place_code (4 ∷ 2 ∷ 3 ∷ 5 ∷ [])) (opened 4 ∷ takens (readings one_place_code (4 ∷ 2 ∷ 3 ∷ 5 ∷ [])))
  pub holds_turned : received one_place_code (4 ∷ 2 ∷ 3 ∷ 5 ∷ []) ≡ block one_place_code (scores one_place_code (4 ∷ 2 ∷ 3 ∷ 5 ∷ []))
  pub tells_turned : Answers 20 (received one_place_code (4 ∷ 2 ∷ 3 ∷ 5 ∷ [])) tells (told 4 0 true)
  pub delivers_turned : Answers 20 (received one_place_code (4 ∷ 2 ∷ 3 ∷ 5 ∷ [])) (delivers 3) (delivered 3 true (3 ∷ 1 ∷ 2 ∷ []))
  -- turned by half the step: the readings are taken, and no path has worth 0
  pub takes_betrayed : Run 20 0 no_block (reception one_place_code (2 ∷ 0 ∷ 1 ∷ 3 ∷ [])) (opened 4 ∷ takens (readings one_place_code (2 ∷ 0 ∷ 1 ∷ 3 ∷ [])))
  pub holds_betrayed : received one_place_code (2 ∷ 0 ∷ 1 ∷ 3 ∷ []) ≡ block one_place_code (scores one_place_code (2 ∷ 0 ∷ 1 ∷ 3 ∷ []))
  pub least_betrayed : (x : ℕ) → LeastWorth one_place_code (scores one_place_code (2 ∷ 0 ∷ 1 ∷ 3 ∷ [])) x → 1 ≤ x
  -- the strike front at 8 phases, word 7: no strike at phase 0, one at phase 1
  pub no_strike : strike_meaning.worth 8 (7 ∷ []) 0 ≡ 1
  pub one_strike : strike_meaning.worth 8 (7 ∷ []) 1 ≡ 65538
  -- the least cells that open the code
  pub enough_cells : open_refusal 16 one_place_code ≡ 0
  pub too_few_cells : open_refusal 15 one_place_code ≡ 20
