-- What a turning of the carrier does to a receiver's answers. Two receivers with equally many cells are given the same
-- calls since they were made; only the readings differ, those of each being turned by one number of phases throughout.
use Rattle.std.specs.Prelude.{◌≡◌, ℕ, ◌*◌, ◌%◌, Bool, true, cond, List, [], ◌∷◌, length, ◌==◌, ◌≢◌}
use Rattle.reception.specs.Accepted.{IsCode}
use Rattle.reception.specs.Answer.{Answer, refused, opened, taken, told, delivered, Answers}
use Rattle.reception.specs.Block.{Block, no_block, block, Call, opens, takes, tells, delivers, open_refusal, after}
use Rattle.reception.specs.Front.{FrontMeaning}
use Rattle.reception.specs.Reading.{places_turned, clean_reading, Phases}
use Rattle.trellis.specs.declared.Numbers.{Numbers}
use Rattle.trellis.specs.Step.{step}

-- A reading turned by t phases, place by place; one of another length, or with no block open, stays as it is.
abbrev pub turned_reading : ℕ → Block → FrontMeaning → List ℕ → List ℕ
turned_reading t no_block f ws = ws
turned_reading t (block n ss) f ws =
    cond (length ws == n.places * f.width n.phases) (places_turned f n.phases t n.places ws) ws

-- The call as it comes with its reading turned.
abbrev pub turned_call : ℕ → Block → Call → Call
turned_call t b (opens n) = opens n
turned_call t b (takes f ws) = takes f (turned_reading t b f ws)
turned_call t b tells = tells
turned_call t b (delivers len) = delivers len

-- The block after a list of calls whose readings are turned by t.
abbrev pub block_after : ℕ → ℕ → Block → List Call → Block
block_after cells t b [] = b
block_after cells t b (c ∷ cs) = block_after cells t (after cells b (turned_call t b c)) cs

-- The answers to a list of calls whose readings are turned by t.
abbrev pub Run : ℕ → ℕ → Block → List Call → List Answer → Type 0
Run cells t b [] [] = Unit {0}
Run cells t b [] (a ∷ as') = ⊥
Run cells t b (c ∷ cs) [] = ⊥
Run cells t b (c ∷ cs) (a ∷ as') =
    Answers cells b (turned_call t b c) a × Run cells t (after cells b (turned_call t b c)) cs as'

-- Each code that is to be opened is one.
abbrev pub Codes : List Call → Type 0
Codes [] = Unit {0}
Codes (opens n ∷ cs) = IsCode n × Codes cs
Codes (takes f ws ∷ cs) = Codes cs
Codes (tells ∷ cs) = Codes cs
Codes (delivers len ∷ cs) = Codes cs

-- The turnings t and u are equal for every code that is opened: its step divides their difference.
abbrev pub EqualTurnings : ℕ → ℕ → ℕ → List Call → Type 0
EqualTurnings cells t u [] = Unit {0}
EqualTurnings cells t u (opens n ∷ cs) = (open_refusal cells n ≡ 0 → t % step n ≡ u % step n) × EqualTurnings cells t u cs
EqualTurnings cells t u (takes f ws ∷ cs) = EqualTurnings cells t u cs
EqualTurnings cells t u (tells ∷ cs) = EqualTurnings cells t u cs
EqualTurnings cells t u (delivers len ∷ cs) = EqualTurnings cells t u cs

-- Two answers agree: refusals, counts, least worths and sole marks are the same, and the words where the path is sole.
abbrev pub Agree : Answer → Answer → Type 0
Agree (delivered k sole ws) b = (ws' : List ℕ) × (b ≡ delivered k sole ws') × (sole ≡ true → ws ≡ ws')
Agree (refused r) b = b ≡ refused r
Agree (opened k) b = b ≡ opened k
Agree taken b = b ≡ taken
Agree (told k x sole) b = b ≡ told k x sole

abbrev pub AllAgree : List Answer → List Answer → Type 0
AllAgree [] [] = Unit {0}
AllAgree [] (b ∷ bs) = ⊥
AllAgree (a ∷ as') [] = ⊥
AllAgree (a ∷ as') (b ∷ bs) = Agree a b × AllAgree as' bs

-- The readings are clean ones of the front, one phase for each place of the code.
pub record IsClean (f : FrontMeaning) (n : Numbers) (ws : List ℕ) : Type 0 where
  pub phases : List ℕ
  pub long : length phases ≡ n.places
  pub below : Phases n.phases phases
  pub reads : ws ≡ clean_reading f n.phases phases

abbrev pub AllClean : FrontMeaning → Numbers → List (List ℕ) → Type 0
AllClean f n [] = Unit {0}
AllClean f n (ws ∷ wss) = IsClean f n ws × AllClean f n wss

-- The calls that take the readings, and their answers where none is refused.
abbrev pub takes_of : FrontMeaning → List (List ℕ) → List Call
takes_of f [] = []
takes_of f (ws ∷ wss) = takes f ws ∷ takes_of f wss

abbrev pub takens : List (List ℕ) → List Answer
takens [] = []
takens (ws ∷ wss) = taken ∷ takens wss

-- Some clean readings of the front, each accepted, leave the two receivers with different least worths.
pub record ToldApart (cells t u : ℕ) (b c : Block) (n : Numbers) (f : FrontMeaning) : Type 0 where
  pub readings : List (List ℕ)
  pub clean : AllClean f n readings
  pub first : Run cells t b (takes_of f readings) (takens readings)
  pub second : Run cells u c (takes_of f readings) (takens readings)
  pub differ : (j k x y : ℕ) (p q : Bool) → Answers cells (block_after cells t b (takes_of f readings)) tells (told j x p) → Answers cells (block_after cells u c (takes_of f readings)) tells (told k y q) → x ≢ y

-- Turnings are equal for a code exactly where the step divides their difference.
pub record Turnings : Type 0 where
  -- Where they are equal for every code that is opened, all answers agree, whatever the calls.
  pub alike : (cells t u : ℕ) (cs : List Call) (as' bs : List Answer) → Codes cs → EqualTurnings cells t u cs → Run cells t no_block cs as' → Run cells u no_block cs bs → AllAgree as' bs
  -- Where they are not equal for a code that is opened, after whatever calls, clean readings of any one front tell them apart.
  pub apart : (cells t u : ℕ) (cs : List Call) (n : Numbers) (f : FrontMeaning) → Codes cs → IsCode n → open_refusal cells n ≡ 0 → (t % step n ≢ u % step n) → ToldApart cells t u (after cells (block_after cells t no_block cs) (opens n)) (after cells (block_after cells u no_block cs) (opens n)) n f
