-- The receivers of C: what a struct stands for with its cells, and what the calls answer and write. A receiver with other
-- bytes in its struct or cells stands for no block; then only what is said without a block is promised.
use Rattle.std.specs.Prelude.{◌≡◌, ℕ, ◌+◌, ◌-◌, ◌^◌, min, false, cond, List, [], ◌++◌, length, drop, Some, None, Ok, Err, Option, Result, ◌==◌, nat_eq}
use Rattle.std.specs.Int.{from_bool}
use Rattle.code.specs.declared.flaw.Flaw.{Flaw}
use Rattle.code.specs.declared.record.Code.{Code}
use Rattle.code.specs.Flaw.{flaw_number}
use Rattle.kamzhules.specs.Answers.{number_of}
use Rattle.kamzhules.specs.declared.codes.CCode.{CCode}
use Rattle.kamzhules.specs.declared.receivers.CDelivered.{CDelivered}
use Rattle.kamzhules.specs.declared.receivers.CReceiver.{CReceiver}
use Rattle.kamzhules.specs.declared.receivers.CTold.{CTold}
use Rattle.kamzhules.specs.declared.refused.Refused.{Refused}
use Rattle.kamzhules.specs.Refused.{refused_number}
use Rattle.kamzhules.specs.Structs.{code_in}
use Rattle.receiver.specs.declared.record.Progress.{Progress}
use Rattle.receiver.specs.Stands.{Holds}
use Rattle.reception.specs.Answer.{Answer, Answers, refused, opened, taken, told, delivered}
use Rattle.reception.specs.Block.{Block, no_block, block, takes, tells, delivers, capacity, open_refusal, take_refusal, after}
use Rattle.reception.specs.Front.{FrontMeaning}
use Rattle.survivors.specs.Best.{Survivor}
use Rattle.trellis.specs.declared.Numbers.{Numbers}

-- The struct and the cells stand for the block.
abbrev pub StandsIn : {K : Type 0} → (K → Survivor) → List K → CReceiver → Block → Type 0
StandsIn says cs r no_block = (r.«open» == 1) ≡ false
StandsIn says cs r (block n ss) =
    (r.«open» ≡ 1) × (code_in r.code ≡ Ok n) × (r.count ≡ length ss) × Holds says cs n ss

-- Why the struct itself is refused: no block is open, or its code is none; 0 where neither is so.
abbrev pub struct_number : CReceiver → ℕ
struct_number r = cond (r.«open» == 1) (number_of (code_in r.code)) 21

-- A number that is answered for sure, unless it is 0.
abbrev pub Sure : ℕ → ℕ → Type 0
Sure due number = (due == 0) ≡ false → number ≡ due

-- open: the code is judged first, then the cells.
abbrev pub open_number : Result Numbers Flaw → ℕ → ℕ
open_number (Ok n) cells = open_refusal cells n
open_number (Err f) cells = flaw_number f

abbrev pub open_symbols : Result Numbers Flaw → ℕ → ℕ → ℕ
open_symbols (Ok n) cells old = cond (open_refusal cells n == 0) (capacity cells n) old
open_symbols (Err f) cells old = old

abbrev pub open_receiver : Result Numbers Flaw → ℕ → CCode → CReceiver → CReceiver
open_receiver (Ok n) cells code old = cond (open_refusal cells n == 0) (record { code = code; count = 0; «open» = 1 }) old
open_receiver (Err f) cells code old = old

-- An empty block of the code, whatever was there before; where the open is refused, the cells as they were.
abbrev pub OpenCells : {K : Type 0} → (K → Survivor) → Result Numbers Flaw → List K → List K → CReceiver → Type 0
OpenCells says (Ok n) cs cs' r' = cond (open_refusal (length cs) n == 0) (StandsIn says cs' r' (block n [])) (cs' ≡ cs)
OpenCells says (Err f) cs cs' r' = cs' ≡ cs

-- The struct after a take: one symbol more, unless it was refused.
abbrev pub counted : ℕ → CReceiver → CReceiver
counted number r = cond (number == 0) (record { code = r.code; count = min (r.count + 1) (2 ^ 16 - 1); «open» = r.«open» }) r

-- take through a front, from the cells cs and the struct r to cs' and r'.
pub record Takes {K : Type 0} (says : K → Survivor) (f : FrontMeaning) (ws : List ℕ) (cs cs' : List K) (r r' : CReceiver) (number : ℕ) : Type 0 where
  -- A struct with no block or no code is refused, and the cells stay.
  pub sure : Sure (struct_number r) number
  pub kept : nat_eq (struct_number r) 0 ≡ false → cs' ≡ cs
  -- A struct that stands for a block is refused as the receiver's take is, and stands for the block after the call.
  pub answer : (b : Block) → StandsIn says cs r b → number ≡ take_refusal (length cs) b f ws
  pub stands : (b : Block) → StandsIn says cs r b → StandsIn says cs' r' (after (length cs) b (takes f ws))
  pub struct : r' ≡ counted number r

-- take through the front of a number, if there is one.
abbrev pub TakesBy : {K : Type 0} → (K → Survivor) → Option FrontMeaning → List ℕ → List K → List K → CReceiver → CReceiver → ℕ → Type 0
TakesBy says None ws cs cs' r r' number = (number ≡ 253) × (cs' ≡ cs) × (r' ≡ r)
TakesBy says (Some f) ws cs cs' r r' number = Takes says f ws cs cs' r r' number

-- The number and the struct that an answer to tell gives.
abbrev pub ToldAs : Answer → CTold → ℕ → CTold → Type 0
ToldAs (refused k) old number t = (number ≡ k) × (t ≡ old)
ToldAs (told count worth sole) old number t = (number ≡ 0) × (t ≡ record { worth = worth; count = count; sole = from_bool sole })
ToldAs (opened symbols) old number t = ⊥
ToldAs taken old number t = ⊥
ToldAs (delivered count sole words) old number t = ⊥

pub record Tells {K : Type 0} (says : K → Survivor) (cs : List K) (r : CReceiver) (old : CTold) (number : ℕ) (t : CTold) : Type 0 where
  pub sure : Sure (struct_number r) number
  -- A refusal writes nothing.
  pub kept : nat_eq number 0 ≡ false → t ≡ old
  -- A struct that stands for a block is answered as the receiver's tell answers.
  pub answer : (b : Block) → StandsIn says cs r b → (a : Answer) × Answers (length cs) b tells a × ToldAs a old number t

-- The number, the struct and the buffer that an answer to deliver gives: the words, and the buffer beyond as it was.
abbrev pub DeliveredAs : Answer → CDelivered → List ℕ → ℕ → CDelivered → List ℕ → Type 0
DeliveredAs (refused k) old buffer number d buffer' = (number ≡ k) × (d ≡ old) × (buffer' ≡ buffer)
DeliveredAs (delivered count sole words) old buffer number d buffer' =
    (number ≡ 0) × (d ≡ record { count = count; sole = from_bool sole }) × (buffer' ≡ words ++ drop count buffer)
DeliveredAs (opened symbols) old buffer number d buffer' = ⊥
DeliveredAs taken old buffer number d buffer' = ⊥
DeliveredAs (told count worth sole) old buffer number d buffer' = ⊥

pub record Delivers {K : Type 0} (says : K → Survivor) (cs : List K) (r : CReceiver) (old : CDelivered) (buffer : List ℕ) (number : ℕ) (d : CDelivered) (buffer' : List ℕ) : Type 0 where
  pub sure : Sure (struct_number r) number
  -- A refusal writes nothing.
  pub kept : nat_eq number 0 ≡ false → (d ≡ old) × (buffer' ≡ buffer)
  -- A struct that stands for a block is answered as the receiver's deliver answers.
  pub answer : (b : Block) → StandsIn says cs r b → (a : Answer) × Answers (length cs) b (delivers (length buffer)) a × DeliveredAs a old buffer number d buffer'

-- How far the receiver has come in its open block, or why the struct is refused.
abbrev pub ProgressIn : CReceiver → Result Progress Refused → Type 0
ProgressIn r (Ok p) = (k : Code) × (r.«open» ≡ 1) × (code_in r.code ≡ Ok k.numbers) × (p ≡ record { code = Some k; count = r.count })
ProgressIn r (Err e) = (refused_number e ≡ struct_number r) × ((refused_number e == 0) ≡ false)
