-- What a sender answers, and where it stands after.
use Rattle.std.specs.Prelude.{ℕ, ◌+◌, ◌^◌, cond, List, Some, None, Ok, Err, Option, Result, nat_le}
use Rattle.sender.specs.declared.refusal.SendRefusal.{SendRefusal}
use Rattle.sender.specs.declared.refusal.SendRefusal.TheVariants.{Full, TooWide}
use Rattle.sender.specs.declared.states.Sending.{Sending}
use Rattle.sender.specs.declared.states.Snapshot.{Snapshot}
use Rattle.trellis.specs.declared.Numbers.{Numbers}
use Rattle.trellis.specs.Mapper.{symbol_of}
use Rattle.trellis.specs.Numbers.{word_bits, polynomials}
use Rattle.trellis.specs.Parity.{next_state}
use Rattle.trellis.specs.Precoder.{label_of, risen}

-- Where a burst stands: its code, the trellis state S, the differential number V, and how many words are sent.
pub record Standing : Type 0 where
  pub numbers : Numbers
  pub S : ℕ
  pub V : ℕ
  pub sent : ℕ

-- Where a burst stood that was set down.
abbrev pub set_down : Snapshot → Standing
set_down b = record { numbers = b.code.numbers; S = b.state.0; V = b.differential; sent = b.sent }

abbrev pub standing : Sending → Standing
standing b = set_down b.snapshot

-- A burst begins in state 0 with differential number 0.
abbrev pub begun : Numbers → Standing
begun n = record { numbers = n; S = 0; V = 0; sent = 0 }

-- A full burst is judged before a word that is too wide.
abbrev pub refusal_of : Standing → ℕ → Option SendRefusal
refusal_of b w = cond (nat_le 255 b.sent) (Some Full) (cond (nat_le (2 ^ word_bits b.numbers) w) (Some TooWide) None)

-- The label of the next word.
abbrev pub next_label : Standing → ℕ → ℕ
next_label b w = label_of b.numbers b.S b.V w

-- What `send` answers: the symbol of that label, or the refusal.
abbrev pub answer_by : Option SendRefusal → Standing → ℕ → Result (List ℕ) SendRefusal
answer_by None b w = Ok (symbol_of b.numbers (next_label b w))
answer_by (Some r) b w = Err r

abbrev pub answer : Standing → ℕ → Result (List ℕ) SendRefusal
answer b w = answer_by (refusal_of b w) b w

-- Where the burst stands after it: one word on, or as before.
abbrev pub after_by : Option SendRefusal → Standing → ℕ → Standing
after_by None b w =
    record { numbers = b.numbers; S = next_state (polynomials b.numbers) b.S (next_label b w); V = risen b.numbers b.V w; sent = b.sent + 1 }
after_by (Some r) b w = b

abbrev pub after : Standing → ℕ → Standing
after b w = after_by (refusal_of b w) b w
