-- What the calls of a script answer, and the sender's state after each.
use Rattle.std.specs.Prelude.{ℕ, List, Some, None, Ok, Err, Option, Result}
use Rattle.book.specs.Book.{entry_of}
use Rattle.sender.specs.declared.refusal.SendRefusal.{SendRefusal}
use Rattle.sender.specs.Sender.{Standing, standing, begun, answer, after}
use Rattle.trellis.specs.declared.Numbers.{Numbers}
use Rattle.trellis.specs.Mapper.{symbol_of}
use Rattle.script.specs.declared.call.Call.{Call}
use Rattle.script.specs.declared.call.Call.TheVariants.{Begin, Send, End}
use Rattle.script.specs.declared.answer.Answer.{Answer}
use Rattle.script.specs.declared.answer.Answer.TheVariants.{Phases, Busy, Nothing, Refused, Quiet, Sent, Unread}
use Rattle.script.specs.declared.player.Sender.{Sender}
use Rattle.script.specs.declared.player.Sender.TheVariants as sender

-- Where the burst stands, if one is open.
abbrev pub state_of : Sender → Option Standing
state_of (sender.Quiet q) = None
state_of (sender.Sending s) = Some (standing s)

-- begin: the reference symbol of the code, where there is one and no burst is open.
abbrev pub begin_answer : Option Numbers → Option Standing → Answer
begin_answer code (Some b) = Busy
begin_answer None None = Nothing
begin_answer (Some n) None = Phases (record { phases = symbol_of n 0; places = n.places })

abbrev pub begin_after : Option Numbers → Option Standing → Option Standing
begin_after code (Some b) = Some b
begin_after None None = None
begin_after (Some n) None = Some (begun n)

-- send: the symbol of the word, or its refusal.
abbrev pub told : Standing → Result (List ℕ) SendRefusal → Answer
told b (Ok phases) = Phases (record { phases = phases; places = b.numbers.places })
told b (Err r) = Refused r

abbrev pub send_answer : Option Standing → ℕ → Answer
send_answer None w = Quiet
send_answer (Some b) w = told b (answer b w)

abbrev pub send_after : Option Standing → ℕ → Option Standing
send_after None w = None
send_after (Some b) w = Some (after b w)

-- end: how many words were sent.
abbrev pub end_answer : Option Standing → Answer
end_answer None = Quiet
end_answer (Some b) = Sent b.sent

-- What a call answers; none stands for a line that is no call.
abbrev pub answer_of : List Numbers → Option Standing → Option Call → Answer
answer_of codes s (Some (Begin entry)) = begin_answer (entry_of codes entry) s
answer_of codes s (Some (Send w)) = send_answer s w
answer_of codes s (Some End) = end_answer s
answer_of codes s None = Unread

-- The state after it.
abbrev pub state_after : List Numbers → Option Standing → Option Call → Option Standing
state_after codes s (Some (Begin entry)) = begin_after (entry_of codes entry) s
state_after codes s (Some (Send w)) = send_after s w
state_after codes s (Some End) = None
state_after codes s None = s
