-- What the functions of C answer and write.
use Rattle.std.specs.Prelude.{ℕ, cond, List, ◌++◌, length, drop, Some, None, Ok, Err, Option, Result, ◌==◌, nat_le}
use Rattle.book.specs.declared.fault.Fault.{Fault}
use Rattle.book.specs.Book.{entry_of}
use Rattle.book.specs.Fault.{fault_number, fault_line, fault_column}
use Rattle.code.specs.declared.flaw.Flaw.{Flaw}
use Rattle.code.specs.Flaw.{flaw_number, flaw_column}
use Rattle.kamzhules.specs.declared.codes.CCode.{CCode}
use Rattle.kamzhules.specs.declared.refused.CFault.{CFault}
use Rattle.kamzhules.specs.declared.senders.CSender.{CSender}
use Rattle.kamzhules.specs.declared.codes.CSymbol.{CSymbol}
use Rattle.kamzhules.specs.Structs.{code_in, code_out, fault, standing_of, sender_at}
use Rattle.sender.specs.declared.refusal.SendRefusal.{SendRefusal}
use Rattle.sender.specs.Refusal.{refusal_number}
use Rattle.sender.specs.Sender.{answer, after}
use Rattle.trellis.specs.declared.Numbers.{Numbers}
use Rattle.trellis.specs.Mapper.{symbol_of}
use Rattle.trellis.specs.Step.{step}

-- kz_check: the flaw of the numbers.
abbrev pub check_of : Result Numbers Flaw → CFault
check_of (Ok n) = fault 0 0 0
check_of (Err f) = fault (flaw_number f) 0 (flaw_column f)

-- kz_step.
abbrev pub step_of : Result Numbers Flaw → ℕ
step_of (Ok n) = step n
step_of (Err f) = 0

-- The number of a flaw, 0 for none.
abbrev pub number_of : Result Numbers Flaw → ℕ
number_of (Ok n) = 0
number_of (Err f) = flaw_number f

-- A symbol that is written where the numbers are a code.
abbrev pub symbol_at : Result Numbers Flaw → ℕ → CSymbol → CSymbol
symbol_at (Ok n) label old = record { places = n.places; phases = symbol_of n label }
symbol_at (Err f) label old = old

-- kz_begin: a burst with no word sent.
abbrev pub begin_after : Result Numbers Flaw → CCode → CSender → CSender
begin_after (Ok n) code old = record { code = code; state = 0; differential = 0; sent = 0; sending = 1 }
begin_after (Err f) code old = old

-- kz_send, of a sender that is within a burst.
abbrev pub told : Result (List ℕ) SendRefusal → ℕ
told (Ok phases) = 0
told (Err r) = refusal_number r

abbrev pub send_number_by : Result Numbers Flaw → CSender → ℕ → ℕ
send_number_by (Ok n) s w = told (answer (standing_of s n) w)
send_number_by (Err f) s w = flaw_number f

abbrev pub send_after_by : Result Numbers Flaw → CSender → ℕ → CSender
send_after_by (Ok n) s w = sender_at s (after (standing_of s n) w)
send_after_by (Err f) s w = s

abbrev pub phases_at : Result (List ℕ) SendRefusal → ℕ → CSymbol → CSymbol
phases_at (Ok phases) places old = record { places = places; phases = phases }
phases_at (Err r) places old = old

abbrev pub send_symbol_by : Result Numbers Flaw → CSender → ℕ → CSymbol → CSymbol
send_symbol_by (Ok n) s w old = phases_at (answer (standing_of s n) w) n.places old
send_symbol_by (Err f) s w old = old

-- kz_send: a quiet sender is judged first.
abbrev pub send_number : CSender → ℕ → ℕ
send_number s w = cond (s.sending == 1) (send_number_by (code_in s.code) s w) 254

abbrev pub send_after : CSender → ℕ → CSender
send_after s w = cond (s.sending == 1) (send_after_by (code_in s.code) s w) s

abbrev pub send_symbol : CSender → ℕ → CSymbol → CSymbol
send_symbol s w old = cond (s.sending == 1) (send_symbol_by (code_in s.code) s w old) old

-- kz_end.
abbrev pub end_number : CSender → ℕ
end_number s = cond (s.sending == 1) 0 254

abbrev pub end_after : CSender → CSender
end_after s =
    cond (s.sending == 1)
    (record { code = s.code; state = s.state; differential = s.differential; sent = s.sent; sending = 0 }) s

abbrev pub end_sent : CSender → ℕ → ℕ
end_sent s old = cond (s.sending == 1) s.sent old

-- kz_entry.
abbrev pub found : Option Numbers → CFault
found None = fault 255 0 0
found (Some n) = fault 0 0 0

abbrev pub entry_fault : Result (List Numbers) Fault → ℕ → CFault
entry_fault (Ok ns) entry = found (entry_of ns entry)
entry_fault (Err f) entry = fault (fault_number f) (fault_line f) (fault_column f)

abbrev pub found_code : Option Numbers → CCode → CCode
found_code None old = old
found_code (Some n) old = code_out n

abbrev pub entry_code : Result (List Numbers) Fault → ℕ → CCode → CCode
entry_code (Ok ns) entry old = found_code (entry_of ns entry) old
entry_code (Err f) entry old = old

-- kz_steps: the text at the front of the buffer, if it fits.
abbrev pub fitted : List ℕ → List ℕ → List ℕ
fitted text buffer = cond (nat_le (length text) (length buffer)) (text ++ drop (length text) buffer) buffer
