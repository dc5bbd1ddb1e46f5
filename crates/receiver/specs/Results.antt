-- The results of a receiver's calls, as answers.
use Rattle.std.specs.Prelude.{ℕ, Bool, List, take, Ok, Err, Result}
use Rattle.code.specs.declared.units.Word.{Word}
use Rattle.reception.specs.Answer.{Answer, refused, opened, taken, told, delivered}
use Rattle.receiver.specs.Delivery.{numbers_in}
use Rattle.receiver.specs.Refusal.{refusal_number}
use Rattle.receiver.specs.declared.refusal.Refusal.{Refusal}

abbrev pub open_answer : Result ℕ Refusal → Answer
open_answer (Ok symbols) = opened symbols
open_answer (Err e) = refused (refusal_number e)

abbrev pub take_answer : Result (Unit {0}) Refusal → Answer
take_answer (Ok _) = taken
take_answer (Err e) = refused (refusal_number e)

abbrev pub tell_answer : {S : Type 0} → (S → ℕ) → Result (ℕ × S × Bool) Refusal → Answer
tell_answer worth (Ok r) = told r.0 (worth r.1) r.2
tell_answer worth (Err e) = refused (refusal_number e)

-- The words written are the first of the buffer.
abbrev pub deliver_answer : Result (ℕ × Bool) Refusal → List Word → Answer
deliver_answer (Ok r) ws = delivered r.0 r.1 (take r.0 (numbers_in ws))
deliver_answer (Err e) ws = refused (refusal_number e)

-- How many words were written.
abbrev pub written : Result (ℕ × Bool) Refusal → ℕ
written (Ok r) = r.0
written (Err e) = 0
