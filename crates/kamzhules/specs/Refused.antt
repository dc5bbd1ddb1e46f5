-- Why a call from C is refused, and what C is told.
use Rattle.std.specs.Prelude.{ℕ, Ok, Err, Result}
use Rattle.book.specs.Fault.{fault_number, fault_line, fault_column}
use Rattle.code.specs.Flaw.{flaw_number, flaw_column}
use Rattle.kamzhules.specs.declared.refused.Refused.{Refused}
use Rattle.kamzhules.specs.declared.refused.Refused.TheVariants.{Book, Code, Receiver, Sender, Quiet, NoFront, NoEntry, Nowhere}
use Rattle.kamzhules.specs.declared.refused.CFault.{CFault}
use Rattle.kamzhules.specs.Structs.{fault}
use Rattle.receiver.specs.Refusal.{refusal_number}
use Rattle.sender.specs.Refusal.{refusal_number as send_refusal_number}

-- The number of a refusal.
abbrev pub refused_number : Refused → ℕ
refused_number (Book f) = fault_number f
refused_number (Code f) = flaw_number f
refused_number (Receiver r) = refusal_number r
refused_number (Sender r) = send_refusal_number r
refused_number Quiet = 254
refused_number NoFront = 253
refused_number NoEntry = 255
refused_number Nowhere = 255

-- The same with the line and column that it names.
abbrev pub refused_fault : Refused → CFault
refused_fault (Book f) = fault (fault_number f) (fault_line f) (fault_column f)
refused_fault (Code f) = fault (flaw_number f) 0 (flaw_column f)
refused_fault r = fault (refused_number r) 0 0

-- The number of what a call answers: 0 where it is not refused.
abbrev pub number_in : {T : Type 0} → Result T Refused → ℕ
number_in (Ok x) = 0
number_in (Err r) = refused_number r

-- The fault of it.
abbrev pub fault_in : {T : Type 0} → Result T Refused → CFault
fault_in (Ok x) = fault 0 0 0
fault_in (Err r) = refused_fault r
