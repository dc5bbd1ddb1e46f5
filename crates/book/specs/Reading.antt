-- Reading from the front of a text: what was read and the rest, or a fault.
use Rattle.std.specs.Prelude.{◌≡◌, ℕ, List, Ok, Err, Result}
use Rattle.book.specs.declared.fault.Fault.{Fault}
use Rattle.book.specs.declared.reader.Reader.{Reader}

-- What was read, with the rest of the text.
abbrev pub Reading : Type 0 → Type 0
Reading X = Result (X × List ℕ) Fault

-- Reads on from the rest; a fault is passed up unchanged.
abbrev pub next : {X Y : Type 0} → Reading X → (X → List ℕ → Reading Y) → Reading Y
next (Ok p) read = read p.0 p.1
next (Err fault) read = Err fault

-- What a call of the reader has read, with what the reader then has left.
abbrev pub read : {X Y : Type 0} → (X → Y) → Result X Fault → Reader → Reading Y
read view (Ok found) reader = Ok (view found, reader.rest.now)
read view (Err fault) reader = Err fault

-- A call of the reader answers what is due, and stays in its line.
pub record Reads {X Y : Type 0} (old : Reader) (view : X → Y) (answer : Result X Fault) (new : Reader) (due : Reading Y) : Type 0 where
  pub value : read view answer new ≡ due
  pub line : new.line ≡ old.line
