use Rattle.std.proofs.Common.{ℕ, List, ◌++◌, length}
use Rattle.faults.specs.Escapes.{StandsFor}
use Rattle.faults.proofs.escapes.unescaped.Given as goal

-- What is read so far, and what the rest stands for; where the text stands for bytes, so does the rest.
abbrev pub invariant-loop-byte : goal.invariant-loop-byte
invariant-loop-byte l = record {
  joins : (bs : List ℕ) → StandsFor l.rest bs → StandsFor l.escaped (l.text.items ++ bs);
  stands : (all : List ℕ) → StandsFor l.escaped all → (bs : List ℕ) × StandsFor l.rest bs;
}

abbrev pub decreases-loop-byte : goal.decreases-loop-byte
decreases-loop-byte l = length l.rest
