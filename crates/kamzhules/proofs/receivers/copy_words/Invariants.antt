use Rattle.std.proofs.Common.{◌≡◌, ◌++◌, take, drop}
use Rattle.receiver.specs.Delivery.{numbers_in}
use Rattle.kamzhules.proofs.receivers.copy_words.Given as goal

abbrev pub invariant-loop-i : goal.invariant-loop-i
invariant-loop-i l = l.buffer ≡ take l.i (numbers_in l.words) ++ drop l.i l.initial.buffer
