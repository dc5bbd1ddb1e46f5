use Rattle.std.proofs.Common.{ℕ, ◌<◌, true}
use Rattle.receiver.proofs.Places.{FitAt}
use Rattle.receiver.proofs.reading.Reading.is_fit.Given as goal

abbrev pub invariant-loop-place : goal.invariant-loop-place
invariant-loop-place g l =
    (a : ℕ) → a < l.place → FitAt (g.F.Front.meaning l.self.front.now) l.self.code.numbers.phases l.self.words.now a true
