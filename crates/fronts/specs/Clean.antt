-- Where a clean reading goes.
use Rattle.std.specs.Prelude.{ℕ, Bool, ◌&&◌, List, length, ◌==◌, nat_lt}
use Rattle.reception.specs.Front.{FrontMeaning}

-- Into exactly as many words as a reading has, for a phase below M.
abbrev pub clean_goes : FrontMeaning → ℕ → ℕ → List ℕ → Bool
clean_goes f M m ws = nat_lt m M && length ws == f.width M
