-- The refusal numbers of a sender.
use Rattle.std.specs.Prelude.{ℕ}
use Rattle.sender.specs.declared.refusal.SendRefusal.{SendRefusal}
use Rattle.sender.specs.declared.refusal.SendRefusal.TheVariants.{Full, TooWide}

abbrev pub refusal_number : SendRefusal → ℕ
refusal_number Full = 25
refusal_number TooWide = 7
