-- The two kinds of score: worths and sums.
use Rattle.std.specs.Prelude.{ℕ, ◌+◌, ◌-◌, ◌*◌, ◌^◌, min}
use Rattle.fronts.specs.declared.plain.Plain.{Plain}
use Rattle.fronts.specs.declared.strikes.Strikes.{Strikes}

-- A plain score is worth itself.
abbrev pub plain_worth : Plain → ℕ
plain_worth p = p.0

-- A sum that passes 32 bits stays at the greatest number.
abbrev pub plain_sum : Plain → Plain → Plain
plain_sum p q = record { 0 = min (p.0 + q.0) (2 ^ 32 - 1) }

-- A strike is worth 65,536, and a distance itself.
abbrev pub strikes_worth : Strikes → ℕ
strikes_worth s = s.strikes * 65536 + s.distance

-- Each field is summed alone, and stays at its greatest number if the sum passes it.
abbrev pub strikes_sum : Strikes → Strikes → Strikes
strikes_sum s t = record {
  distance = min (s.distance + t.distance) (2 ^ 32 - 1);
  strikes = min (s.strikes + t.strikes) (2 ^ 16 - 1);
}
