-- The fronts by their numbers, and what kz_turn and kz_clean answer and write.
use Rattle.std.specs.Prelude.{◌≡◌, ℕ, cond, List, Some, None, Ok, Err, Option, Result, ◌==◌}
use Rattle.std.specs.Option.{option_map}
use Rattle.fronts.specs.Clean.{clean_goes}
use Rattle.fronts.specs.LostLaws.{lost_meaning}
use Rattle.fronts.specs.StrikeLaws.{strike_meaning}
use Rattle.fronts.specs.TableLaws.{table_meaning}
use Rattle.kamzhules.specs.declared.refused.Refused.{Refused}
use Rattle.kamzhules.specs.declared.refused.Refused.TheVariants.{NoFront}
use Rattle.kamzhules.specs.declared.front_kind.FrontKind.{FrontKind}
use Rattle.kamzhules.specs.declared.front_kind.FrontKind.TheVariants.{Table, Strike, LostTable, LostStrike}
use Rattle.reception.specs.Front.{FrontMeaning}

-- The fronts by their numbers.
abbrev pub front_kind : ℕ → Option FrontKind
front_kind k = cond (k == 0) (Some Table) (cond (k == 1) (Some Strike) (cond (k == 2) (Some LostTable) (cond (k == 3) (Some LostStrike) None)))

-- The front of the number, or the refusal where it names none.
abbrev pub Names : ℕ → Result FrontKind Refused → Type 0
Names k (Ok kind) = front_kind k ≡ Some kind
Names k (Err r) = (front_kind k ≡ None) × (r ≡ NoFront)

-- What each front says of readings: the table, the strike front, and the lost-place layer over each.
abbrev pub meaning_of : FrontKind → FrontMeaning
meaning_of Table = table_meaning
meaning_of Strike = strike_meaning
meaning_of LostTable = lost_meaning table_meaning
meaning_of LostStrike = lost_meaning strike_meaning

-- The fronts that give plain scores, and those that give strike scores.
abbrev pub plain_kind : Option FrontKind → Option FrontMeaning
plain_kind (Some Table) = Some (meaning_of Table)
plain_kind (Some LostTable) = Some (meaning_of LostTable)
plain_kind _ = None

abbrev pub strike_kind : Option FrontKind → Option FrontMeaning
strike_kind (Some Strike) = Some (meaning_of Strike)
strike_kind (Some LostStrike) = Some (meaning_of LostStrike)
strike_kind _ = None

abbrev pub plain_front : ℕ → Option FrontMeaning
plain_front k = plain_kind (front_kind k)

abbrev pub strike_front : ℕ → Option FrontMeaning
strike_front k = strike_kind (front_kind k)

-- The fronts of both kinds.
abbrev pub any_front : ℕ → Option FrontMeaning
any_front k = option_map meaning_of (front_kind k)

-- kz_turn.
abbrev pub turn_number : Option FrontMeaning → ℕ
turn_number None = 253
turn_number (Some f) = 0

abbrev pub turn_reading : Option FrontMeaning → ℕ → List ℕ → List ℕ
turn_reading None phases ws = ws
turn_reading (Some f) phases ws = f.turn phases ws

-- kz_clean: 255 where the clean reading has no place to go.
abbrev pub clean_number : Option FrontMeaning → ℕ → ℕ → List ℕ → ℕ
clean_number None phases phase ws = 253
clean_number (Some f) phases phase ws = cond (clean_goes f phases phase ws) 0 255

abbrev pub clean_reading : Option FrontMeaning → ℕ → ℕ → List ℕ → List ℕ
clean_reading None phases phase ws = ws
clean_reading (Some f) phases phase ws = cond (clean_goes f phases phase ws) (f.clean phases phase) ws
