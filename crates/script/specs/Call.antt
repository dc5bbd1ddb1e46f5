-- Which call a line of text is.
use Rattle.std.specs.Prelude.{ℕ, ◌+◌, ◌-◌, ◌*◌, cond, ◌&&◌, ◌||◌, List, [], ◌∷◌, length, take, drop, Some, None, codes, Option, ◌==◌, nat_le, nat_lt}
use Rattle.std.specs.Option.{option_map}
use Rattle.std.specs.Str.{bytes_eq}
use Rattle.script.specs.declared.call.Call.{Call}
use Rattle.script.specs.declared.call.Call.TheVariants.{Begin, Send, End}

-- What follows the word at the front of the text, if it begins with it.
abbrev pub after : List ℕ → List ℕ → Option (List ℕ)
after word text = cond (bytes_eq (take (length word) text) word) (Some (drop (length word) text)) None

-- The value of decimal digits behind those of value n; none where a byte is no digit.
abbrev pub value_from : ℕ → List ℕ → Option ℕ
value_from n [] = Some n
value_from n (b ∷ bs) = cond (nat_le 48 b && nat_le b 57) (value_from (n * 10 + (b - 48)) bs) None

-- At most 65,535.
abbrev pub short : Option ℕ → Option ℕ
short None = None
short (Some n) = cond (nat_lt 65535 n) None (Some n)

-- One to five decimal digits, at most 65,535.
abbrev pub number_of : List ℕ → Option ℕ
number_of digits = cond (length digits == 0 || nat_lt 5 (length digits)) None (short (value_from 0 digits))

-- The call of a number, where the text begins with the word, and otherwise another.
abbrev pub or_else : Option (List ℕ) → (ℕ → Call) → Option Call → Option Call
or_else None call other = other
or_else (Some digits) call other = option_map call (number_of digits)

-- `begin E`, `send W` or `end`; any other line is no call.
abbrev pub call_of : List ℕ → Option Call
call_of line =
    cond (bytes_eq line (codes "end")) (Some End)
    (or_else (after (codes "begin ") line) Begin (or_else (after (codes "send ") line) Send None))
