-- The bytes that a text with escapes stands for.
use Rattle.std.specs.Prelude.{◌≡◌, ℕ, ◌+◌, ◌-◌, ◌*◌, cond, ◌&&◌, List, [], ◌∷◌, Some, None, Option, ◌==◌, nat_le}
use Rattle.std.specs.Option.{option_map, option_and_then}

-- The value of a digit, 0 to 9 or a to f.
abbrev pub hex_digit : ℕ → Option ℕ
hex_digit b = cond (nat_le 48 b && nat_le b 57) (Some (b - 48)) (cond (nat_le 97 b && nat_le b 102) (Some (b - 87)) None)

-- The byte of two digits.
abbrev pub hex_byte : ℕ → ℕ → Option ℕ
hex_byte high low = option_and_then (λ h. option_map (λ l. 16 * h + l) (hex_digit low)) (hex_digit high)

-- Behind a backslash and an x: the byte of the next two digits, and what is behind them.
abbrev pub hex_escape : List ℕ → Option (ℕ × List ℕ)
hex_escape [] = None
hex_escape (high ∷ []) = None
hex_escape (high ∷ low ∷ rest) = option_map (λ b. (b, rest)) (hex_byte high low)

-- Behind a backslash: n, r, t, another backslash, or x and two digits.
abbrev pub escape : List ℕ → Option (ℕ × List ℕ)
escape [] = None
escape (c ∷ rest) =
    cond (c == 110) (Some (10, rest))
    (cond (c == 114) (Some (13, rest))
    (cond (c == 116) (Some (9, rest))
    (cond (c == 92) (Some (92, rest))
    (cond (c == 120) (hex_escape rest) None))))

-- The first byte, and what is written behind it; none where the text is at its end, or an escape is unknown.
abbrev pub first_byte : List ℕ → Option (ℕ × List ℕ)
first_byte [] = None
first_byte (b ∷ rest) = cond (b == 92) (escape rest) (Some (b, rest))

-- The text stands for these bytes.
abbrev pub StandsFor : List ℕ → List ℕ → Type 0
StandsFor escaped [] = escaped ≡ []
StandsFor escaped (b ∷ bs) = (rest : List ℕ) × (first_byte escaped ≡ Some (b, rest)) × StandsFor rest bs
