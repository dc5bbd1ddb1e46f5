-- The parity check: which labels the trellis allows, and where they lead.
use Rattle.std.specs.Prelude.{◌≡◌, ℕ, ◌*◌, ◌/◌, ◌%◌, List, [], ◌∷◌, bit_xor}

-- The exclusive or of the polynomials whose label bit is 1.
abbrev pub syndrome : List ℕ → ℕ → ℕ
syndrome [] z = 0
syndrome (h ∷ hs) z = bit_xor (z % 2 * h) (syndrome hs (z / 2))

-- From trellis state S the label z is allowed where the exclusive or of S and its syndrome is even.
abbrev pub Allowed : List ℕ → ℕ → ℕ → Type 0
Allowed hs S z = bit_xor S (syndrome hs z) % 2 ≡ 0

-- The state after it: half that number.
abbrev pub next_state : List ℕ → ℕ → ℕ → ℕ
next_state hs S z = bit_xor S (syndrome hs z) / 2
