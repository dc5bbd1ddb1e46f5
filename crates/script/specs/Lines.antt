-- The parts of a script.
use Rattle.std.specs.Prelude.{ℕ, suc, ◌+◌, Bool, cond, ◌&&◌, List, [], ◌∷◌, length, take, Some, None, Option, ◌==◌, nat_lt}
use Rattle.std.specs.List.{position_or_len}
use Rattle.script.specs.declared.call.Call.{Call}
use Rattle.script.specs.Call.{call_of}

-- How many bytes stand before the first empty line. A line feed, 10, is an empty line where a line begins.
abbrev pub empty_line : Bool → List ℕ → ℕ
empty_line begins [] = 0
empty_line begins (b ∷ bs) = cond (begins && b == 10) 0 (suc (empty_line (b == 10) bs))

-- How many bytes stand before the first line feed.
abbrev pub line_feed : List ℕ → ℕ
line_feed text = position_or_len (λ b. b == 10) text

-- The call of the first line; one that is not ended is no call.
abbrev pub first_call : List ℕ → Option Call
first_call text = cond (nat_lt (line_feed text) (length text)) (call_of (take (line_feed text) text)) None

-- The bytes of the first line, with its line feed.
abbrev pub first_size : List ℕ → ℕ
first_size text = cond (nat_lt (line_feed text) (length text)) (line_feed text + 1) (line_feed text)

-- What the next line is; none where no text is left.
abbrev pub next_call : List ℕ → Option (Option Call)
next_call [] = None
next_call (b ∷ bs) = Some (first_call (b ∷ bs))
