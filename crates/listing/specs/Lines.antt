-- What lines hold, and what writing adds to them.
use Rattle.std.specs.Prelude.{◌≡◌, ℕ, ◌+◌, ◌≤◌, List, ◌++◌, length, Ok, Err, Result}
use Rattle.listing.specs.declared.lines.Lines.{Lines}

-- The bytes that are written.
abbrev pub written : Lines → List ℕ
written lines = lines.text.bytes

-- The bytes of lines, whether they tell steps or a refusal.
abbrev pub told : Result Lines Lines → List ℕ
told (Ok lines) = written lines
told (Err lines) = written lines

-- The bytes are added at the end, at most so many.
pub record Appends (before : Lines) (bytes : List ℕ) (most : ℕ) (after : Lines) : Type 0 where
  pub text : written after ≡ written before ++ bytes
  pub size : length (written after) ≤ length (written before) + most
