-- What the code computes in place of a search over the turning bits; proofs/Turns.antt has that it is the same.
use Rattle.std.specs.Prelude.{ℕ, ◌+◌, ◌/◌, ◌%◌, min, Bool, cond, ◌&&◌, ◌==◌, count_ones}
use Rattle.trellis.specs.declared.Numbers.{Numbers}

-- The count of checked turning bits, by places, phase bits, offset and checked bits.
abbrev pub turns_by_sum : ℕ → ℕ → ℕ → ℕ → ℕ
turns_by_sum l i q c = cond (l == 1) (min (c + 1) i) (cond (l == 2) (min ((c + q + 1) / 2) i) ((c + q) / 4))

-- The parity bit is a differential bit.
abbrev pub parity_by_sum : Numbers → Bool
parity_by_sum n = n.places == 2 && (n.offset == 1 && (n.checked == 1 && count_ones n.h0 % 2 == 0))
