-- Four numbers below 256 in one, as the mapper keeps them: the number of place a stands at bit 8a.
use Rattle.std.specs.Prelude.{ℕ, ◌+◌, ◌-◌, ◌*◌, cond, ◌==◌, slice_index}
use Rattle.trellis.specs.declared.Row.{Row}

-- The pattern of a row.
abbrev pub packed : Row → ℕ
packed r = slice_index r.pattern 0 + slice_index r.pattern 1 * 256 + slice_index r.pattern 2 * 65536 + slice_index r.pattern 3 * 16777216

-- The bits of a phase at each used place, by the numbers of places and phases.
abbrev pub used_bits : ℕ → ℕ → ℕ
used_bits l m = cond (l == 1) (m - 1) (cond (l == 2) ((m - 1) * 257) ((m - 1) * 16843009))
