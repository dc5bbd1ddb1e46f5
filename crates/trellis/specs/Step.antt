-- The step of a code: the unit of carrier turnings that it cannot tell apart.
use Rattle.std.specs.Prelude.{ℕ, zero, suc, ◌+◌, ◌-◌, ◌*◌, ◌%◌, ◌^◌, cond, ◌==◌, count_ones, nat_le, slice_index}
use Rattle.trellis.specs.declared.Numbers.{Numbers}
use Rattle.trellis.specs.Numbers.{phase_bits, polynomials}

-- The number of the j-th turning row, j from 0, among the rows of l places and 2^i phases.
abbrev pub turning_row : ℕ → ℕ → ℕ → ℕ
turning_row l i j = cond (l == 1) j (cond (l == 2) (2 * j + 1) (cond (j + 1 == i) (4 * i - 1) (4 * j + 4)))

-- The label bit of the j-th turning row.
abbrev pub turning_bit : Numbers → ℕ → ℕ
turning_bit n j = turning_row n.places (phase_bits n) j - n.offset

-- One more than the greatest j below k whose turning bit is at most c, or 0 where there is none.
abbrev pub checked_turns : Numbers → ℕ → ℕ → ℕ
checked_turns n c zero = 0
checked_turns n c (suc j) = cond (nat_le (turning_bit n j) c) (suc j) (checked_turns n c j)

-- The exponent that the highest checked turning bit f decides, by the polynomial that checks it: f if that has an even
-- count of ones, f + 1 if odd.
abbrev pub exponent_at : Numbers → ℕ → ℕ
exponent_at n f = f + count_ones (slice_index (polynomials n) (turning_bit n f)) % 2

-- The exponent of the step; 0 where no turning bit is checked.
abbrev pub step_exponent : Numbers → ℕ
step_exponent n =
    let turns = checked_turns n n.checked (phase_bits n) in cond (turns == 0) 0 (exponent_at n (turns - 1))

abbrev pub step : Numbers → ℕ
step n = 2 ^ step_exponent n

-- How many label bits are differential: the turning bits from the exponent on.
abbrev pub differential_bits : Numbers → ℕ
differential_bits n = phase_bits n - step_exponent n
