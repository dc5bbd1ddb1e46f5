-- The limits of a code's numbers, judged from the left. A fault is named by its column, from 1; 0 is none.
use Rattle.std.specs.Prelude.{ℕ, ◌+◌, ◌%◌, ◌^◌, Bool, cond, not, ◌&&◌, ◌||◌, Some, None, Option, ◌==◌, nat_le, nat_lt}
use Rattle.trellis.specs.declared.Numbers.{Numbers}
use Rattle.trellis.specs.Numbers.{word_bits}
use Rattle.trellis.specs.Step.{step_exponent, turning_bit}

-- The column, unless it is within its limits: then what the columns after it give.
abbrev pub unless : Bool → ℕ → ℕ → ℕ
unless within column rest = cond within rest column

abbrev pub is_places : ℕ → Bool
is_places l = l == 1 || (l == 2 || l == 4)

abbrev pub is_phases : ℕ → Bool
is_phases m = m == 4 || (m == 8 || m == 16)

-- One to three checked bits beside z0, and no more than a data word has.
abbrev pub is_checked : ℕ → ℕ → Bool
is_checked k c = nat_le 1 c && (nat_le c 3 && nat_le c k)

abbrev pub is_memory : ℕ → Bool
is_memory v = nat_le 1 v && nat_le v 8

-- The first of l, m, q, c, v outside its limits.
abbrev pub limit_fault : Numbers → ℕ
limit_fault n =
    unless (is_places n.places) 1 (unless (is_phases n.phases) 2 (unless (nat_lt n.offset n.places) 3
    (unless (is_checked (word_bits n) n.checked) 4 (unless (is_memory n.memory) 5 0))))

-- h0 is odd and of degree v.
abbrev pub is_first : ℕ → ℕ → Bool
is_first v h = h % 2 == 1 && (nat_le (2 ^ v) h && nat_lt h (2 ^ (v + 1)))

-- Any other polynomial is not zero and of degree at most v.
abbrev pub is_later : ℕ → ℕ → Bool
is_later v h = nat_le 1 h && nat_lt h (2 ^ (v + 1))

-- A polynomial that may be absent: it is there exactly where it is due.
abbrev pub is_due : Bool → ℕ → Option ℕ → Bool
is_due due v None = not due
is_due due v (Some h) = due && is_later v h

-- The first of h0, h1, h2, h3 outside its limits.
abbrev pub polynomial_fault : Numbers → ℕ
polynomial_fault n =
    unless (is_first n.memory n.h0) 6
    (unless (is_later n.memory n.h1) 7
    (unless (is_due (nat_le 2 n.checked) n.memory n.h2) 8
    (unless (is_due (nat_le 3 n.checked) n.memory n.h3) 9 0)))

-- The parity bit z0 is a differential bit: it is the lowest turning bit, and the step is 1.
abbrev pub parity_turns : Numbers → Bool
parity_turns n = turning_bit n 0 == 0 && step_exponent n == 0
