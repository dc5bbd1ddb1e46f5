-- The mapper: from a label to the phases of its places.
use Rattle.std.specs.Prelude.{◌≡◌, ℕ, ◌+◌, ◌*◌, ◌/◌, ◌%◌, ◌^◌, ◌<◌, cond, List, [], ◌∷◌, bit_xor, nat_lt, slice_index}
use Rattle.trellis.specs.declared.Row.{Row}
use Rattle.trellis.specs.Label.{gather, put, turns_by}
use Rattle.trellis.specs.declared.Numbers.{Numbers}
use Rattle.trellis.specs.Numbers.{label_bits}
use Rattle.trellis.specs.Rows.{label_rows}

-- T: the number that the turning bits of a label form.
abbrev pub turning_number : Numbers → ℕ → ℕ
turning_number n z = gather (turns_by 1) (label_rows n) z

-- The exclusive or of the entries of the rows that label z picks.
abbrev pub picked : (Row → ℕ) → List Row → ℕ → ℕ
picked entry [] z = 0
picked entry (r ∷ rs) z = bit_xor (z % 2 * entry r) (picked entry rs (z / 2))

-- A row's number at place a.
abbrev pub entry_at : ℕ → Row → ℕ
entry_at a r = slice_index r.pattern a

-- The picked patterns at place a. The entries of one level share one binary digit, so that the exclusive or adds each
-- level modulo 2, with no carry to the next.
abbrev pub patterns : Numbers → ℕ → ℕ → ℕ
patterns n z a = picked (entry_at a) (label_rows n) z

-- The phase at place a; an unused place holds 0.
abbrev pub phase_at : Numbers → ℕ → ℕ → ℕ
phase_at n z a = cond (nat_lt a n.places) ((turning_number n z + patterns n z a) % n.phases) 0

-- The symbol of a label: the phases at its four places.
abbrev pub symbol_of : Numbers → ℕ → List ℕ
symbol_of n z = phase_at n z 0 ∷ phase_at n z 1 ∷ phase_at n z 2 ∷ phase_at n z 3 ∷ []

-- The label z with its turning number r higher, modulo the number of phases.
abbrev pub turned_label : Numbers → ℕ → ℕ → ℕ
turned_label n r z = put (turns_by 1) (label_rows n) ((turning_number n z + r) % n.phases) z

-- Different labels of one code never give the same phases.
abbrev pub Distinct : Numbers → Type 0
Distinct n = (y z : ℕ) → y < 2 ^ label_bits n → z < 2 ^ label_bits n → symbol_of n y ≡ symbol_of n z → y ≡ z

-- To turn a label's turning number by r turns every used place by r phases.
abbrev pub Turns : Numbers → Type 0
Turns n = (r z a : ℕ) → a < n.places → phase_at n (turned_label n r z) a ≡ (phase_at n z a + r) % n.phases
