-- The numbers that follow from the columns of a code: places l, phases m, offset q, checked bits c, memory v, and the
-- parity polynomials h0 to h3.
use Rattle.std.specs.Prelude.{ℕ, ◌-◌, ◌*◌, cond, List, [], ◌∷◌, ◌==◌}
use Rattle.std.specs.Option.{unwrap_or}
use Rattle.trellis.specs.declared.Numbers.{Numbers}

-- The bits of a phase: 2, 3 or 4 for 4, 8 or 16 phases.
abbrev pub phase_bits : Numbers → ℕ
phase_bits n = cond (n.phases == 4) 2 (cond (n.phases == 8) 3 4)

-- The bits of a label.
abbrev pub label_bits : Numbers → ℕ
label_bits n = phase_bits n * n.places - n.offset

-- The bits of a data word.
abbrev pub word_bits : Numbers → ℕ
word_bits n = label_bits n - 1

-- The polynomials h0, h1, .., by the label bit that each checks; an absent one is 0, which checks nothing.
abbrev pub polynomials : Numbers → List ℕ
polynomials n = n.h0 ∷ n.h1 ∷ unwrap_or n.h2 0 ∷ unwrap_or n.h3 0 ∷ []
