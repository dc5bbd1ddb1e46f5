-- The data words that labels carry.
use Rattle.std.specs.Prelude.{ℕ, ◌+◌, ◌-◌, ◌/◌, ◌%◌, ◌^◌, List, [], ◌∷◌}
use Rattle.trellis.specs.declared.Numbers.{Numbers}
use Rattle.trellis.specs.Label.{put, turns_by}
use Rattle.trellis.specs.Precoder.{differential}
use Rattle.trellis.specs.Rows.{label_rows}
use Rattle.trellis.specs.Step.{step, differential_bits}

-- What the differential number has risen by from label y to label z, modulo 2 to the count of differential bits.
abbrev pub rise : Numbers → ℕ → ℕ → ℕ
rise n y z = (differential n z + (2 ^ differential_bits n - differential n y)) % 2 ^ differential_bits n

-- The data word that label z carries behind label y: z without its parity bit, and the rise at the differential places.
abbrev pub word_between : Numbers → ℕ → ℕ → ℕ
word_between n y z = put (turns_by (step n)) (label_rows n) (rise n y z) z / 2

-- The data words of a list of labels, from the second on.
abbrev pub words_of : Numbers → List ℕ → List ℕ
words_of n [] = []
words_of n (y ∷ []) = []
words_of n (y ∷ z ∷ zs) = word_between n y z ∷ words_of n (z ∷ zs)
