-- The precoder: from a data word to a label.
use Rattle.std.specs.Prelude.{ℕ, ◌+◌, ◌*◌, ◌%◌, ◌^◌, List, bit_xor}
use Rattle.trellis.specs.Label.{gather, put, turns_by}
use Rattle.trellis.specs.declared.Numbers.{Numbers}
use Rattle.trellis.specs.Numbers.{polynomials}
use Rattle.trellis.specs.Parity.{syndrome}
use Rattle.trellis.specs.Rows.{label_rows}
use Rattle.trellis.specs.Step.{step, differential_bits}

-- V: the number that the differential bits of a label form. Their rows turn by the step or more.
abbrev pub differential : Numbers → ℕ → ℕ
differential n z = gather (turns_by (step n)) (label_rows n) z

-- A data word at its place in a label: data bit i-1 belongs to label bit zi, and z0 is 0.
abbrev pub placed : ℕ → ℕ
placed w = 2 * w

-- The new V: the word's number at the differential places is added to the old V.
abbrev pub risen : Numbers → ℕ → ℕ → ℕ
risen n V w = (V + differential n (placed w)) % 2 ^ differential_bits n

-- A number x, whose lowest bit is 0, with the parity bit z0 that makes the exclusive or of state S and its syndrome even.
abbrev pub with_parity : List ℕ → ℕ → ℕ → ℕ
with_parity hs S x = x + bit_xor S (syndrome hs x) % 2

-- The label that is sent for word w in trellis state S: the word with the new V at the differential places, and z0.
abbrev pub label_of : Numbers → ℕ → ℕ → ℕ → ℕ
label_of n S V w = with_parity (polynomials n) S (put (turns_by (step n)) (label_rows n) (risen n V w) (placed w))
