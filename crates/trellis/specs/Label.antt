-- Some bits of a label, read and replaced as a number. Labels are numbers, whose bit i, from the lowest, belongs to the
-- i-th of the rows that it picks from.
use Rattle.std.specs.Prelude.{◌≡◌, ℕ, ◌+◌, ◌*◌, ◌/◌, ◌%◌, Bool, cond, List, [], ◌∷◌, nat_le}
use Rattle.trellis.specs.declared.Row.{Row}

-- The row turns by s phases or more. With s at least 1, only turning rows do.
abbrev pub turns_by : ℕ → Row → Bool
turns_by s r = nat_le s r.turn

-- The number that the bits of label z form, lowest first, whose rows are marked.
abbrev pub gather : (Row → Bool) → List Row → ℕ → ℕ
gather marked [] z = 0
gather marked (r ∷ rs) z = cond (marked r) (z % 2 + 2 * gather marked rs (z / 2)) (gather marked rs (z / 2))

-- The label z with those bits replaced by the bits of t.
abbrev pub put : (Row → Bool) → List Row → ℕ → ℕ → ℕ
put marked [] t z = 0
put marked (r ∷ rs) t z =
    cond (marked r) (t % 2 + 2 * put marked rs (t / 2) (z / 2)) (z % 2 + 2 * put marked rs t (z / 2))

-- The labels y and z have the same bits, except perhaps those whose rows are marked.
abbrev pub Agree : (Row → Bool) → List Row → ℕ → ℕ → Type 0
Agree marked [] y z = Unit {0}
Agree marked (r ∷ rs) y z = cond (marked r) (Unit {0}) (y % 2 ≡ z % 2) × Agree marked rs (y / 2) (z / 2)
