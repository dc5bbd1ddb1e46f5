-- The worths in the rows are bounded.
use Rattle.std.proofs.Common.{ℕ, zero, suc, ◌*◌, ◌^◌, ◌<◌, ◌≤◌, List, length, get_or, arith}
use Rattle.reception.specs.Worth.{Scores, label_worth}
use Rattle.survivors.specs.Best.{Survivor}
use Rattle.survivors.specs.Rows.{back, Rows, no_scores}
use Rattle.trellis.specs.declared.Numbers.{Numbers}

-- Where no label of a symbol is worth more than most, no survivor of t symbols is worth more than t times that.
pub row_bound : (n : Numbers) (ss : List Scores) (row : ℕ → ℕ → Survivor) (most : ℕ) → Rows n ss row → ((t z : ℕ) → t < length ss → label_worth n (get_or ss t no_scores) z ≤ most) → (t E : ℕ) → t ≤ length ss → E < 2 ^ n.memory → (row t E).worth ≤ t * most
row_bound n ss row most rows each zero E h e = omega (arith, (rows.begins E e).0)
row_bound n ss row most rows each (suc t) E h e =
    let best = rows.follows t h E e in
    let z = (row (suc t) E).label in
    let before = row_bound n ss row most rows each t (back n E z) (omega arith) best.inside.1 in
    let has = best.has in
    let label = each t z h in
    omega arith
