-- Cells and ways take little memory, since scores do.
use Rattle.std.proofs.Common.{ℕ, ◌+◌, ◌-◌, ◌*◌, ◌%◌, ◌^◌, ◌<◌, ◌≤◌, max, mul-le-mul_right, arith}
use native.Mathlib.Nat.{mod-le}
use prog.Memory.{up}

up_most : (k e : ℕ) → up k e ≤ e + k
up_most k e = omega (arith, mod-le (k - e % k) k)

-- The bytes of a cell and of a way, behind a score of so many.
abbrev cell : ℕ → ℕ → ℕ
cell size align = up (max align 2) (up 1 (up 2 (up align 0 + size) + 2) + 1)

abbrev way : ℕ → ℕ → ℕ
way size align = up (max 8 (max (max align 2) 1)) (up (max align 2) 8 + cell size align)

cell_most : (size align : ℕ) → align ≤ 16 → cell size align ≤ size + 64
cell_most size align narrow =
    let score = up_most align 0 in
    let label = up_most 2 (up align 0 + size) in
    let sole = up_most 1 (up 2 (up align 0 + size) + 2) in
    let end = up_most (max align 2) (up 1 (up 2 (up align 0 + size) + 2) + 1) in
    omega arith

pub cell_room : (i size align : ℕ) → i ≤ 16 → size < 2 ^ 32 → align ≤ 16 → i * cell size align < 2 ^ 63
cell_room i size align few small narrow =
    let one = cell_most size align narrow in
    let most = mul-le-mul_right (cell size align) few in
    omega arith

pub way_room : (i size align : ℕ) → i ≤ 16 → size < 2 ^ 32 → align ≤ 16 → i * way size align < 2 ^ 63
way_room i size align few small narrow =
    let one = cell_most size align narrow in
    let start = up_most (max align 2) 8 in
    let end = up_most (max 8 (max (max align 2) 1)) (up (max align 2) 8 + cell size align) in
    let most = mul-le-mul_right (way size align) few in
    omega arith
