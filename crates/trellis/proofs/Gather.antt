-- Laws of the bits of a label that some rows mark: read (`gather`), replaced (`put`), and added by exclusive or (`picked`).
use Rattle.std.proofs.Common.{◌≡◌, ℕ, suc, ◌+◌, ◌*◌, ◌/◌, ◌%◌, ◌^◌, ◌<◌, ◌≤◌, Bool, true, false, cond, ◌&&◌, eqb, List, [], ◌∷◌, length, sym, refl, ap, ◌∙◌, ⊎_elim, mul_assoc, mul_comm, one-mul, pow-suc, mul-zero, zero-mul, mul-add, add-one, arith, pow_pos}
use lib.Bits.{bit_xor, xor_comm, xor_assoc, xor_zero_l, xor_shifted}
use lib.Pow.{mod-pow-add}
use Rattle.std.proofs.lemmas.Bool.{and_parts, eqb-true, cases_Bool, cases_eq, cond-true, cond-false, both_ways}
use Rattle.trellis.specs.declared.Row.{Row}
use Rattle.trellis.specs.Label.{gather, put}
use Rattle.trellis.specs.Mapper.{picked}

-- how many rows are marked
abbrev pub count : (Row → Bool) → List Row → ℕ
count marked [] = 0
count marked (r ∷ rs) = cond (marked r) (suc (count marked rs)) (count marked rs)

-- a bit and what stands above it
pub low_bit : (b x : ℕ) → b < 2 → (b + 2 * x) % 2 ≡ b
low_bit b x h = omega arith

pub high_bits : (b x : ℕ) → b < 2 → (b + 2 * x) / 2 ≡ x
high_bits b x h = omega arith

pub double : (k : ℕ) → 2 ^ suc k ≡ 2 * 2 ^ k
double k = pow-suc 2 k ∙ mul_comm (2 ^ k) 2

pub bit_below : (z : ℕ) → z % 2 < 2
bit_below z = omega arith

-- a bit times a number
pub mul-below : (b x : ℕ) → b < 2 → b * x ≤ x
mul-below b x h = ⊎_elim (λ (e : b ≡ 0). rw e (omega (arith, zero-mul x))) (λ (e : b ≡ 0 → ⊥). let one : b ≡ 1 = omega arith in rw one (omega (arith, one-mul x))) (cases_eq b 0)

regroup : (p q g b : ℕ) → q ≡ 2 * p → g * q + b * p ≡ p * (b + 2 * g)
regroup p q g b e = rw e (omega (arith, mul-add p b (2 * g), mul_comm b p, mul_comm g (2 * p), mul_assoc 2 p g, mul_comm p (2 * g), mul_assoc 2 g p, mul_comm g p))

pub gather-below : (marked : Row → Bool) (rs : List Row) (z : ℕ) → gather marked rs z < 2 ^ count marked rs
gather-below marked [] z = omega arith
gather-below marked (r ∷ rs) z =
    let more = gather-below marked rs (z / 2) in
    elim (marked r) as (λ m. cond m (z % 2 + 2 * gather marked rs (z / 2)) (gather marked rs (z / 2)) < 2 ^ cond m (suc (count marked rs)) (count marked rs)) [
      | true ↦ omega (arith, double (count marked rs), bit_below z)
      | false ↦ more
    ]

pub put-below : (marked : Row → Bool) (rs : List Row) (t z : ℕ) → put marked rs t z < 2 ^ length rs
put-below marked [] t z = omega arith
put-below marked (r ∷ rs) t z =
    let one = put-below marked rs (t / 2) (z / 2) in
    let other = put-below marked rs t (z / 2) in
    let twice = double (length rs) in
    elim (marked r) as (λ m. cond m (t % 2 + 2 * put marked rs (t / 2) (z / 2)) (z % 2 + 2 * put marked rs t (z / 2)) < 2 ^ suc (length rs)) [
      | true ↦ omega arith
      | false ↦ omega arith
    ]

-- t modulo a power of two, by its lowest bit
pub mod_double : (t k : ℕ) → t % 2 ^ suc k ≡ t % 2 + 2 * ((t / 2) % 2 ^ k)
mod_double t k = ap (λ (e : ℕ). t % 2 ^ e) (sym (add-one k)) ∙ mod-pow-add t k 1 ∙ omega arith

-- the clauses of `gather`, `put` and `count` at a row that is marked, and at one that is not
module _ (marked : Row → Bool) (r : Row) (rs : List Row) where
  pub gather_marked : (z : ℕ) → marked r ≡ true → gather marked (r ∷ rs) z ≡ z % 2 + 2 * gather marked rs (z / 2)
  gather_marked z m = cond-true (marked r) _ _ m

  pub gather_other : (z : ℕ) → marked r ≡ false → gather marked (r ∷ rs) z ≡ gather marked rs (z / 2)
  gather_other z m = cond-false (marked r) _ _ m

  pub put_marked : (t z : ℕ) → marked r ≡ true → put marked (r ∷ rs) t z ≡ t % 2 + 2 * put marked rs (t / 2) (z / 2)
  put_marked t z m = cond-true (marked r) _ _ m

  pub put_other : (t z : ℕ) → marked r ≡ false → put marked (r ∷ rs) t z ≡ z % 2 + 2 * put marked rs t (z / 2)
  put_other t z m = cond-false (marked r) _ _ m

  pub count_marked : marked r ≡ true → count marked (r ∷ rs) ≡ suc (count marked rs)
  count_marked m = cond-true (marked r) _ _ m

  pub count_other : marked r ≡ false → count marked (r ∷ rs) ≡ count marked rs
  count_other m = cond-false (marked r) _ _ m

-- what was put is read back
pub gather-put : (marked : Row → Bool) (rs : List Row) (t z : ℕ) → gather marked rs (put marked rs t z) ≡ t % 2 ^ count marked rs
gather-put marked [] t z = omega arith
gather-put marked (r ∷ rs) t z =
    ⊎_elim
    (λ m.
    let x = put marked rs (t / 2) (z / 2) in
    ap (gather marked (r ∷ rs)) (put_marked marked r rs t z m) ∙ gather_marked marked r rs (t % 2 + 2 * x) m
    ∙ (λ i. low_bit (t % 2) x (bit_below t) i + 2 * gather marked rs (high_bits (t % 2) x (bit_below t) i))
    ∙ ap (λ (y : ℕ). t % 2 + 2 * y) (gather-put marked rs (t / 2) (z / 2))
    ∙ sym (mod_double t (count marked rs)) ∙ ap (λ (e : ℕ). t % 2 ^ e) (sym (count_marked marked r rs m)))
    (λ m.
    let x = put marked rs t (z / 2) in
    ap (gather marked (r ∷ rs)) (put_other marked r rs t z m) ∙ gather_other marked r rs (z % 2 + 2 * x) m
    ∙ ap (gather marked rs) (high_bits (z % 2) x (bit_below z)) ∙ gather-put marked rs t (z / 2)
    ∙ ap (λ (e : ℕ). t % 2 ^ e) (sym (count_other marked r rs m)))
    (cases_Bool (marked r))

-- no marked row has an entry
abbrev pub silent : (Row → Bool) → (Row → ℕ) → List Row → Bool
silent marked entry [] = true
silent marked entry (r ∷ rs) = cond (marked r) (eqb (entry r) 0) true && silent marked entry rs

-- then the marked bits do not matter
pub picked-put : (marked : Row → Bool) (entry : Row → ℕ) (rs : List Row) → silent marked entry rs ≡ true → (t z : ℕ) → picked entry rs (put marked rs t z) ≡ picked entry rs z
picked-put marked entry [] s t z = refl
picked-put marked entry (r ∷ rs) s t z =
    let both = and_parts _ _ s in
    ⊎_elim
    (λ m.
    let none : entry r ≡ 0 = eqb-true _ _ (sym (cond-true (marked r) _ _ m) ∙ both.0) in
    let x = put marked rs (t / 2) (z / 2) in
    let nought : (b : ℕ) → b * entry r ≡ 0 = λ b. ap (λ (e : ℕ). b * e) none ∙ mul-zero b in
    ap (picked entry (r ∷ rs)) (put_marked marked r rs t z m)
    ∙ (λ i. bit_xor (nought ((t % 2 + 2 * x) % 2) i) (picked entry rs (high_bits (t % 2) x (bit_below t) i)))
    ∙ (λ i. bit_xor (sym (nought (z % 2)) i) (picked-put marked entry rs both.1 (t / 2) (z / 2) i)))
    (λ m.
    let x = put marked rs t (z / 2) in
    ap (picked entry (r ∷ rs)) (put_other marked r rs t z m)
    ∙ (λ i. bit_xor (low_bit (z % 2) x (bit_below z) i * entry r) (picked entry rs (high_bits (z % 2) x (bit_below z) i)))
    ∙ ap (bit_xor (z % 2 * entry r)) (picked-put marked entry rs both.1 t (z / 2)))
    (cases_Bool (marked r))

-- the entries of the marked rows are 2^j, 2^(j+1), .. in order, and the others have none
abbrev pub rising : (Row → Bool) → (Row → ℕ) → ℕ → List Row → Bool
rising marked entry j [] = true
rising marked entry j (r ∷ rs) =
    cond (marked r) (eqb (entry r) (2 ^ j) && rising marked entry (suc j) rs) (eqb (entry r) 0 && rising marked entry j rs)

-- then their exclusive or is the number that the marked bits form
pub picked-rising : (marked : Row → Bool) (entry : Row → ℕ) (j : ℕ) (rs : List Row) → rising marked entry j rs ≡ true → (z : ℕ) → picked entry rs z ≡ 2 ^ j * gather marked rs z
picked-rising marked entry j [] h z = sym (mul-zero (2 ^ j))
picked-rising marked entry j (r ∷ rs) h z =
    ⊎_elim
    (λ m.
    let both = and_parts _ _ (sym (cond-true (marked r) _ _ m) ∙ h) in
    let g = gather marked rs (z / 2) in
    let here : z % 2 * entry r ≡ z % 2 * 2 ^ j = ap (λ (e : ℕ). z % 2 * e) (eqb-true _ _ both.0) in
    let low : z % 2 * 2 ^ j < 2 ^ suc j = rw (double j) (omega (arith, mul-below (z % 2) (2 ^ j) (bit_below z), pow_pos j)) in
    (λ i. bit_xor (here i) (picked-rising marked entry (suc j) rs both.1 (z / 2) i))
    ∙ xor_comm (z % 2 * 2 ^ j) (2 ^ suc j * g) ∙ ap (λ (x : ℕ). bit_xor x (z % 2 * 2 ^ j)) (mul_comm (2 ^ suc j) g) ∙ xor_shifted g (suc j) (z % 2 * 2 ^ j) low
    ∙ regroup (2 ^ j) (2 ^ suc j) g (z % 2) (double j) ∙ ap (λ (x : ℕ). 2 ^ j * x) (sym (gather_marked marked r rs z m)))
    (λ m.
    let both = and_parts _ _ (sym (cond-false (marked r) _ _ m) ∙ h) in
    let here : z % 2 * entry r ≡ 0 = ap (λ (e : ℕ). z % 2 * e) (eqb-true _ _ both.0) ∙ mul-zero (z % 2) in
    ap (λ (x : ℕ). bit_xor x (picked entry rs (z / 2))) here ∙ xor_zero_l _
    ∙ picked-rising marked entry j rs both.1 (z / 2) ∙ ap (λ (x : ℕ). 2 ^ j * x) (sym (gather_other marked r rs z m)))
    (cases_Bool (marked r))

-- the exclusive or of two entries
bit-xor : (b x y : ℕ) → b < 2 → b * bit_xor x y ≡ bit_xor (b * x) (b * y)
bit-xor b x y h =
    ⊎_elim (λ (e : b ≡ 0). rw e (zero-mul (bit_xor x y) ∙ sym (λ i. bit_xor (zero-mul x i) (zero-mul y i))))
    (λ (e : b ≡ 0 → ⊥). let one : b ≡ 1 = omega arith in rw one (one-mul (bit_xor x y) ∙ sym (λ i. bit_xor (one-mul x i) (one-mul y i))))
    (cases_eq b 0)

pub xor_swap : (a b c d : ℕ) → bit_xor (bit_xor a b) (bit_xor c d) ≡ bit_xor (bit_xor a c) (bit_xor b d)
xor_swap a b c d =
    xor_assoc a b (bit_xor c d) ∙ ap (bit_xor a) (sym (xor_assoc b c d) ∙ ap (λ (x : ℕ). bit_xor x d) (xor_comm b c) ∙ xor_assoc c b d)
    ∙ sym (xor_assoc a c (bit_xor b d))

pub picked-xor : (f g : Row → ℕ) (rs : List Row) (z : ℕ) → picked (λ r. bit_xor (f r) (g r)) rs z ≡ bit_xor (picked f rs z) (picked g rs z)
picked-xor f g [] z = refl
picked-xor f g (r ∷ rs) z =
    (λ i. bit_xor (bit-xor (z % 2) (f r) (g r) (bit_below z) i) (picked-xor f g rs (z / 2) i))
    ∙ xor_swap (z % 2 * f r) (z % 2 * g r) (picked f rs (z / 2)) (picked g rs (z / 2))

-- where the marked numbers agree, so do the lowest bits, if the first row is marked, and the numbers of the rest
pub peel : (marked : Row → Bool) (r : Row) (rs : List Row) (y z : ℕ) → gather marked (r ∷ rs) y ≡ gather marked (r ∷ rs) z → (marked r ≡ true → y % 2 ≡ z % 2) × (gather marked rs (y / 2) ≡ gather marked rs (z / 2))
peel marked r rs y z e =
    ⊎_elim
    (λ m.
    let same : y % 2 + 2 * gather marked rs (y / 2) ≡ z % 2 + 2 * gather marked rs (z / 2) = sym (gather_marked marked r rs y m) ∙ e ∙ gather_marked marked r rs z m in
    ((λ _. omega (arith, bit_below y, bit_below z)), omega (arith, bit_below y, bit_below z)))
    (λ m. ((λ t. absurd (both_ways (marked r) m t)), sym (gather_other marked r rs y m) ∙ e ∙ gather_other marked r rs z m))
    (cases_Bool (marked r))
