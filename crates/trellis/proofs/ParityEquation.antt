-- Paths as one equation: the syndromes of a path, each doubled as often as its symbol is late, add up to its states.
use Rattle.std.proofs.Common.{◌≡◌, ℕ, zero, suc, ◌+◌, ◌*◌, ◌/◌, ◌%◌, ◌^◌, ◌<◌, List, [], ◌∷◌, map, length, get_or, set, replicate, sym, refl, ap, ◌∙◌, add-zero, mod-lt, mul_assoc, mul_comm, one-mul, div-add-mod', zero-add, zero-mul, add-one, arith, pow_pos, shr-shr}
use native.Mathlib.Nat.{div-eq_of_lt}
use lib.Bits.{bit_xor, xor_comm, xor_assoc, xor_zero_r, xor_self, xor_shr, xor_block}
use lib.Count.{ones, ones_in, ones_step, ones_cat}
use lib.Pow.{shl-shr, mod-pow-add}
use Rattle.trellis.specs.Parity.{syndrome}
use Rattle.trellis.specs.Path.{Leads}
use Rattle.trellis.proofs.Gather.{double, bit_below, xor_swap}
use Rattle.trellis.proofs.OneLabel.{xor_parity}

-- The exclusive or of the numbers, each doubled as often as it stands behind others.
abbrev pub fed : List ℕ → ℕ
fed [] = 0
fed (x ∷ xs) = bit_xor x (2 * fed xs)

abbrev pub syndromes : List ℕ → List ℕ → List ℕ
syndromes hs zs = map (syndrome hs) zs

pub xor_double : (a b : ℕ) → bit_xor (2 * a) (2 * b) ≡ 2 * bit_xor a b
xor_double a b =
    (λ i. bit_xor (sym (twice a) i) (sym (twice b) i)) ∙ xor_block 1 a b 0 0 (omega arith) (omega arith) ∙ omega arith
  where
    twice : (x : ℕ) → x * 2 ^ 1 + 0 ≡ 2 * x
    twice x = omega arith

-- two even numbers, by their halves
pub xor_even : (x y : ℕ) → x % 2 ≡ 0 → bit_xor x (2 * y) ≡ 2 * bit_xor (x / 2) y
xor_even x y e = ap (λ (k : ℕ). bit_xor k (2 * y)) whole ∙ xor_double (x / 2) y
  where
    whole : x ≡ 2 * (x / 2)
    whole = omega arith

power_up : (k e : ℕ) → 2 ^ suc k * e ≡ 2 * (2 ^ k * e)
power_up k e = ap (λ (x : ℕ). x * e) (double k) ∙ mul_assoc 2 (2 ^ k) e

pub path_equation : (hs : List ℕ) (S : ℕ) (zs : List ℕ) (E : ℕ) → Leads hs S zs E → bit_xor S (fed (syndromes hs zs)) ≡ 2 ^ length zs * E
path_equation hs S [] E p = xor_zero_r S ∙ p ∙ sym (one-mul E)
path_equation hs S (z ∷ zs) E p =
    let x = syndrome hs z in
    let X = bit_xor S x in
    sym (xor_assoc S x (2 * fed (syndromes hs zs))) ∙ xor_even X (fed (syndromes hs zs)) p.0
    ∙ ap (λ (k : ℕ). 2 * k) (path_equation hs (X / 2) zs E p.1) ∙ sym (power_up (length zs) E)

pub equation_path : (hs : List ℕ) (S : ℕ) (zs : List ℕ) (E : ℕ) → bit_xor S (fed (syndromes hs zs)) ≡ 2 ^ length zs * E → Leads hs S zs E
equation_path hs S [] E e = sym (xor_zero_r S) ∙ e ∙ one-mul E
equation_path hs S (z ∷ zs) E e =
    let x = syndrome hs z in
    let X = bit_xor S x in
    let A = fed (syndromes hs zs) in
    let whole : bit_xor X (2 * A) ≡ 2 * (2 ^ length zs * E) = xor_assoc S x (2 * A) ∙ e ∙ power_up (length zs) E in
    let even : X % 2 ≡ 0 = omega (arith, xor_parity X (2 * A)) in
    let half : 2 * bit_xor (X / 2) A ≡ 2 * (2 ^ length zs * E) = sym (xor_even X A even) ∙ whole in
    (even, equation_path hs (X / 2) zs E (omega arith))

-- Bit v of that number.
abbrev pub parity_bit : ℕ → List ℕ → ℕ
parity_bit v xs = fed xs / 2 ^ v % 2

pub bit_xor_at : (a b v : ℕ) → bit_xor a b / 2 ^ v % 2 ≡ (a / 2 ^ v % 2 + b / 2 ^ v % 2) % 2
bit_xor_at a b v = ap (λ (k : ℕ). k % 2) (xor_shr a b v) ∙ xor_parity (a / 2 ^ v) (b / 2 ^ v) ∙ omega arith

-- v + 1 labels that are a path from some state have it 0.
pub path_parity : (hs : List ℕ) (v S : ℕ) (zs : List ℕ) (E : ℕ) → S < 2 ^ v → length zs ≡ v + 1 → Leads hs S zs E → parity_bit v (syndromes hs zs) ≡ 0
path_parity hs v S zs E small long p =
    let A = fed (syndromes hs zs) in
    let whole = path_equation hs S zs E p ∙ ap (λ (k : ℕ). 2 ^ k * E) (long ∙ add-one v) ∙ power_up v E in
    let up : 2 * (2 ^ v * E) / 2 ^ v ≡ 2 * E = ap (λ (k : ℕ). k / 2 ^ v) (sym (mul_assoc 2 (2 ^ v) E) ∙ ap (λ (k : ℕ). k * E) (mul_comm 2 (2 ^ v)) ∙ mul_assoc (2 ^ v) 2 E ∙ mul_comm (2 ^ v) (2 * E)) ∙ shl-shr (2 * E) v in
    let bit : bit_xor S A / 2 ^ v % 2 ≡ 0 = ap (λ (k : ℕ). k / 2 ^ v % 2) whole ∙ ap (λ (k : ℕ). k % 2) up ∙ omega arith in
    let none : S / 2 ^ v ≡ 0 = div-eq_of_lt small in
    omega (arith, bit_xor_at S A v)

-- and those that have it 0 are a path from some state.
pub parity_path : (hs : List ℕ) (v : ℕ) (zs : List ℕ) → length zs ≡ v + 1 → parity_bit v (syndromes hs zs) ≡ 0 → (S : ℕ) × (S < 2 ^ v) × ((E : ℕ) × Leads hs S zs E)
parity_path hs v zs long e =
    let A = fed (syndromes hs zs) in
    let S = A % 2 ^ v in
    let b = A / 2 ^ v in
    let E = b / 2 in
    let pos = pow_pos v in
    let small : S < 2 ^ v = mod-lt A pos in
    let parts : bit_xor S A ≡ b * 2 ^ v =
    (λ i. bit_xor (sym (zero-add S) i) (sym (div-add-mod' A (2 ^ v)) i)) ∙ ap (λ (k : ℕ). bit_xor (k + S) (b * 2 ^ v + S)) (sym (zero-mul (2 ^ v))) ∙ xor_block v 0 b S S small small ∙ ap (λ (k : ℕ). b * 2 ^ v + k) (xor_self S) ∙ add-zero _ in
    let even : b ≡ 2 * E = omega arith in
    let up : b * 2 ^ v ≡ 2 ^ length zs * E =
    ap (λ (k : ℕ). k * 2 ^ v) even ∙ mul_comm (2 * E) (2 ^ v) ∙ sym (mul_assoc (2 ^ v) 2 E) ∙ ap (λ (k : ℕ). k * E) (mul_comm (2 ^ v) 2 ∙ sym (double v) ∙ ap (λ (k : ℕ). 2 ^ k) (sym (long ∙ add-one v))) in
    (S, small, (E, equation_path hs S zs E (parts ∙ up)))

-- One of the numbers is exchanged.
pub fed-set : (xs : List ℕ) (i y : ℕ) → i < length xs → fed (set xs i y) ≡ bit_xor (fed xs) (2 ^ i * bit_xor (get_or xs i 0) y)
fed-set [] i y h = absurd (omega arith)
fed-set (x ∷ xs) zero y h =
    let A = 2 * fed xs in
    sym (ap (bit_xor (bit_xor x A)) (one-mul (bit_xor x y)) ∙ ap (λ (k : ℕ). bit_xor k (bit_xor x y)) (xor_comm x A) ∙ xor_swap A x x y
    ∙ ap (λ (k : ℕ). bit_xor (bit_xor A x) k) refl ∙ cancel A x y)
  where
    cancel : (a b c : ℕ) → bit_xor (bit_xor a b) (bit_xor b c) ≡ bit_xor c a
    cancel a b c = xor_assoc a b (bit_xor b c) ∙ ap (bit_xor a) (sym (xor_assoc b b c) ∙ ap (λ (k : ℕ). bit_xor k c) (xor_self b)) ∙ xor_comm a c
fed-set (x ∷ xs) (suc i) y h =
    ap (λ (k : ℕ). bit_xor x (2 * k)) (fed-set xs i y (omega arith))
    ∙ ap (bit_xor x) (sym (xor_double (fed xs) (2 ^ i * bit_xor (get_or xs i 0) y)) ∙ ap (bit_xor (2 * fed xs)) (sym (power_up i (bit_xor (get_or xs i 0) y))))
    ∙ sym (xor_assoc x (2 * fed xs) _)

-- Bit i + e of 2^i times a number is its bit e.
shifted : (i e x : ℕ) → 2 ^ i * x / 2 ^ (i + e) ≡ x / 2 ^ e
shifted i e x = sym (shr-shr (2 ^ i * x) i e) ∙ ap (λ (k : ℕ). k / 2 ^ e) (ap (λ (k : ℕ). k / 2 ^ i) (mul_comm (2 ^ i) x) ∙ shl-shr x i)

pub parity_set : (v i e : ℕ) (xs : List ℕ) (y : ℕ) → i + e ≡ v → i < length xs → parity_bit v (set xs i y) ≡ (parity_bit v xs + bit_xor (get_or xs i 0) y / 2 ^ e % 2) % 2
parity_set v i e xs y is h =
    ap (λ (k : ℕ). k / 2 ^ v % 2) (fed-set xs i y h) ∙ bit_xor_at (fed xs) (2 ^ i * bit_xor (get_or xs i 0) y) v
    ∙ ap (λ (k : ℕ). (parity_bit v xs + k % 2) % 2) (ap (λ (k : ℕ). 2 ^ i * bit_xor (get_or xs i 0) y / 2 ^ k) (sym is) ∙ shifted i e (bit_xor (get_or xs i 0) y))

pub fed-none : (k : ℕ) → fed (replicate k 0) ≡ 0
fed-none zero = refl
fed-none (suc k) = ap (λ (x : ℕ). 2 * x) (fed-none k)

ones-zero : ones 0 ≡ 0
unfolding ones ones_in
ones-zero = refl

ones_bit : (b : ℕ) → b < 2 → ones b ≡ b
ones_bit b small =
    let half : b / 2 ≡ 0 = omega arith in
    let low : b % 2 + 0 ≡ b = omega arith in
    ones_step b ∙ ap (λ (k : ℕ). b % 2 + k) (ap ones half ∙ ones-zero) ∙ low

-- The ones of a number, by its highest bit.
ones_more : (h v : ℕ) → ones (h % 2 ^ suc v) ≡ h / 2 ^ v % 2 + ones (h % 2 ^ v)
ones_more h v =
    let one_more : suc v ≡ 1 + v = omega arith in
    ap ones (ap (λ (k : ℕ). h % 2 ^ k) one_more ∙ mod-pow-add h 1 v) ∙ ones_cat v (h / 2 ^ v % 2) (h % 2 ^ v) (mod-lt h (pow_pos v))
    ∙ ap (λ (k : ℕ). k + ones (h % 2 ^ v)) (ones_bit (h / 2 ^ v % 2) (bit_below (h / 2 ^ v)))

-- The same number at each of v + 1 symbols: the parity of its count of ones.
pub parity_same : (v h : ℕ) → parity_bit v (replicate (suc v) h) ≡ ones (h % 2 ^ suc v) % 2
parity_same zero h =
    ap (λ (k : ℕ). k / 1 % 2) (xor_zero_r h) ∙ plain ∙ ap (λ (k : ℕ). k % 2) (sym (ones_bit (h % 2) (bit_below h)))
  where
    plain : h / 1 % 2 ≡ h % 2 % 2
    plain = omega arith
parity_same (suc v) h =
    let A = fed (replicate (suc v) h) in
    let rest = parity_same v h in
    let down : 2 * A / 2 ^ suc v ≡ A / 2 ^ v = ap (λ (k : ℕ). 2 * A / 2 ^ k) split ∙ shifted 1 v A in
    let more = ones_more h (suc v) in
    bit_xor_at h (2 * A) (suc v) ∙ ap (λ (k : ℕ). (h / 2 ^ suc v % 2 + k % 2) % 2) down ∙ omega arith
  where
    split : suc v ≡ 1 + v
    split = omega arith
