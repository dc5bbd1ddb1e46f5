-- The polynomials of an accepted code are below 2^(v+1), and so are its syndromes.
use Rattle.std.proofs.Common.{◌≡◌, ℕ, ◌+◌, ◌*◌, ◌/◌, ◌%◌, ◌^◌, ◌<◌, ◌≤◌, Bool, true, ◌&&◌, eqb, ltb, leb, List, [], ◌∷◌, Some, None, Option, unwrap_or, arith, pow_pos}
use native.Mathlib.Nat.{pow-le-pow_right}
use lib.Bits.{xor_lt}
use Rattle.std.proofs.lemmas.Bool.{and_parts, ltb-true, leb-true}
use Rattle.trellis.specs.declared.Numbers.{Numbers}
use Rattle.trellis.specs.Limits.{is_first, is_later, is_due, polynomial_fault, limit_fault}
use Rattle.trellis.specs.Numbers.{polynomials}
use Rattle.trellis.specs.Parity.{syndrome}
use Rattle.trellis.proofs.Gather.{bit_below, mul-below}
use Rattle.trellis.proofs.Sets.{within, unless-none}

-- each number of the list is below 2^k
abbrev pub AllBelow : ℕ → List ℕ → Type 0
AllBelow k [] = Unit {0}
AllBelow k (h ∷ hs) = (h < 2 ^ k) × AllBelow k hs

pub syndrome-below : (k : ℕ) (hs : List ℕ) → AllBelow k hs → (z : ℕ) → syndrome hs z < 2 ^ k
syndrome-below k [] a z = pow_pos k
syndrome-below k (h ∷ hs) a z =
    let first = a.0 in
    xor_lt k (z % 2 * h) (syndrome hs (z / 2)) (omega (arith, mul-below (z % 2) h (bit_below z))) (syndrome-below k hs a.1 (z / 2))

due_below : (due : Bool) (v : ℕ) (h : Option ℕ) → is_due due v h ≡ true → unwrap_or h 0 < 2 ^ (v + 1)
due_below due v None e = pow_pos (v + 1)
due_below due v (Some h) e = ltb-true _ _ (and_parts (leb 1 h) (ltb h (2 ^ (v + 1))) (and_parts due (is_later v h) e).1).1

pub polynomials-below : (n : Numbers) → polynomial_fault n ≡ 0 → AllBelow (n.memory + 1) (polynomials n)
polynomials-below n e =
    let v = n.memory in
    let a = unless-none (is_first v n.h0) 6 _ (omega arith) e in
    let b = unless-none (is_later v n.h1) 7 _ (omega arith) a.1 in
    let c = unless-none (is_due (leb 2 n.checked) v n.h2) 8 _ (omega arith) b.1 in
    let d = unless-none (is_due (leb 3 n.checked) v n.h3) 9 _ (omega arith) c.1 in
    let first = and_parts (eqb (n.h0 % 2) 1) (leb (2 ^ v) n.h0 && ltb n.h0 (2 ^ (v + 1))) a.0 in (
      ltb-true _ _ (and_parts (leb (2 ^ v) n.h0) (ltb n.h0 (2 ^ (v + 1))) first.1).1,
      (ltb-true _ _ (and_parts (leb 1 n.h1) (ltb n.h1 (2 ^ (v + 1))) b.0).1, (due_below _ v n.h2 c.0, (due_below _ v n.h3 d.0, tt))),
    )

pub memory_bound : (n : Numbers) → limit_fault n ≡ 0 → n.memory ≤ 8
memory_bound n e = leb-true _ _ (and_parts _ _ (within n e).memory).1

-- the syndrome of a code has at most nine bits
pub syndrome_nine : (n : Numbers) → limit_fault n ≡ 0 → polynomial_fault n ≡ 0 → (z : ℕ) → syndrome (polynomials n) z < 2 ^ 9
syndrome_nine n limits polys z =
    let few = memory_bound n limits in
    let up : 2 ^ (n.memory + 1) ≤ 2 ^ 9 = pow-le-pow_right {n = 2} (omega arith) {i = n.memory + 1} {j = 9} (omega arith) in
    omega (arith, syndrome-below (n.memory + 1) (polynomials n) (polynomials-below n polys) z)
