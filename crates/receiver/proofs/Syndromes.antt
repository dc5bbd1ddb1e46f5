-- Which labels enter a state: only z0 and the checked bits matter, and of two labels that differ in z0 one enters.
use Rattle.std.proofs.Common.{◌≡◌, ℕ, zero, suc, ◌+◌, ◌*◌, ◌/◌, ◌%◌, ◌^◌, ◌<◌, ◌≤◌, Bool, true, false, ◌&&◌, eqb, ltb, leb, List, [], ◌∷◌, drop, Some, None, Option, unwrap_or, sym, refl, ap, ◌∙◌, subst, ⊎_elim, one-mul, mul-zero, zero-mul, arith}
use lib.Bits.{bit_xor, xor_assoc, xor_comm}
use Rattle.std.proofs.lemmas.Bool.{and_parts, cases_eq, false≢true, leb-true, lt-leb}
use Rattle.code.specs.declared.record.Code.{Code}
use Rattle.survivors.specs.Rows.{back}
use Rattle.trellis.specs.declared.Numbers.{Numbers}
use Rattle.trellis.specs.Limits.{is_first, is_later, is_due}
use Rattle.trellis.specs.Numbers.{polynomials}
use Rattle.trellis.specs.Parity.{syndrome, Allowed, next_state}
use Rattle.trellis.proofs.Branches.{In, into}
use Rattle.trellis.proofs.Gather.{mod_double, bit_below}
use Rattle.trellis.proofs.Polynomials.{polynomials-below}
use Rattle.trellis.proofs.Sets.{unless-none}
use Rattle.trellis.proofs.Syndromes.{syndrome_at}
use Rattle.trellis.proofs.Turned.{xor-back}
use Rattle.receiver.proofs.Limited.{checked_most, checked_least}

-- All numbers of the list are 0; all from the k-th on are.
abbrev Zeros : List ℕ → Type 0
Zeros [] = Unit {0}
Zeros (p ∷ ps) = (p ≡ 0) × Zeros ps

abbrev ZerosFrom : ℕ → List ℕ → Type 0
ZerosFrom zero ps = Zeros ps
ZerosFrom (suc k) [] = Unit {0}
ZerosFrom (suc k) (p ∷ ps) = ZerosFrom k ps

zeros_nothing : (ps : List ℕ) → Zeros ps → (z : ℕ) → syndrome ps z ≡ 0
zeros_nothing [] a z = refl
zeros_nothing (p ∷ ps) a z = (λ i. bit_xor ((ap (λ (x : ℕ). z % 2 * x) a.0 ∙ mul-zero (z % 2)) i) (zeros_nothing ps a.1 (z / 2) i))

low_bits : (k : ℕ) (ps : List ℕ) → ZerosFrom k ps → (z : ℕ) → syndrome ps (z % 2 ^ k) ≡ syndrome ps z
low_bits zero ps a z = zeros_nothing ps a (z % 1) ∙ sym (zeros_nothing ps a z)
low_bits (suc k) [] a z = refl
low_bits (suc k) (p ∷ ps) a z =
    let is = mod_double z k in
    let small = bit_below z in
    syndrome_at p ps (z % 2 ^ suc k) (z % 2) ((z / 2) % 2 ^ k) (omega arith) (omega arith) ∙ ap (bit_xor (z % 2 * p)) (low_bits k ps a (z / 2))

not_due : (due : Bool) (v : ℕ) (h : Option ℕ) → due ≡ false → is_due due v h ≡ true → unwrap_or h 0 ≡ 0
not_due due v None none e = refl
not_due due v (Some h) none e = absurd (false≢true (sym none ∙ (and_parts due (is_later v h) e).0))

record Parts (n : Numbers) : Type 0 where
  first : is_first n.memory n.h0 ≡ true
  third : is_due (leb 2 n.checked) n.memory n.h2 ≡ true
  fourth : is_due (leb 3 n.checked) n.memory n.h3 ≡ true

parts : (k : Code) → Parts k.numbers
parts k =
    let n = k.numbers in
    let v = n.memory in
    let a = unless-none (is_first v n.h0) 6 _ (omega arith) k.polynomials in
    let b = unless-none (is_later v n.h1) 7 _ (omega arith) a.1 in
    let c = unless-none (is_due (leb 2 n.checked) v n.h2) 8 _ (omega arith) b.1 in
    let d = unless-none (is_due (leb 3 n.checked) v n.h3) 9 _ (omega arith) c.1 in
    record { first = a.0; third = c.0; fourth = d.0 }

unchecked : (k : Code) → ZerosFrom (k.numbers.checked + 1) (polynomials k.numbers)
unchecked k =
    let n = k.numbers in
    let c = n.checked in
    let P : ℕ → Type 0 = λ j. ZerosFrom j (polynomials n) in
    let none : (h : Option ℕ) (j : ℕ) → is_due (leb j c) n.memory h ≡ true → c < j → unwrap_or h 0 ≡ 0 = λ h j due less. not_due (leb j c) n.memory h (lt-leb j c less) due in
    let least = checked_least k in
    let most = checked_most k in
    ⊎_elim (λ (e : c ≡ 1). let is : 2 ≡ c + 1 = omega arith in subst P is (none n.h2 2 (parts k).third (omega arith), (none n.h3 3 (parts k).fourth (omega arith), tt)))
    (λ (e : c ≡ 1 → ⊥).
    ⊎_elim (λ (f : c ≡ 2). let is : 3 ≡ c + 1 = omega arith in subst P is (none n.h3 3 (parts k).fourth (omega arith), tt))
    (λ (f : c ≡ 2 → ⊥). let is : 4 ≡ c + 1 = omega arith in subst P is tt) (cases_eq c 2))
    (cases_eq c 1)

-- The state before a label depends on its group only.
pub back_group : (k : Code) (E z : ℕ) → back k.numbers E (z % 2 ^ (k.numbers.checked + 1)) ≡ back k.numbers E z
back_group k E z = ap (bit_xor (2 * E)) (low_bits (k.numbers.checked + 1) (polynomials k.numbers) (unchecked k) z)

syndrome_odd : (h : ℕ) (hs : List ℕ) (u : ℕ) → syndrome (h ∷ hs) (2 * u + 1) ≡ bit_xor (syndrome (h ∷ hs) (2 * u)) h
syndrome_odd h hs u =
    let odd = syndrome_at h hs (2 * u + 1) 1 u (omega arith) (omega arith) ∙ ap (λ (x : ℕ). bit_xor x (syndrome hs u)) (one-mul h) in
    let even = syndrome_at h hs (2 * u) 0 u (omega arith) (omega arith) ∙ ap (λ (x : ℕ). bit_xor x (syndrome hs u)) (zero-mul h) in
    odd ∙ xor_comm h (syndrome hs u) ∙ ap (λ (x : ℕ). bit_xor x h) (sym even)

pub back_odd : (n : Numbers) (E u : ℕ) → back n E (2 * u + 1) ≡ bit_xor (back n E (2 * u)) n.h0
back_odd n E u = ap (bit_xor (2 * E)) (syndrome_odd n.h0 (drop 1 (polynomials n)) u) ∙ sym (xor_assoc (2 * E) (syndrome (polynomials n) (2 * u)) n.h0)

branch : (k : Code) (E u : ℕ) → E < 2 ^ k.numbers.memory → In (polynomials k.numbers) k.numbers.memory E u
branch k E u small =
    let n = k.numbers in
    let v = n.memory in
    let first = and_parts (eqb (n.h0 % 2) 1) (leb (2 ^ v) n.h0 && ltb n.h0 (2 ^ (v + 1))) (parts k).first in
    let top = leb-true (2 ^ v) n.h0 (and_parts (leb (2 ^ v) n.h0) (ltb n.h0 (2 ^ (v + 1))) first.1).0 in
    into n.h0 _ v top (polynomials-below n k.polynomials) E u small

-- Of the labels y with y / 2 the same, only one enters a state.
pub enters_sole : (k : Code) (E u x y : ℕ) → E < 2 ^ k.numbers.memory → x / 2 ≡ u → y / 2 ≡ u → back k.numbers E x < 2 ^ k.numbers.memory → back k.numbers E y < 2 ^ k.numbers.memory → x ≡ y
enters_sole k E u x y small of-x of-y from-x from-y =
    let hs = polynomials k.numbers in
    let again : (z : ℕ) → bit_xor (back k.numbers E z) (syndrome hs z) ≡ 2 * E = λ z. xor-back (2 * E) (syndrome hs z) in
    let allowed : (z : ℕ) → Allowed hs (back k.numbers E z) z = λ z. ap (λ (j : ℕ). j % 2) (again z) ∙ omega arith in
    let next : (z : ℕ) → next_state hs (back k.numbers E z) z ≡ E = λ z. ap (λ (j : ℕ). j / 2) (again z) ∙ omega arith in
    let only = (branch k E u small).sole in
    only x _ of-x from-x (allowed x) (next x) ∙ sym (only y _ of-y from-y (allowed y) (next y))

-- And one does: the odd one where the even one does not.
pub odd_enters : (k : Code) (E u : ℕ) → E < 2 ^ k.numbers.memory → 2 ^ k.numbers.memory ≤ back k.numbers E (2 * u) → back k.numbers E (2 * u + 1) < 2 ^ k.numbers.memory
odd_enters k E u small past =
    let n = k.numbers in
    let hs = polynomials n in
    let b = branch k E u small in
    let half = b.above in
    let sum : bit_xor b.before (syndrome hs b.label) ≡ 2 * E = let even = b.allowed in let after = b.after in omega arith in
    let was : b.before ≡ back n E b.label = sym (xor-back b.before (syndrome hs b.label)) ∙ ap (λ (x : ℕ). bit_xor x (syndrome hs b.label)) sum in
    let low : back n E b.label < 2 ^ n.memory = subst (λ (x : ℕ). x < 2 ^ n.memory) was b.state in
    ⊎_elim (λ (e : b.label ≡ 2 * u). absurd (let same = ap (back n E) e in omega arith))
    (λ (e : b.label ≡ 2 * u → ⊥). let odd : b.label ≡ 2 * u + 1 = omega arith in subst (λ (x : ℕ). back n E x < 2 ^ n.memory) odd low)
    (cases_eq b.label (2 * u))
