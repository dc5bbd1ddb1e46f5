-- The branches of the trellis: one state before a label and the state after it, and as many labels out of and into each
-- state as there are data words.
use Rattle.std.proofs.Common.{◌≡◌, ℕ, ◌+◌, ◌*◌, ◌/◌, ◌%◌, ◌^◌, ◌<◌, ◌≤◌, List, ◌∷◌, length, sym, refl, ap, ◌∙◌, ⊎_elim, one-mul, zero-mul, add-one, arith, pow_pos}
use native.Mathlib.Nat.{div-eq_of_lt, zero-div}
use lib.Bits.{bit_xor, xor_lt}
use Rattle.std.proofs.lemmas.Nat.{div_below, le-div}
use Rattle.std.proofs.lemmas.Bool.{cases_eq, cases_lt}
use Rattle.trellis.specs.Parity.{syndrome, Allowed, next_state}
use Rattle.trellis.specs.Path.{Leads}
use Rattle.trellis.proofs.Gather.{double, bit_below}
use Rattle.trellis.proofs.OneLabel.{parity_of}
use Rattle.trellis.proofs.ParityEquation.{fed, syndromes, path_equation, bit_xor_at}
use Rattle.trellis.proofs.Polynomials.{AllBelow, syndrome-below}
use Rattle.trellis.proofs.Syndromes.{syndrome_at}
use Rattle.trellis.proofs.Turned.{xor-back}

same_back : (S S' x y : ℕ) → bit_xor S x ≡ y → bit_xor S' x ≡ y → S ≡ S'
same_back S S' x y e e' = sym (xor-back S x) ∙ ap (λ (k : ℕ). bit_xor k x) (e ∙ sym e') ∙ xor-back S' x

-- From an end state and a label there is at most one state before.
pub before_sole : (hs : List ℕ) (S S' z : ℕ) → Allowed hs S z → Allowed hs S' z → next_state hs S z ≡ next_state hs S' z → S ≡ S'
before_sole hs S S' z a a' e = let same : bit_xor S (syndrome hs z) ≡ bit_xor S' (syndrome hs z) = omega arith in same_back S S' (syndrome hs z) _ same refl

-- The end state and the labels fix the whole path.
pub start_sole : (hs : List ℕ) (S S' : ℕ) (zs : List ℕ) (E : ℕ) → Leads hs S zs E → Leads hs S' zs E → S ≡ S'
start_sole hs S S' zs E p p' = same_back S S' (fed (syndromes hs zs)) (2 ^ length zs * E) (path_equation hs S zs E p) (path_equation hs S' zs E p')

-- For each choice u of the label bits above the parity bit there is exactly one label out of each state.
pub record Out (hs : List ℕ) (S u : ℕ) : Type 0 where
  pub label : ℕ
  pub above : label / 2 ≡ u
  pub allowed : Allowed hs S label
  pub sole : (y : ℕ) → y / 2 ≡ u → Allowed hs S y → y ≡ label

pub out : (h : ℕ) (hs : List ℕ) → h % 2 ≡ 1 → (S u : ℕ) → Out (h ∷ hs) S u
out h hs odd S u =
    let x = 2 * u in
    let even : x % 2 ≡ 0 = omega arith in
    let X = bit_xor S (syndrome (h ∷ hs) x) in
    let small = bit_below X in
    record {
      label = x + X % 2;
      above = omega arith;
      allowed = parity_of h hs odd S x (X % 2) even small ∙ omega arith;
      sole = λ y is ok.
          let b = bit_below y in
          let whole : y ≡ x + y % 2 = omega arith in
          let parity = parity_of h hs odd S x (y % 2) even b in
          let none : bit_xor S (syndrome (h ∷ hs) (x + y % 2)) % 2 ≡ 0 = ap (λ (k : ℕ). bit_xor S (syndrome (h ∷ hs) k) % 2) (sym whole) ∙ ok in
          omega arith;
    }

-- And exactly one label into each state E from a state of the trellis.
pub record In (hs : List ℕ) (v E u : ℕ) : Type 0 where
  pub label : ℕ
  pub above : label / 2 ≡ u
  pub before : ℕ
  pub state : before < 2 ^ v
  pub allowed : Allowed hs before label
  pub after : next_state hs before label ≡ E
  pub sole : (y S : ℕ) → y / 2 ≡ u → S < 2 ^ v → Allowed hs S y → next_state hs S y ≡ E → y ≡ label

-- a number of v + 1 bits is below 2^v where its highest bit is 0
low_part : (b v : ℕ) → b < 2 ^ (v + 1) → b / 2 ^ v % 2 ≡ 0 → b < 2 ^ v
low_part b v h e =
    let twice : 2 ^ (v + 1) ≡ 2 * 2 ^ v = ap (λ (k : ℕ). 2 ^ k) (add-one v) ∙ double v in
    let few : b / 2 ^ v < 2 = div_below b (2 ^ v) 2 (pow_pos v) (omega arith) in
    let none : b / 2 ^ v ≡ 0 = omega arith in
    ⊎_elim (λ (l : b < 2 ^ v). l) (λ (g : 2 ^ v ≤ b). absurd (omega (arith, le-div 1 b (2 ^ v) (pow_pos v) (omega arith)))) (cases_lt b (2 ^ v))

pub into : (h : ℕ) (hs : List ℕ) (v : ℕ) → 2 ^ v ≤ h → AllBelow (v + 1) (h ∷ hs) → (E u : ℕ) → E < 2 ^ v → In (h ∷ hs) v E u
into h hs v top below E u small =
    let twice : 2 ^ (v + 1) ≡ 2 * 2 ^ v = ap (λ (k : ℕ). 2 ^ k) (add-one v) ∙ double v in
    let Y = syndrome hs u in
    -- bit v of a number
    let pos = pow_pos v in
    let h-small = below.0 in
    let h-few : h / 2 ^ v < 2 = div_below h (2 ^ v) 2 pos (omega arith) in
    let h-some : 1 ≤ h / 2 ^ v = le-div 1 h (2 ^ v) pos (omega arith) in
    let h-top : h / 2 ^ v % 2 ≡ 1 = omega arith in
    let feeds : (b : ℕ) → b < 2 → syndrome (h ∷ hs) (2 * u + b) ≡ bit_xor (b * h) Y = λ b s. syndrome_at h hs (2 * u + b) b u (omega arith) (omega arith) in
    let bit-of : (b : ℕ) → b < 2 → b * h / 2 ^ v % 2 ≡ b =
    λ b s. ⊎_elim (λ (e : b ≡ 0). rw e (ap (λ (k : ℕ). k / 2 ^ v % 2) (zero-mul h) ∙ ap (λ (k : ℕ). k % 2) (zero-div (2 ^ v)))) (λ (e : b ≡ 0 → ⊥). let one : b ≡ 1 = omega arith in rw one (ap (λ (k : ℕ). k / 2 ^ v % 2) (one-mul h) ∙ h-top)) (cases_eq b 0) in
    let top_of : (b : ℕ) → b < 2 → bit_xor (2 * E) (syndrome (h ∷ hs) (2 * u + b)) / 2 ^ v % 2 ≡ (2 * E / 2 ^ v % 2 + (b + Y / 2 ^ v % 2) % 2) % 2 =
    λ b s. bit_xor_at (2 * E) (syndrome (h ∷ hs) (2 * u + b)) v ∙ ap (λ (k : ℕ). (2 * E / 2 ^ v % 2 + k) % 2) (ap (λ (k : ℕ). k / 2 ^ v % 2) (feeds b s) ∙ bit_xor_at (b * h) Y v ∙ ap (λ (k : ℕ). (k + Y / 2 ^ v % 2) % 2) (bit-of b s)) in
    let c = (2 * E / 2 ^ v % 2 + Y / 2 ^ v % 2) % 2 in
    let c-small : c < 2 = bit_below (2 * E / 2 ^ v % 2 + Y / 2 ^ v % 2) in
    let z = 2 * u + c in
    let B = bit_xor (2 * E) (syndrome (h ∷ hs) z) in
    let fits : B < 2 ^ (v + 1) = xor_lt (v + 1) (2 * E) (syndrome (h ∷ hs) z) (omega arith) (syndrome-below (v + 1) (h ∷ hs) below z) in
    let back : bit_xor B (syndrome (h ∷ hs) z) ≡ 2 * E = xor-back (2 * E) (syndrome (h ∷ hs) z) in
    record {
      label = z;
      above = omega arith;
      before = B;
      state = low_part B v fits (top_of c c-small ∙ omega arith);
      allowed = ap (λ (k : ℕ). k % 2) back ∙ omega arith;
      after = ap (λ (k : ℕ). k / 2) back ∙ omega arith;
      sole = λ y S is s ok next.
          let b = bit_below y in
          let whole : y ≡ 2 * u + y % 2 = omega arith in
          let sum : bit_xor S (syndrome (h ∷ hs) y) ≡ 2 * E = omega arith in
          let was : S ≡ bit_xor (2 * E) (syndrome (h ∷ hs) (2 * u + y % 2)) = sym (xor-back S (syndrome (h ∷ hs) y)) ∙ ap (λ (k : ℕ). bit_xor k (syndrome (h ∷ hs) y)) sum ∙ ap (λ (k : ℕ). bit_xor (2 * E) (syndrome (h ∷ hs) k)) whole in
          let none : S / 2 ^ v ≡ 0 = div-eq_of_lt s in
          let bit = sym (ap (λ (k : ℕ). k / 2 ^ v % 2) was) ∙ ap (λ (k : ℕ). k % 2) none in
          omega (arith, top_of (y % 2) b, bit);
    }
