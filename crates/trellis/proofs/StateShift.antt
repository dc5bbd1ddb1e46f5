-- A polynomial that is added to every syndrome of a path shifts its states by one constant.
use Rattle.std.proofs.Common.{◌≡◌, ℕ, zero, suc, ◌+◌, ◌*◌, ◌/◌, ◌%◌, ◌^◌, ◌<◌, List, [], ◌∷◌, map, sym, refl, ap, ◌∙◌, subst, arith}
use lib.Bits.{bit_xor, xor_comm, xor_lt, xor_shr}
use lib.Count.{ones, ones_in, ones_step}
use Rattle.trellis.specs.Parity.{syndrome, next_state}
use Rattle.trellis.specs.Path.{Leads}
use Rattle.trellis.proofs.Gather.{double, xor_swap}
use Rattle.trellis.proofs.OneLabel.{xor_parity}
use Rattle.trellis.proofs.ParityEquation.{xor_even}

-- Bit i is the exclusive or of the bits of x from i on, for x of at most k bits.
abbrev pub sums : ℕ → ℕ → ℕ
sums zero x = 0
sums (suc k) x = bit_xor x (sums k (x / 2))

pub sums-below : (j k x : ℕ) → x < 2 ^ j → sums k x < 2 ^ j
sums-below j zero x h = omega arith
sums-below j (suc k) x h = xor_lt j x (sums k (x / 2)) h (sums-below j k (x / 2) (omega arith))

sums_more : (k x : ℕ) → x < 2 ^ k → sums (suc k) x ≡ sums k x
sums_more zero x h = let none : x ≡ 0 = omega arith in ap (λ (y : ℕ). bit_xor y 0) none
sums_more (suc k) x h = let twice = double k in ap (bit_xor x) (sums_more k (x / 2) (omega arith))

sums_half : (k x : ℕ) → sums k x / 2 ≡ sums k (x / 2)
sums_half zero x = refl
sums_half (suc k) x = xor_shr x (sums k (x / 2)) 1 ∙ ap (bit_xor (x / 2)) (sums_half k (x / 2))

ones_none : ones 0 ≡ 0
unfolding ones ones_in
ones_none = refl

sums_parity : (k x : ℕ) → x < 2 ^ k → sums k x % 2 ≡ ones x % 2
sums_parity zero x h = let none : x ≡ 0 = omega arith in sym (ap (λ (y : ℕ). y % 2) (ap ones none ∙ ones_none))
sums_parity (suc k) x h =
    let twice = double k in
    let rest = sums_parity k (x / 2) (omega arith) in
    let step = ones_step x in
    xor_parity x (sums k (x / 2)) ∙ omega arith

-- The constant by which a polynomial h of at most k bits shifts the states.
abbrev pub shift : ℕ → ℕ → ℕ
shift k h = sums k (h / 2)

pub shift_is : (k h : ℕ) → h < 2 ^ k → bit_xor (shift k h) h ≡ 2 * shift k h + ones h % 2
shift_is k h small =
    let whole : bit_xor (shift k h) h ≡ sums k h = xor_comm (shift k h) h ∙ sums_more k h small in
    let half = sums_half k h in
    let low = sums_parity k h small in
    whole ∙ omega arith

-- All labels below a bound.
abbrev pub Bounded : ℕ → List ℕ → Type 0
Bounded b [] = Unit {0}
Bounded b (z ∷ zs) = (z < b) × Bounded b zs

-- A path whose labels change so that h is added to each syndrome is a path still, from and to states shifted by K.
pub leads_shifted : (hs : List ℕ) (K h b : ℕ) (f : ℕ → ℕ) → bit_xor K h ≡ 2 * K → ((z : ℕ) → z < b → syndrome hs (f z) ≡ bit_xor (syndrome hs z) h) → (S : ℕ) (zs : List ℕ) (E : ℕ) → Bounded b zs → Leads hs S zs E → Leads hs (bit_xor S K) (map f zs) (bit_xor E K)
leads_shifted hs K h b f shifts adds S [] E below p = ap (λ (x : ℕ). bit_xor x K) p
leads_shifted hs K h b f shifts adds S (z ∷ zs) E below p =
    let x = syndrome hs z in
    let X = bit_xor S x in
    let moved : bit_xor (bit_xor S K) (syndrome hs (f z)) ≡ 2 * bit_xor (X / 2) K =
    ap (bit_xor (bit_xor S K)) (adds z below.0) ∙ xor_swap S K x h ∙ ap (bit_xor X) shifts ∙ xor_even X K p.0 in
    let next : next_state hs (bit_xor S K) (f z) ≡ bit_xor (X / 2) K = ap (λ (y : ℕ). y / 2) moved ∙ omega arith in
    let even : bit_xor (bit_xor S K) (syndrome hs (f z)) % 2 ≡ 0 = ap (λ (y : ℕ). y % 2) moved ∙ omega arith in
    (even, subst (λ (y : ℕ). Leads hs y (map f zs) (bit_xor E K)) (sym next) (leads_shifted hs K h b f shifts adds (X / 2) zs E below.1 p.1))
