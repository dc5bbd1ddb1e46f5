-- Laws of the syndrome: of numbers that are split, and of a label whose marked bits are replaced.
use Rattle.std.proofs.Common.{◌≡◌, ℕ, zero, suc, ◌+◌, ◌*◌, ◌/◌, ◌%◌, ◌^◌, ◌<◌, ◌≤◌, Bool, true, false, cond, List, [], ◌∷◌, length, get_or, sym, refl, ap, ◌∙◌, ⊎_elim, add-zero, mul_assoc, one-mul, zero-mul, arith}
use lib.Bits.{bit_xor, xor_comm, xor_assoc, xor_zero_r, xor_self}
use Rattle.std.proofs.lemmas.Bool.{cases_Bool, cases_eq, cond-true, cond-false}
use Rattle.trellis.specs.declared.Row.{Row}
use Rattle.trellis.specs.Label.{gather, put, Agree}
use Rattle.trellis.specs.Parity.{syndrome}
use Rattle.trellis.proofs.Gather.{count, low_bit, high_bits, double, bit_below, mod_double, gather-put, put_marked, put_other, put-below}
use Rattle.trellis.proofs.OneLabel.{agree-put, put_sole}

pub syndrome-zero : (ps : List ℕ) → syndrome ps 0 ≡ 0
syndrome-zero [] = refl
syndrome-zero (p ∷ ps) = (λ i. bit_xor (zero-mul p i) (syndrome ps 0)) ∙ syndrome-zero ps

-- a number by its lowest bit and the rest
pub syndrome_at : (p : ℕ) (ps : List ℕ) (t b x : ℕ) → t % 2 ≡ b → t / 2 ≡ x → syndrome (p ∷ ps) t ≡ bit_xor (b * p) (syndrome ps x)
syndrome_at p ps t b x low high = λ i. bit_xor (low i * p) (syndrome ps (high i))

-- only as many bits matter as there are polynomials
pub syndrome_low : (ps : List ℕ) (k t : ℕ) → length ps ≤ k → syndrome ps (t % 2 ^ k) ≡ syndrome ps t
syndrome_low [] k t h = refl
syndrome_low (p ∷ ps) zero t h = absurd (omega arith)
syndrome_low (p ∷ ps) (suc k) t h =
    let is = mod_double t k in
    let small = bit_below t in
    syndrome_at p ps (t % 2 ^ suc k) (t % 2) ((t / 2) % 2 ^ k) (omega arith) (omega arith)
    ∙ ap (bit_xor (t % 2 * p)) (syndrome_low ps k (t / 2) (omega arith))

-- the highest bit that matters
pub syndrome_top : (p : ℕ) (ps : List ℕ) (t : ℕ) → syndrome (p ∷ ps) (t + 2 ^ length ps) ≡ bit_xor (syndrome (p ∷ ps) t) (get_or (p ∷ ps) (length ps) 0)
syndrome_top p [] t =
    xor_zero_r _ ∙ flip ∙ ap (λ (x : ℕ). bit_xor x p) (sym (xor_zero_r (t % 2 * p)))
  where
    flip : (t + 1) % 2 * p ≡ bit_xor (t % 2 * p) p
    flip =
        ⊎_elim
        (λ (e : t % 2 ≡ 0). let other : (t + 1) % 2 ≡ 1 = omega arith in ap (λ (x : ℕ). x * p) other ∙ one-mul p ∙ sym (ap (λ (x : ℕ). bit_xor (x * p) p) e ∙ ap (λ (x : ℕ). bit_xor x p) (zero-mul p)))
        (λ (e : t % 2 ≡ 0 → ⊥).
        let one : t % 2 ≡ 1 = omega arith in
        let other : (t + 1) % 2 ≡ 0 = omega arith in
        ap (λ (x : ℕ). x * p) other ∙ zero-mul p ∙ sym (ap (λ (x : ℕ). bit_xor (x * p) p) one ∙ ap (λ (x : ℕ). bit_xor x p) (one-mul p) ∙ xor_self p))
        (cases_eq (t % 2) 0)
syndrome_top p (q ∷ ps) t =
    let twice = double (length ps) in
    syndrome_at p (q ∷ ps) (t + 2 ^ suc (length ps)) (t % 2) (t / 2 + 2 ^ length ps) (omega arith) (omega arith)
    ∙ ap (bit_xor (t % 2 * p)) (syndrome_top q ps (t / 2)) ∙ sym (xor_assoc (t % 2 * p) (syndrome (q ∷ ps) (t / 2)) (get_or (q ∷ ps) (length ps) 0))

-- a number whose upper and lower bits are taken apart
pub syndrome_split : (ps : List ℕ) (e a y : ℕ) → y < 2 ^ e → syndrome ps (2 ^ e * a + y) ≡ bit_xor (syndrome ps (2 ^ e * a)) (syndrome ps y)
syndrome_split [] e a y h = refl
syndrome_split (p ∷ ps) zero a y h =
    let none : y ≡ 0 = omega arith in
    ap (λ (x : ℕ). syndrome (p ∷ ps) (1 * a + x)) none ∙ ap (syndrome (p ∷ ps)) (add-zero (1 * a))
    ∙ sym (xor_zero_r _) ∙ ap (bit_xor (syndrome (p ∷ ps) (1 * a))) (sym (syndrome-zero (p ∷ ps)) ∙ ap (syndrome (p ∷ ps)) (sym none))
syndrome_split (p ∷ ps) (suc e) a y h =
    let up : 2 ^ suc e * a ≡ 2 * (2 ^ e * a) = ap (λ (x : ℕ). x * a) (double e) ∙ mul_assoc 2 (2 ^ e) a in
    let twice = double e in
    let rest = syndrome_split ps e a (y / 2) (omega arith) in
    syndrome_at p ps (2 ^ suc e * a + y) (y % 2) (2 ^ e * a + y / 2) (omega arith) (omega arith)
    ∙ ap (bit_xor (y % 2 * p)) rest
    ∙ sym (xor_assoc (y % 2 * p) _ _) ∙ ap (λ (x : ℕ). bit_xor x (syndrome ps (y / 2))) (xor_comm (y % 2 * p) (syndrome ps (2 ^ e * a))) ∙ xor_assoc _ (y % 2 * p) _
    ∙ ap (λ (x : ℕ). bit_xor x (syndrome (p ∷ ps) y))
    (sym (syndrome_at p ps (2 ^ suc e * a) 0 (2 ^ e * a) (omega arith) (omega arith) ∙ ap (λ (x : ℕ). bit_xor x (syndrome ps (2 ^ e * a))) (zero-mul p)))

-- a single bit
pub syndrome_single : (ps : List ℕ) (j : ℕ) → syndrome ps (2 ^ j) ≡ get_or ps j 0
syndrome_single [] zero = refl
syndrome_single [] (suc j) = refl
syndrome_single (p ∷ ps) zero =
    syndrome_at p ps 1 1 0 refl refl ∙ (λ i. bit_xor (one-mul p i) (syndrome-zero ps i)) ∙ xor_zero_r p
syndrome_single (p ∷ ps) (suc j) =
    let twice = double j in
    syndrome_at p ps (2 ^ suc j) 0 (2 ^ j) (omega arith) (omega arith) ∙ ap (λ (x : ℕ). bit_xor x (syndrome ps (2 ^ j))) (zero-mul p) ∙ syndrome_single ps j

-- The polynomials of the marked bits, in order.
abbrev pub marks : (Row → Bool) → List Row → List ℕ → List ℕ
marks marked [] hs = []
marks marked (r ∷ rs) [] = []
marks marked (r ∷ rs) (h ∷ hs) = cond (marked r) (h ∷ marks marked rs hs) (marks marked rs hs)

pub marks-none : (marked : Row → Bool) (rs : List Row) → marks marked rs [] ≡ []
marks-none marked [] = refl
marks-none marked (r ∷ rs) = refl

-- The marked bits add their own syndrome to that of the others.
pub syndrome-put : (marked : Row → Bool) (rs : List Row) (hs : List ℕ) (t z : ℕ) → length hs ≤ length rs → syndrome hs (put marked rs t z) ≡ bit_xor (syndrome hs (put marked rs 0 z)) (syndrome (marks marked rs hs) t)
syndrome-put marked rs [] t z h = sym (ap (λ (ps : List ℕ). syndrome ps t) (marks-none marked rs))
syndrome-put marked [] (p ∷ hs) t z h = absurd (omega arith)
syndrome-put marked (r ∷ rs) (p ∷ hs) t z h =
    ⊎_elim
    (λ m.
    let one = put marked rs (t / 2) (z / 2) in
    let none = put marked rs 0 (z / 2) in
    let qs = marks marked rs hs in
    let left : syndrome (p ∷ hs) (put marked (r ∷ rs) t z) ≡ bit_xor (t % 2 * p) (syndrome hs one) =
    ap (syndrome (p ∷ hs)) (put_marked marked r rs t z m) ∙ syndrome_at p hs (t % 2 + 2 * one) (t % 2) one (low_bit (t % 2) one (bit_below t)) (high_bits (t % 2) one (bit_below t)) in
    let right : syndrome (p ∷ hs) (put marked (r ∷ rs) 0 z) ≡ syndrome hs none =
    ap (syndrome (p ∷ hs)) (put_marked marked r rs 0 z m) ∙ syndrome_at p hs (0 + 2 * none) 0 none (omega arith) (omega arith) ∙ ap (λ (x : ℕ). bit_xor x (syndrome hs none)) (zero-mul p) in
    let more : syndrome (marks marked (r ∷ rs) (p ∷ hs)) t ≡ bit_xor (t % 2 * p) (syndrome qs (t / 2)) = ap (λ (ps : List ℕ). syndrome ps t) (cond-true (marked r) (p ∷ qs) qs m) in
    left ∙ ap (bit_xor (t % 2 * p)) (syndrome-put marked rs hs (t / 2) (z / 2) (omega arith))
    ∙ sym (xor_assoc (t % 2 * p) _ _) ∙ ap (λ (x : ℕ). bit_xor x (syndrome qs (t / 2))) (xor_comm (t % 2 * p) (syndrome hs none)) ∙ xor_assoc (syndrome hs none) (t % 2 * p) _
    ∙ (λ i. bit_xor (sym right i) (sym more i)))
    (λ m.
    let one = put marked rs t (z / 2) in
    let none = put marked rs 0 (z / 2) in
    let qs = marks marked rs hs in
    let here : (u x : ℕ) → x ≡ put marked rs u (z / 2) → syndrome (p ∷ hs) (put marked (r ∷ rs) u z) ≡ bit_xor (z % 2 * p) (syndrome hs x) =
    λ u x e. ap (syndrome (p ∷ hs)) (put_other marked r rs u z m)
    ∙ syndrome_at p hs (z % 2 + 2 * put marked rs u (z / 2)) (z % 2) x (low_bit (z % 2) _ (bit_below z)) (high_bits (z % 2) (put marked rs u (z / 2)) (bit_below z) ∙ sym e) in
    let more : syndrome (marks marked (r ∷ rs) (p ∷ hs)) t ≡ syndrome qs t = ap (λ (ps : List ℕ). syndrome ps t) (cond-false (marked r) (p ∷ qs) qs m) in
    here t one refl ∙ ap (bit_xor (z % 2 * p)) (syndrome-put marked rs hs t (z / 2) (omega arith))
    ∙ sym (xor_assoc (z % 2 * p) (syndrome hs none) (syndrome qs t))
    ∙ (λ i. bit_xor (sym (here 0 none refl) i) (sym more i)))
    (cases_Bool (marked r))

-- What is put last counts.
pub put-put : (marked : Row → Bool) (rs : List Row) (t u z : ℕ) → put marked rs t (put marked rs u z) ≡ put marked rs t z
put-put marked [] t u z = refl
put-put marked (r ∷ rs) t u z =
    ⊎_elim
    (λ m.
    let x = put marked rs (u / 2) (z / 2) in
    let half : put marked (r ∷ rs) u z / 2 ≡ x = ap (λ (y : ℕ). y / 2) (put_marked marked r rs u z m) ∙ high_bits (u % 2) x (bit_below u) in
    put_marked marked r rs t (put marked (r ∷ rs) u z) m ∙ ap (λ (y : ℕ). t % 2 + 2 * put marked rs (t / 2) y) half
    ∙ ap (λ (y : ℕ). t % 2 + 2 * y) (put-put marked rs (t / 2) (u / 2) (z / 2)) ∙ sym (put_marked marked r rs t z m))
    (λ m.
    let x = put marked rs u (z / 2) in
    let half : put marked (r ∷ rs) u z / 2 ≡ x = ap (λ (y : ℕ). y / 2) (put_other marked r rs u z m) ∙ high_bits (z % 2) x (bit_below z) in
    let low : put marked (r ∷ rs) u z % 2 ≡ z % 2 = ap (λ (y : ℕ). y % 2) (put_other marked r rs u z m) ∙ low_bit (z % 2) x (bit_below z) in
    put_other marked r rs t (put marked (r ∷ rs) u z) m ∙ (λ i. low i + 2 * put marked rs t (half i))
    ∙ ap (λ (y : ℕ). z % 2 + 2 * y) (put-put marked rs t u (z / 2)) ∙ sym (put_other marked r rs t z m))
    (cases_Bool (marked r))

agree_self : (marked : Row → Bool) (rs : List Row) (z : ℕ) → Agree marked rs z z
agree_self marked [] z = tt
agree_self marked (r ∷ rs) z = (elim (marked r) as (λ b. cond b (Unit {0}) (z % 2 ≡ z % 2)) [ true ↦ tt | false ↦ refl ], agree_self marked rs (z / 2))

-- To put back what is read changes nothing.
pub put-gather : (marked : Row → Bool) (rs : List Row) (z : ℕ) → z < 2 ^ length rs → put marked rs (gather marked rs z) z ≡ z
put-gather marked rs z h = sym (put_sole marked rs (gather marked rs z) z z h refl (agree_self marked rs z))

-- Only as many bits of the number matter as there are marked rows.
pub put-mod : (marked : Row → Bool) (rs : List Row) (t z : ℕ) → put marked rs (t % 2 ^ count marked rs) z ≡ put marked rs t z
put-mod marked rs t z =
    sym (put_sole marked rs (t % 2 ^ count marked rs) z (put marked rs t z) (put-below marked rs t z) (gather-put marked rs t z) (agree-put marked rs t z))
