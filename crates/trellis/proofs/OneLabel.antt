-- One symbol of a burst: the label of a word is allowed and carries the word, and it is the only such label.
use Rattle.std.proofs.Common.{◌≡◌, ℕ, ◌+◌, ◌*◌, ◌/◌, ◌%◌, ◌^◌, ◌<◌, Bool, true, false, cond, not, List, [], ◌∷◌, length, drop, sym, refl, ap, ◌∙◌, subst, ⊎_elim, one-mul, zero-mul, arith}
use lib.Bits.{bit_xor, xor_mod}
use Rattle.std.proofs.lemmas.Bool.{cases_Bool, cases_eq, not-true, true≢false}
use Rattle.trellis.specs.declared.Row.{Row}
use Rattle.trellis.specs.Label.{gather, put, Agree}
use Rattle.trellis.specs.Parity.{syndrome, Allowed}
use Rattle.trellis.specs.Precoder.{placed, with_parity}
use Rattle.trellis.proofs.Gather.{count, low_bit, high_bits, double, bit_below, gather-put, put-below, gather_marked, gather_other, put_marked, put_other, count_other}

-- the parity of an exclusive or
pub xor_parity : (a b : ℕ) → bit_xor a b % 2 ≡ (a + b) % 2
xor_parity a b =
    let small : (x y : ℕ) → x < 2 → y < 2 → bit_xor x y ≡ (x + y) % 2 =
    λ x y hx hy. ⊎_elim
    (λ (e : x ≡ 0). rw e (omega arith))
    (λ (e : x ≡ 0 → ⊥). let one : x ≡ 1 = omega arith in rw one (⊎_elim (λ (f : y ≡ 0). rw f refl) (λ (f : y ≡ 0 → ⊥). let also : y ≡ 1 = omega arith in rw also refl) (cases_eq y 0)))
    (cases_eq x 0) in
    xor_mod a b 1 ∙ small (a % 2) (b % 2) (bit_below a) (bit_below b) ∙ omega arith

-- `Agree` at its first row
agree_marked : (marked : Row → Bool) (r : Row) (y z : ℕ) → marked r ≡ true → cond (marked r) (Unit {0}) (y % 2 ≡ z % 2)
agree_marked marked r y z m = subst (λ (b : Bool). cond b (Unit {0}) (y % 2 ≡ z % 2)) (sym m) tt

agree_other : (marked : Row → Bool) (r : Row) (y z : ℕ) → y % 2 ≡ z % 2 → cond (marked r) (Unit {0}) (y % 2 ≡ z % 2)
agree_other marked r y z e = elim (marked r) as (λ b. cond b (Unit {0}) (y % 2 ≡ z % 2)) [ true ↦ tt | false ↦ e ]

agree_low : (marked : Row → Bool) (r : Row) (y z : ℕ) → marked r ≡ false → cond (marked r) (Unit {0}) (y % 2 ≡ z % 2) → y % 2 ≡ z % 2
agree_low marked r y z m a = subst (λ (b : Bool). cond b (Unit {0}) (y % 2 ≡ z % 2)) m a

-- the bits that are not put stay
pub agree-put : (marked : Row → Bool) (rs : List Row) (t z : ℕ) → Agree marked rs z (put marked rs t z)
agree-put marked [] t z = tt
agree-put marked (r ∷ rs) t z =
    ⊎_elim
    (λ m.
    let x = put marked rs (t / 2) (z / 2) in
    let half : put marked (r ∷ rs) t z / 2 ≡ x = ap (λ (y : ℕ). y / 2) (put_marked marked r rs t z m) ∙ high_bits (t % 2) x (bit_below t) in
    (agree_marked marked r z (put marked (r ∷ rs) t z) m, subst (λ (y : ℕ). Agree marked rs (z / 2) y) (sym half) (agree-put marked rs (t / 2) (z / 2))))
    (λ m.
    let x = put marked rs t (z / 2) in
    let half : put marked (r ∷ rs) t z / 2 ≡ x = ap (λ (y : ℕ). y / 2) (put_other marked r rs t z m) ∙ high_bits (z % 2) x (bit_below z) in
    let low : put marked (r ∷ rs) t z % 2 ≡ z % 2 = ap (λ (y : ℕ). y % 2) (put_other marked r rs t z m) ∙ low_bit (z % 2) x (bit_below z) in
    (agree_other marked r z (put marked (r ∷ rs) t z) (sym low), subst (λ (y : ℕ). Agree marked rs (z / 2) y) (sym half) (agree-put marked rs t (z / 2))))
    (cases_Bool (marked r))

-- a label is known by the bits that are put and those that stay
pub put_sole : (marked : Row → Bool) (rs : List Row) (t y z : ℕ) → z < 2 ^ length rs → gather marked rs z ≡ t → Agree marked rs y z → z ≡ put marked rs t y
put_sole marked [] t y z h g a = omega arith
put_sole marked (r ∷ rs) t y z h g a =
    let twice = double (length rs) in
    ⊎_elim
    (λ m.
    let whole : z % 2 + 2 * gather marked rs (z / 2) ≡ t = sym (gather_marked marked r rs z m) ∙ g in
    let low = bit_below z in
    let rest = put_sole marked rs (t / 2) (y / 2) (z / 2) (omega arith) (omega arith) a.1 in
    omega (arith, put_marked marked r rs t y m, rest))
    (λ m.
    let same = agree_low marked r y z m a.0 in
    let rest = put_sole marked rs t (y / 2) (z / 2) (omega arith) (sym (gather_other marked r rs z m) ∙ g) a.1 in
    omega (arith, put_other marked r rs t y m, rest))
    (cases_Bool (marked r))

-- the first row, that of the parity bit, is not marked
abbrev pub head_free : (Row → Bool) → List Row → Bool
head_free marked [] = false
head_free marked (r ∷ rs) = not (marked r)

-- The label of a word, over any rows: the marked bits are those of t, the parity bit makes the state's parity even.
abbrev pub label_by : (Row → Bool) → List Row → List ℕ → ℕ → ℕ → ℕ → ℕ
label_by marked rows hs S t w = with_parity hs S (put marked rows t (placed w))

pub record Carries (marked : Row → Bool) (rows : List Row) (hs : List ℕ) (S t w z : ℕ) : Type 0 where
  pub bound : z < 2 ^ length rows
  pub allowed : Allowed hs S z
  pub reads : gather marked rows z ≡ t % 2 ^ count marked rows
  pub agrees : Agree marked (drop 1 rows) (placed w / 2) (z / 2)

-- the label of a word but for its parity bit, where the first row is not marked
even_put : (marked : Row → Bool) (r : Row) (rs : List Row) (t w : ℕ) → marked r ≡ false → put marked (r ∷ rs) t (placed w) ≡ 2 * put marked rs t (placed w / 2)
even_put marked r rs t w m = omega (arith, put_other marked r rs t (placed w) m)

module _ (h : ℕ) (hs : List ℕ) (odd : h % 2 ≡ 1) where
  -- a parity bit turns the parity of the syndrome
  pub parity_of : (S x b : ℕ) → x % 2 ≡ 0 → b < 2 → bit_xor S (syndrome (h ∷ hs) (x + b)) % 2 ≡ (bit_xor S (syndrome (h ∷ hs) x) + b) % 2
  parity_of S x b even small =
      let Y = syndrome hs (x / 2) in
      let low : (x + b) % 2 ≡ b = omega arith in
      let high : (x + b) / 2 ≡ x / 2 = omega arith in
      let left : syndrome (h ∷ hs) (x + b) ≡ bit_xor (b * h) Y = λ i. bit_xor (low i * h) (syndrome hs (high i)) in
      let right : syndrome (h ∷ hs) x ≡ Y = ap (λ (k : ℕ). bit_xor (k * h) Y) even ∙ ap (λ (k : ℕ). bit_xor k Y) (zero-mul h) in
      let bit : b * h % 2 ≡ b = ⊎_elim (λ (e : b ≡ 0). rw e (ap (λ (k : ℕ). k % 2) (zero-mul h))) (λ (e : b ≡ 0 → ⊥). let one : b ≡ 1 = omega arith in rw one (ap (λ (k : ℕ). k % 2) (one-mul h) ∙ odd)) (cases_eq b 0) in
      let outer = xor_parity S (bit_xor (b * h) Y) in
      let inner = xor_parity (b * h) Y in
      let plain = xor_parity S Y in
      ap (λ (k : ℕ). bit_xor S k % 2) left ∙ omega arith ∙ ap (λ (k : ℕ). (bit_xor S k + b) % 2) (sym right)

  pub carries : (marked : Row → Bool) (rows : List Row) (S t w : ℕ) → head_free marked rows ≡ true → Carries marked rows (h ∷ hs) S t w (label_by marked rows (h ∷ hs) S t w)
  carries marked [] S t w free = absurd (true≢false (sym free))
  carries marked (r ∷ rs) S t w free =
      let m = not-true (marked r) free in
      let x = put marked (r ∷ rs) t (placed w) in
      let P = put marked rs t (placed w / 2) in
      let even = even_put marked r rs t w m in
      let b = bit_xor S (syndrome (h ∷ hs) x) % 2 in
      let small = bit_below (bit_xor S (syndrome (h ∷ hs) x)) in
      let half : (x + b) / 2 ≡ P = omega arith in
      let below = put-below marked rs t (placed w / 2) in
      let twice = double (length rs) in
      record {
        bound = omega arith;
        allowed = parity_of S x b (omega arith) small ∙ omega arith;
        reads = gather_other marked r rs (x + b) m ∙ ap (gather marked rs) half ∙ gather-put marked rs t (placed w / 2) ∙ ap (λ (k : ℕ). t % 2 ^ k) (sym (count_other marked r rs m));
        agrees = subst (λ (k : ℕ). Agree marked rs (placed w / 2) k) (sym half) (agree-put marked rs t (placed w / 2));
      }

  pub carries_sole : (marked : Row → Bool) (rows : List Row) (S t w z : ℕ) → head_free marked rows ≡ true → z < 2 ^ length rows → Allowed (h ∷ hs) S z → gather marked rows z ≡ t → Agree marked (drop 1 rows) (placed w / 2) (z / 2) → z ≡ label_by marked rows (h ∷ hs) S t w
  carries_sole marked [] S t w z free bound allowed reads agrees = absurd (true≢false (sym free))
  carries_sole marked (r ∷ rs) S t w z free bound allowed reads agrees =
      let m = not-true (marked r) free in
      let x = put marked (r ∷ rs) t (placed w) in
      let P = put marked rs t (placed w / 2) in
      let even = even_put marked r rs t w m in
      let twice = double (length rs) in
      let high : z / 2 ≡ P = put_sole marked rs t (placed w / 2) (z / 2) (omega arith) (sym (gather_other marked r rs z m) ∙ reads) agrees in
      let whole : z ≡ x + z % 2 = omega arith in
      let low = bit_below z in
      let parity = parity_of S x (z % 2) (omega arith) low in
      let none : bit_xor S (syndrome (h ∷ hs) (x + z % 2)) % 2 ≡ 0 = ap (λ (k : ℕ). bit_xor S (syndrome (h ∷ hs) k) % 2) (sym whole) ∙ allowed in
      omega arith
