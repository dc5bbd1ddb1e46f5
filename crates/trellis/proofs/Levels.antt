-- The differential bits are the turning bits from one level on.
use Rattle.std.proofs.Common.{◌≡◌, ℕ, zero, suc, ◌+◌, ◌*◌, ◌/◌, ◌%◌, ◌^◌, ◌<◌, ◌≤◌, Bool, true, false, cond, List, [], ◌∷◌, sym, refl, ap, ◌∙◌, ⊎_elim, add-zero, arith, pow_pos, shr-shr}
use native.Mathlib.Nat.{pow-le-pow_right, zero-div}
use lib.Pow.{pow-lt}
use Rattle.std.proofs.lemmas.Bool.{and_parts, eqb-true, le-leb, lt-leb, cases_Bool, cond-true, cond-false}
use Rattle.trellis.specs.declared.Row.{Row}
use Rattle.trellis.specs.Label.{gather, put, turns_by}
use Rattle.trellis.proofs.Gather.{low_bit, high_bits, bit_below, mod_double, rising, gather_marked, gather_other, put_marked, put_other}
use Rattle.trellis.proofs.MapperLaws.{turn}

-- Two marks that agree on every row.
abbrev Alike : (Row → Bool) → (Row → Bool) → List Row → Type 0
Alike a b [] = Unit {0}
Alike a b (r ∷ rs) = (a r ≡ b r) × Alike a b rs

gather-alike : (a b : Row → Bool) (rs : List Row) (z : ℕ) → Alike a b rs → gather a rs z ≡ gather b rs z
gather-alike a b [] z s = refl
gather-alike a b (r ∷ rs) z s = λ i. cond (s.0 i) (z % 2 + 2 * gather-alike a b rs (z / 2) s.1 i) (gather-alike a b rs (z / 2) s.1 i)

put-alike : (a b : Row → Bool) (rs : List Row) (t z : ℕ) → Alike a b rs → put a rs t z ≡ put b rs t z
put-alike a b [] t z s = refl
put-alike a b (r ∷ rs) t z s = λ i. cond (s.0 i) (t % 2 + 2 * put-alike a b rs (t / 2) (z / 2) s.1 i) (z % 2 + 2 * put-alike a b rs t (z / 2) s.1 i)

power_up : (i j : ℕ) → i ≤ j → 2 ^ i ≤ 2 ^ j
power_up i j h = pow-le-pow_right {n = 2} (omega arith) {i = i} {j = j} h

-- A row of rising rows: it turns by 2^j, or not at all.
head_turns : (j : ℕ) (r : Row) (rs : List Row) → rising (turns_by 1) turn j (r ∷ rs) ≡ true → turns_by 1 r ≡ true → (r.turn ≡ 2 ^ j) × (rising (turns_by 1) turn (suc j) rs ≡ true)
head_turns j r rs h m = let both = and_parts _ _ (sym (cond-true (turns_by 1 r) _ _ m) ∙ h) in (eqb-true _ _ both.0, both.1)

head_still : (j : ℕ) (r : Row) (rs : List Row) → rising (turns_by 1) turn j (r ∷ rs) ≡ true → turns_by 1 r ≡ false → (r.turn ≡ 0) × (rising (turns_by 1) turn j rs ≡ true)
head_still j r rs h m = let both = and_parts _ _ (sym (cond-false (turns_by 1 r) _ _ m) ∙ h) in (eqb-true _ _ both.0, both.1)

still : (d : ℕ) (r : Row) → r.turn ≡ 0 → turns_by (2 ^ d) r ≡ false
still d r e = lt-leb (2 ^ d) r.turn (omega (arith, pow_pos d))

-- From level i on, all turning rows turn by 2^i or more.
alike_from : (i j : ℕ) (rs : List Row) → i ≤ j → rising (turns_by 1) turn j rs ≡ true → Alike (turns_by (2 ^ i)) (turns_by 1) rs
alike_from i j [] h s = tt
alike_from i j (r ∷ rs) h s =
    ⊎_elim
    (λ m.
    let t = head_turns j r rs s m in
    let high = t.0 in
    (le-leb (2 ^ i) r.turn (omega (arith, power_up i j h)) ∙ sym m, alike_from i (suc j) rs (omega arith) t.1))
    (λ m. let t = head_still j r rs s m in (still i r t.0 ∙ sym m, alike_from i j rs h t.1))
    (cases_Bool (turns_by 1 r))

-- A turning row of a lower level is not marked.
lower : (j e : ℕ) (r : Row) → r.turn ≡ 2 ^ j → turns_by (2 ^ (j + suc e)) r ≡ false
lower j e r is =
    let h : j < j + suc e = omega arith in
    let less : 2 ^ j < 2 ^ (j + suc e) = pow-lt h in
    lt-leb (2 ^ (j + suc e)) r.turn (omega arith)

half_more : (x e : ℕ) → x / 2 ^ suc e ≡ x / 2 / 2 ^ e
half_more x e = let one_more : suc e ≡ 1 + e = omega arith in ap (λ (k : ℕ). x / 2 ^ k) one_more ∙ sym (shr-shr x 1 e)

move : (j e : ℕ) → j + suc e ≡ suc j + e
move j e = omega arith

pub gather_from : (j e : ℕ) (rs : List Row) (z : ℕ) → rising (turns_by 1) turn j rs ≡ true → gather (turns_by (2 ^ (j + e))) rs z ≡ gather (turns_by 1) rs z / 2 ^ e
gather_from j zero rs z s =
    ap (λ (k : ℕ). gather (turns_by (2 ^ k)) rs z) (add-zero j) ∙ gather-alike (turns_by (2 ^ j)) (turns_by 1) rs z (alike_from j j rs (omega arith) s) ∙ omega arith
gather_from j (suc e) [] z s = sym (zero-div (2 ^ suc e))
gather_from j (suc e) (r ∷ rs) z s =
    ⊎_elim
    (λ m.
    let t = head_turns j r rs s m in
    let G = gather (turns_by 1) rs (z / 2) in
    let half : (z % 2 + 2 * G) / 2 ≡ G = omega arith in
    gather_other (turns_by (2 ^ (j + suc e))) r rs z (lower j e r t.0)
    ∙ ap (λ (k : ℕ). gather (turns_by (2 ^ k)) rs (z / 2)) (move j e) ∙ gather_from (suc j) e rs (z / 2) t.1
    ∙ sym (ap (λ (k : ℕ). k / 2 ^ suc e) (gather_marked (turns_by 1) r rs z m) ∙ half_more (z % 2 + 2 * G) e ∙ ap (λ (k : ℕ). k / 2 ^ e) half))
    (λ m.
    let t = head_still j r rs s m in
    gather_other (turns_by (2 ^ (j + suc e))) r rs z (still (j + suc e) r t.0) ∙ gather_from j (suc e) rs (z / 2) t.1
    ∙ sym (ap (λ (k : ℕ). k / 2 ^ suc e) (gather_other (turns_by 1) r rs z m)))
    (cases_Bool (turns_by 1 r))

-- To replace the turning number by one with the same low bits is to replace the bits from there on.
pub put_from : (j e : ℕ) (rs : List Row) (t z : ℕ) → rising (turns_by 1) turn j rs ≡ true → t % 2 ^ e ≡ gather (turns_by 1) rs z % 2 ^ e → put (turns_by 1) rs t z ≡ put (turns_by (2 ^ (j + e))) rs (t / 2 ^ e) z
put_from j zero rs t z s h =
    let whole : t ≡ t / 1 = omega arith in
    sym (put-alike (turns_by (2 ^ j)) (turns_by 1) rs t z (alike_from j j rs (omega arith) s)) ∙ (λ i. put (turns_by (2 ^ sym (add-zero j) i)) rs (whole i) z)
put_from j (suc e) [] t z s h = refl
put_from j (suc e) (r ∷ rs) t z s h =
    ⊎_elim
    (λ m.
    let k = head_turns j r rs s m in
    let G = gather (turns_by 1) rs (z / 2) in
    let is = gather_marked (turns_by 1) r rs z m in
    let mine = mod_double t e in
    let theirs : (z % 2 + 2 * G) % 2 ^ suc e ≡ z % 2 + 2 * (G % 2 ^ e) = mod_double (z % 2 + 2 * G) e ∙ splits (z % 2) G e (bit_below z) in
    let both : t % 2 + 2 * (t / 2 % 2 ^ e) ≡ z % 2 + 2 * (G % 2 ^ e) = sym mine ∙ h ∙ ap (λ (x : ℕ). x % 2 ^ suc e) is ∙ theirs in
    let a = bit_below t in
    let b = bit_below z in
    let low : t % 2 ≡ z % 2 = omega arith in
    let high : t / 2 % 2 ^ e ≡ G % 2 ^ e = omega arith in
    put_marked (turns_by 1) r rs t z m
    ∙ (λ i. low i + 2 * put_from (suc j) e rs (t / 2) (z / 2) k.1 high i)
    ∙ (λ i. z % 2 + 2 * put (turns_by (2 ^ sym (move j e) i)) rs (sym (half_more t e) i) (z / 2))
    ∙ sym (put_other (turns_by (2 ^ (j + suc e))) r rs (t / 2 ^ suc e) z (lower j e r k.0)))
    (λ m.
    let k = head_still j r rs s m in
    put_other (turns_by 1) r rs t z m
    ∙ ap (λ (x : ℕ). z % 2 + 2 * x) (put_from j (suc e) rs t (z / 2) k.1 (h ∙ ap (λ (x : ℕ). x % 2 ^ suc e) (gather_other (turns_by 1) r rs z m)))
    ∙ sym (put_other (turns_by (2 ^ (j + suc e))) r rs (t / 2 ^ suc e) z (still (j + suc e) r k.0)))
    (cases_Bool (turns_by 1 r))
  where
    splits : (b x k : ℕ) → b < 2 → (b + 2 * x) % 2 + 2 * ((b + 2 * x) / 2 % 2 ^ k) ≡ b + 2 * (x % 2 ^ k)
    splits b x k small = λ i. low_bit b x small i + 2 * (high_bits b x small i % 2 ^ k)
