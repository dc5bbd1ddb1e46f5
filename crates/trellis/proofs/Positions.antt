-- The turning number of a label and the label of a turning number, by the places of the turning bits.
use Rattle.std.proofs.Common.{◌≡◌, ℕ, zero, suc, ◌+◌, ◌-◌, ◌*◌, ◌/◌, ◌%◌, ◌^◌, ◌<◌, Bool, true, false, cond, ◌&&◌, eqb, ltb, List, [], ◌∷◌, length, sym, refl, ap, ◌∙◌, ⊎_elim, add-zero, mul_assoc, mul_comm, pow-suc, mul-zero, zero-add, zero-mul, mul-add, add-one, arith, shr-shr}
use native.Mathlib.Nat.{mod-mod}
use lib.Bits.{bit_xor, xor_assoc, xor_self, xor_zero_l, xor_zero_r, xor_mod, xor_shr}
use Rattle.std.proofs.lemmas.Bool.{and_parts, eqb-true, ltb-true, cases_Bool, cond-true, cond-false, eq-eqb, both_ways}
use Rattle.trellis.specs.declared.Numbers.{Numbers}
use Rattle.trellis.specs.declared.Row.{Row}
use Rattle.trellis.specs.Label.{gather, put, turns_by}
use Rattle.trellis.specs.Mapper.{turning_number, picked, entry_at, patterns, symbol_of}
use Rattle.trellis.specs.Numbers.{phase_bits}
use Rattle.trellis.specs.Rows.{label_rows}
use Rattle.trellis.specs.Step.{turning_row, turning_bit}
use Rattle.trellis.proofs.Gather.{double, low_bit, high_bits, bit_below, mod_double, gather_marked, gather_other, put_marked, put_other}
use Rattle.trellis.proofs.MapperLaws.{bits_of, set_rows}
use Rattle.trellis.proofs.Sets.{Within, at_set, below, below_at}

-- the places of the marked rows, counted from p
abbrev places_from : (Row → Bool) → ℕ → List Row → List ℕ
places_from marked p [] = []
places_from marked p (r ∷ rs) = cond (marked r) (p ∷ places_from marked (suc p) rs) (places_from marked (suc p) rs)

-- the number that the bits of z at these places form, and the number with the bits of t there
abbrev pub read_at : List ℕ → ℕ → ℕ
read_at [] z = 0
read_at (p ∷ ps) z = z / 2 ^ p % 2 + 2 * read_at ps z

abbrev pub write_at : List ℕ → ℕ → ℕ
write_at [] t = 0
write_at (p ∷ ps) t = t % 2 * 2 ^ p + write_at ps (t / 2)

next : (z p : ℕ) → z / 2 ^ p / 2 ≡ z / 2 ^ suc p
next z p = shr-shr z p 1 ∙ ap (λ (k : ℕ). z / 2 ^ k) (add-one p)

gather_read : (marked : Row → Bool) (rs : List Row) (p z : ℕ) → gather marked rs (z / 2 ^ p) ≡ read_at (places_from marked p rs) z
gather_read marked [] p z = refl
gather_read marked (r ∷ rs) p z =
    let rest = ap (gather marked rs) (next z p) ∙ gather_read marked rs (suc p) z in
    ⊎_elim
    (λ m.
    gather_marked marked r rs (z / 2 ^ p) m ∙ ap (λ (x : ℕ). z / 2 ^ p % 2 + 2 * x) rest
    ∙ sym (ap (λ (ps : List ℕ). read_at ps z) (cond-true (marked r) (p ∷ places_from marked (suc p) rs) (places_from marked (suc p) rs) m)))
    (λ m.
    gather_other marked r rs (z / 2 ^ p) m ∙ rest
    ∙ sym (ap (λ (ps : List ℕ). read_at ps z) (cond-false (marked r) (p ∷ places_from marked (suc p) rs) (places_from marked (suc p) rs) m)))
    (cases_Bool (marked r))

shift_in : (p b x : ℕ) → 2 ^ p * (b + 2 * x) ≡ b * 2 ^ p + 2 ^ suc p * x
shift_in p b x =
    mul-add (2 ^ p) b (2 * x) ∙ (λ i. mul_comm (2 ^ p) b i + (sym (mul_assoc (2 ^ p) 2 x) ∙ ap (λ (k : ℕ). k * x) (sym (pow-suc 2 p))) i)

put_write : (marked : Row → Bool) (rs : List Row) (p t : ℕ) → 2 ^ p * put marked rs t 0 ≡ write_at (places_from marked p rs) t
put_write marked [] p t = mul-zero (2 ^ p)
put_write marked (r ∷ rs) p t =
    ⊎_elim
    (λ m.
    ap (λ (x : ℕ). 2 ^ p * x) (put_marked marked r rs t 0 m) ∙ shift_in p (t % 2) (put marked rs (t / 2) 0)
    ∙ ap (λ (x : ℕ). t % 2 * 2 ^ p + x) (put_write marked rs (suc p) (t / 2))
    ∙ sym (ap (λ (ps : List ℕ). write_at ps t) (cond-true (marked r) (p ∷ places_from marked (suc p) rs) (places_from marked (suc p) rs) m)))
    (λ m.
    ap (λ (x : ℕ). 2 ^ p * x) (put_other marked r rs t 0 m) ∙ shift_in p 0 (put marked rs t 0)
    ∙ (λ i. zero-mul (2 ^ p) i + 2 ^ suc p * put marked rs t 0) ∙ zero-add (2 ^ suc p * put marked rs t 0) ∙ put_write marked rs (suc p) t
    ∙ sym (ap (λ (ps : List ℕ). write_at ps t) (cond-false (marked r) (p ∷ places_from marked (suc p) rs) (places_from marked (suc p) rs) m)))
    (cases_Bool (marked r))

-- the exclusive or of two numbers, by their lowest bits and the rest
xor_parts : (x y : ℕ) → bit_xor x y ≡ bit_xor (x % 2) (y % 2) + 2 * bit_xor (x / 2) (y / 2)
xor_parts x y =
    let low : bit_xor x y % 2 ≡ bit_xor (x % 2) (y % 2) = xor_mod x y 1 in
    let high : bit_xor x y / 2 ≡ bit_xor (x / 2) (y / 2) = xor_shr x y 1 in
    omega arith

xor-back : (x y : ℕ) → bit_xor x (bit_xor x y) ≡ y
xor-back x y = sym (xor_assoc x x y) ∙ ap (λ (k : ℕ). bit_xor k y) (xor_self x) ∙ xor_zero_l y

-- To replace the marked bits is to turn over those that differ.
pub put-xor : (marked : Row → Bool) (rs : List Row) (t z : ℕ) → z < 2 ^ length rs → put marked rs t z ≡ bit_xor z (put marked rs (bit_xor (gather marked rs z) t) 0)
put-xor marked [] t z h = let none : z ≡ 0 = omega arith in sym (xor_zero_r z ∙ none)
put-xor marked (r ∷ rs) t z h =
    let twice = double (length rs) in
    let less : z / 2 < 2 ^ length rs = omega arith in
    ⊎_elim
    (λ m.
    let g = gather marked rs (z / 2) in
    let G = z % 2 + 2 * g in
    let D = bit_xor G t in
    let B = put marked rs (D / 2) 0 in
    let low : D % 2 ≡ bit_xor (z % 2) (t % 2) = xor_mod G t 1 ∙ ap (λ (x : ℕ). bit_xor x (t % 2)) (low_bit (z % 2) g (bit_below z)) in
    let high : D / 2 ≡ bit_xor g (t / 2) = xor_shr G t 1 ∙ ap (λ (x : ℕ). bit_xor x (t / 2)) (high_bits (z % 2) g (bit_below z)) in
    put_marked marked r rs t z m
    ∙ (λ i. sym (ap (bit_xor (z % 2)) low ∙ xor-back (z % 2) (t % 2)) i + 2 * (put-xor marked rs (t / 2) (z / 2) less ∙ ap (λ (x : ℕ). bit_xor (z / 2) (put marked rs x 0)) (sym high)) i)
    ∙ (λ i. bit_xor (z % 2) (sym (low_bit (D % 2) B (bit_below D)) i) + 2 * bit_xor (z / 2) (sym (high_bits (D % 2) B (bit_below D)) i))
    ∙ sym (xor_parts z (D % 2 + 2 * B))
    ∙ ap (bit_xor z) (sym (put_marked marked r rs D 0 m))
    ∙ ap (λ (x : ℕ). bit_xor z (put marked (r ∷ rs) (bit_xor x t) 0)) (sym (gather_marked marked r rs z m)))
    (λ m.
    let g = gather marked rs (z / 2) in
    let B = put marked rs (bit_xor g t) 0 in
    put_other marked r rs t z m
    ∙ (λ i. sym (xor_zero_r (z % 2)) i + 2 * put-xor marked rs t (z / 2) less i)
    ∙ (λ i. bit_xor (z % 2) (sym (low_bit 0 B (omega arith)) i) + 2 * bit_xor (z / 2) (sym (high_bits 0 B (omega arith)) i))
    ∙ sym (xor_parts z (0 + 2 * B))
    ∙ ap (bit_xor z) (sym (put_other marked r rs (bit_xor g t) 0 m))
    ∙ ap (λ (x : ℕ). bit_xor z (put marked (r ∷ rs) (bit_xor x t) 0)) (sym (gather_other marked r rs z m)))
    (cases_Bool (marked r))

-- the turning bits from level j on, k of them, by places, phase bits and offset
abbrev pub turning_bits : ℕ → ℕ → ℕ → ℕ → ℕ → List ℕ
turning_bits l i q j zero = []
turning_bits l i q j (suc k) = (turning_row l i j - q) ∷ turning_bits l i q (suc j) k

abbrev alike : List ℕ → List ℕ → Bool
alike [] [] = true
alike [] (y ∷ ys) = false
alike (x ∷ xs) [] = false
alike (x ∷ xs) (y ∷ ys) = eqb x y && alike xs ys

alike_is : (xs ys : List ℕ) → alike xs ys ≡ true → xs ≡ ys
alike_is [] [] e = refl
alike_is [] (y ∷ ys) e = absurd (both_ways false refl e)
alike_is (x ∷ xs) [] e = absurd (both_ways false refl e)
alike_is (x ∷ xs) (y ∷ ys) e = let both = and_parts (eqb x y) (alike xs ys) e in λ i. eqb-true x y both.0 i ∷ alike_is xs ys both.1 i

-- every set: the turning rows stand at those places, all below 16
abbrev places_test : ℕ → ℕ → ℕ → Bool
places_test l m q =
    alike (places_from (turns_by 1) 0 (set_rows l m q)) (turning_bits l (bits_of m) q 0 (bits_of m)) && below (bits_of m) (λ j. ltb (turning_row l (bits_of m) j - q) 16)

module _ (n : Numbers) (w : Within n) where
  places_are : places_from (turns_by 1) 0 (label_rows n) ≡ turning_bits n.places (phase_bits n) n.offset 0 (phase_bits n)
  places_are = alike_is _ _ (and_parts _ _ (at_set places_test refl n w)).0

  pub bit_small : (j : ℕ) → j < phase_bits n → turning_bit n j < 16
  bit_small j h =
      ltb-true _ _ (below_at (phase_bits n) (λ k. ltb (turning_bit n k) 16) (and_parts (alike (places_from (turns_by 1) 0 (label_rows n)) (turning_bits n.places (phase_bits n) n.offset 0 (phase_bits n))) (below (phase_bits n) (λ k. ltb (turning_bit n k) 16)) (at_set places_test refl n w)).1 j h)

  pub turning_read : (z : ℕ) → turning_number n z ≡ read_at (turning_bits n.places (phase_bits n) n.offset 0 (phase_bits n)) z
  turning_read z =
      let whole : z ≡ z / 2 ^ 0 = omega arith in
      ap (gather (turns_by 1) (label_rows n)) whole ∙ gather_read (turns_by 1) (label_rows n) 0 z ∙ ap (λ (ps : List ℕ). read_at ps z) places_are

  pub turning_write : (t : ℕ) → put (turns_by 1) (label_rows n) t 0 ≡ write_at (turning_bits n.places (phase_bits n) n.offset 0 (phase_bits n)) t
  turning_write t =
      let x = put (turns_by 1) (label_rows n) t 0 in
      let whole : x ≡ 2 ^ 0 * x = omega arith in
      whole ∙ put_write (turns_by 1) (label_rows n) 0 t ∙ ap (λ (ps : List ℕ). write_at ps t) places_are

-- one place: every row turns
abbrev all_marked : (Row → Bool) → List Row → Bool
all_marked marked [] = true
all_marked marked (r ∷ rs) = marked r && all_marked marked rs

gather_all : (marked : Row → Bool) (rs : List Row) (z : ℕ) → all_marked marked rs ≡ true → gather marked rs z ≡ z % 2 ^ length rs
gather_all marked [] z e = omega arith
gather_all marked (r ∷ rs) z e =
    let both = and_parts (marked r) (all_marked marked rs) e in
    gather_marked marked r rs z both.0 ∙ ap (λ (x : ℕ). z % 2 + 2 * x) (gather_all marked rs (z / 2) both.1) ∙ sym (mod_double z (length rs))

put_all : (marked : Row → Bool) (rs : List Row) (t z : ℕ) → all_marked marked rs ≡ true → put marked rs t z ≡ t % 2 ^ length rs
put_all marked [] t z e = omega arith
put_all marked (r ∷ rs) t z e =
    let both = and_parts (marked r) (all_marked marked rs) e in
    put_marked marked r rs t z both.0 ∙ ap (λ (x : ℕ). t % 2 + 2 * x) (put_all marked rs (t / 2) (z / 2) both.1) ∙ sym (mod_double t (length rs))

abbrev no_entry : (Row → ℕ) → List Row → Bool
no_entry entry [] = true
no_entry entry (r ∷ rs) = eqb (entry r) 0 && no_entry entry rs

picked_none : (entry : Row → ℕ) (rs : List Row) (z : ℕ) → no_entry entry rs ≡ true → picked entry rs z ≡ 0
picked_none entry [] z e = refl
picked_none entry (r ∷ rs) z e =
    let both = and_parts (eqb (entry r) 0) (no_entry entry rs) e in
    let none : z % 2 * entry r ≡ 0 = ap (λ (x : ℕ). z % 2 * x) (eqb-true _ _ both.0) ∙ mul-zero (z % 2) in
    λ i. bit_xor (none i) (picked_none entry rs (z / 2) both.1 i)

abbrev one_test : ℕ → ℕ → ℕ → Bool
one_test l m q = cond (eqb l 1) (all_marked (turns_by 1) (set_rows l m q) && (eqb (2 ^ length (set_rows l m q)) m && no_entry (entry_at 0) (set_rows l m q))) true

module _ (n : Numbers) (w : Within n) (one : n.places ≡ 1) where
  one_set : (all_marked (turns_by 1) (label_rows n) && (eqb (2 ^ length (label_rows n)) n.phases && no_entry (entry_at 0) (label_rows n))) ≡ true
  one_set = sym (cond-true (eqb n.places 1) _ _ (eq-eqb _ _ one)) ∙ at_set one_test refl n w

  all_turn : all_marked (turns_by 1) (label_rows n) ≡ true
  all_turn = (and_parts _ _ one_set).0

  all_phases : 2 ^ length (label_rows n) ≡ n.phases
  all_phases = eqb-true _ _ (and_parts _ _ (and_parts (all_marked (turns_by 1) (label_rows n)) (eqb (2 ^ length (label_rows n)) n.phases && no_entry (entry_at 0) (label_rows n)) one_set).1).0

  plain : no_entry (entry_at 0) (label_rows n) ≡ true
  plain = (and_parts (eqb (2 ^ length (label_rows n)) n.phases) (no_entry (entry_at 0) (label_rows n)) (and_parts (all_marked (turns_by 1) (label_rows n)) (eqb (2 ^ length (label_rows n)) n.phases && no_entry (entry_at 0) (label_rows n)) one_set).1).1

  pub one-turning : (z : ℕ) → turning_number n z ≡ z % n.phases
  one-turning z = gather_all (turns_by 1) (label_rows n) z all_turn ∙ ap (λ (m : ℕ). z % m) all_phases

  pub one-put : (t z : ℕ) → put (turns_by 1) (label_rows n) t z ≡ t % n.phases
  one-put t z = put_all (turns_by 1) (label_rows n) t z all_turn ∙ ap (λ (m : ℕ). t % m) all_phases

  pub one_symbol : (z : ℕ) → symbol_of n z ≡ (z % n.phases ∷ 0 ∷ 0 ∷ 0 ∷ [])
  one_symbol z =
      (λ i. cond (ltb 0 (one i)) ((one-turning z i + picked_none (entry_at 0) (label_rows n) z plain i) % n.phases) 0
      ∷ cond (ltb 1 (one i)) ((turning_number n z + patterns n z 1) % n.phases) 0
      ∷ cond (ltb 2 (one i)) ((turning_number n z + patterns n z 2) % n.phases) 0
      ∷ cond (ltb 3 (one i)) ((turning_number n z + patterns n z 3) % n.phases) 0 ∷ [])
      ∙ ap (λ (x : ℕ). x ∷ 0 ∷ 0 ∷ 0 ∷ []) (ap (λ (x : ℕ). x % n.phases) (add-zero (z % n.phases)) ∙ mod-mod z n.phases)
