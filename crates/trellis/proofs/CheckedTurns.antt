-- The polynomials of the checked turning bits of a code.
use Rattle.std.proofs.Common.{◌≡◌, ℕ, zero, suc, ◌+◌, ◌-◌, ◌*◌, ◌/◌, ◌%◌, ◌^◌, ◌<◌, ◌≤◌, Bool, true, false, cond, ◌&&◌, eqb, ltb, leb, List, [], ◌∷◌, map, length, get_or, take, drop, Some, None, Option, unwrap_or, sym, refl, ap, ◌∙◌, subst, ⊎_elim, add-zero, mul-zero, zero-add, arith}
use lib.Bits.{bit_xor}
use Rattle.std.proofs.lemmas.List.{length-map, length-take-le, get_or-map, get_or-take}
use Rattle.std.proofs.lemmas.Bool.{and_parts, eqb-true, leb-true, cases_Bool, cond-true, cond-false, true≢false}
use Rattle.trellis.specs.declared.Numbers.{Numbers}
use Rattle.trellis.specs.declared.Row.{Row}
use Rattle.trellis.specs.Label.{turns_by}
use Rattle.trellis.specs.Limits.{is_first, is_later, is_due, limit_fault, polynomial_fault}
use Rattle.trellis.specs.Numbers.{phase_bits, word_bits, polynomials}
use Rattle.trellis.specs.Parity.{syndrome}
use Rattle.trellis.specs.Rows.{label_rows}
use Rattle.trellis.specs.Step.{turning_row, turning_bit, checked_turns}
use Rattle.trellis.proofs.BurstLaws.{turns_below}
use Rattle.trellis.proofs.Distinct.{label_length}
use Rattle.trellis.proofs.MapperLaws.{bits_of, set_rows}
use Rattle.trellis.proofs.Polynomials.{AllBelow, polynomials-below}
use Rattle.trellis.proofs.Sets.{within, unless-none, at_set, below, below_at}
use Rattle.trellis.proofs.Syndromes.{marks, marks-none}

-- h0 to hc
abbrev pub checked_polynomials : Numbers → List ℕ
checked_polynomials n = take (suc n.checked) (polynomials n)

-- those of the turning bits
abbrev pub turning_polynomials : Numbers → List ℕ
turning_polynomials n = marks (turns_by 1) (label_rows n) (checked_polynomials n)

-- every number of the list is 0; none is
abbrev AllZero : List ℕ → Type 0
AllZero [] = Unit {0}
AllZero (h ∷ hs) = (h ≡ 0) × AllZero hs

abbrev pub NoneZero : List ℕ → Type 0
NoneZero [] = Unit {0}
NoneZero (h ∷ hs) = (0 < h) × NoneZero hs

all_zero : (hs : List ℕ) → AllZero hs → (z : ℕ) → syndrome hs z ≡ 0
all_zero [] a z = refl
all_zero (h ∷ hs) a z = (λ i. bit_xor ((ap (λ (k : ℕ). z % 2 * k) a.0 ∙ mul-zero (z % 2)) i) (syndrome hs (z / 2))) ∙ all_zero hs a.1 (z / 2)

front : (hs : List ℕ) (k : ℕ) → AllZero (drop k hs) → (z : ℕ) → syndrome hs z ≡ syndrome (take k hs) z
front hs zero a z = all_zero hs a z
front [] (suc k) a z = refl
front (h ∷ hs) (suc k) a z = ap (bit_xor (z % 2 * h)) (front hs k a (z / 2))

absent : (v : ℕ) (h : Option ℕ) → is_due false v h ≡ true → unwrap_or h 0 ≡ 0
absent v None e = refl
absent v (Some h) e = absurd (true≢false (sym e))

present : (v : ℕ) (h : Option ℕ) → is_due true v h ≡ true → 0 < unwrap_or h 0
present v None e = absurd (true≢false (sym e))
present v (Some h) e = leb-true 1 h (and_parts (leb 1 h) (ltb h (2 ^ (v + 1))) e).0

-- the polynomials beyond c are absent, and the others are not zero
module _ (v a b : ℕ) (h2 h3 : Option ℕ) (a-some : 0 < a) (b-some : 0 < b) where
  tail_zero : (c : ℕ) → 1 ≤ c → c ≤ 3 → is_due (leb 2 c) v h2 ≡ true → is_due (leb 3 c) v h3 ≡ true → AllZero (drop (suc c) (a ∷ b ∷ unwrap_or h2 0 ∷ unwrap_or h3 0 ∷ []))
  tail_zero zero low high d2 d3 = absurd (omega arith)
  tail_zero (suc zero) low high d2 d3 = (absent v h2 d2, (absent v h3 d3, tt))
  tail_zero (suc (suc zero)) low high d2 d3 = (absent v h3 d3, tt)
  tail_zero (suc (suc (suc zero))) low high d2 d3 = tt
  tail_zero (suc (suc (suc (suc c)))) low high d2 d3 = absurd (omega arith)

  front_some : (c : ℕ) → 1 ≤ c → c ≤ 3 → is_due (leb 2 c) v h2 ≡ true → is_due (leb 3 c) v h3 ≡ true → NoneZero (take (suc c) (a ∷ b ∷ unwrap_or h2 0 ∷ unwrap_or h3 0 ∷ []))
  front_some zero low high d2 d3 = absurd (omega arith)
  front_some (suc zero) low high d2 d3 = (a-some, (b-some, tt))
  front_some (suc (suc zero)) low high d2 d3 = (a-some, (b-some, (present v h2 d2, tt)))
  front_some (suc (suc (suc zero))) low high d2 d3 = (a-some, (b-some, (present v h2 d2, (present v h3 d3, tt))))
  front_some (suc (suc (suc (suc c)))) low high d2 d3 = absurd (omega arith)

-- the places of the marked rows among the first k, counted from i
abbrev places : (Row → Bool) → ℕ → List Row → ℕ → List ℕ
places marked i rs zero = []
places marked i [] (suc k) = []
places marked i (r ∷ rs) (suc k) = cond (marked r) (i ∷ places marked (suc i) rs k) (places marked (suc i) rs k)

marks-places : (marked : Row → Bool) (rs : List Row) (all hs : List ℕ) (i : ℕ) → ((j : ℕ) → j < length hs → get_or all (i + j) 0 ≡ get_or hs j 0) → marks marked rs hs ≡ map (λ x. get_or all x 0) (places marked i rs (length hs))
marks-places marked rs all [] i same = marks-none marked rs
marks-places marked [] all (h ∷ hs) i same = refl
marks-places marked (r ∷ rs) all (h ∷ hs) i same =
    let first : get_or all i 0 ≡ h = ap (λ (k : ℕ). get_or all k 0) (sym (add-zero i)) ∙ same 0 (omega arith) in
    let rest = marks-places marked rs all hs (suc i) (λ j l. let move : suc i + j ≡ i + suc j = omega arith in ap (λ (k : ℕ). get_or all k 0) move ∙ same (suc j) (omega arith)) in
    ⊎_elim
    (λ m. cond-true (marked r) _ _ m ∙ (λ k. sym first k ∷ rest k) ∙ sym (ap (map (λ x. get_or all x 0)) (cond-true (marked r) _ _ m)))
    (λ m. cond-false (marked r) _ _ m ∙ rest ∙ sym (ap (map (λ x. get_or all x 0)) (cond-false (marked r) _ _ m)))
    (cases_Bool (marked r))

-- the count of checked turning bits, by a set's three numbers
abbrev pub turns_of : ℕ → ℕ → ℕ → ℕ → ℕ → ℕ
turns_of l m q c zero = 0
turns_of l m q c (suc j) = cond (leb (turning_row l (bits_of m) j - q) c) (suc j) (turns_of l m q c j)

pub turns_of_lem : (n : Numbers) (c k : ℕ) → checked_turns n c k ≡ turns_of n.places n.phases n.offset c k
turns_of_lem n c zero = refl
turns_of_lem n c (suc k) = ap (cond (leb (turning_bit n k) c) (suc k)) (turns_of_lem n c k)

-- every set, at every count of checked bits: the marked places are the turning bits
abbrev places_well : ℕ → ℕ → ℕ → Bool
places_well l m q =
    below 4 (λ c.
    eqb (length (places (turns_by 1) 0 (set_rows l m q) (suc c))) (turns_of l m q c (bits_of m))
    && below (length (places (turns_by 1) 0 (set_rows l m q) (suc c))) (λ j. eqb (get_or (places (turns_by 1) 0 (set_rows l m q) (suc c)) j 0) (turning_row l (bits_of m) j - q)))

pub record Checked (n : Numbers) : Type 0 where
  pub same : (z : ℕ) → syndrome (polynomials n) z ≡ syndrome (checked_polynomials n) z
  pub fits : length (checked_polynomials n) ≤ length (label_rows n)
  pub counts : length (turning_polynomials n) ≡ checked_turns n n.checked (phase_bits n)
  pub few : length (turning_polynomials n) ≤ phase_bits n
  pub at : (j : ℕ) → j < length (turning_polynomials n) → get_or (turning_polynomials n) j 0 ≡ get_or (polynomials n) (turning_bit n j) 0
  pub some : NoneZero (turning_polynomials n)
  pub small : AllBelow (n.memory + 1) (turning_polynomials n)

marks-some : (marked : Row → Bool) (rs : List Row) (hs : List ℕ) → NoneZero hs → NoneZero (marks marked rs hs)
marks-some marked rs [] a = subst NoneZero (sym (marks-none marked rs)) tt
marks-some marked [] (h ∷ hs) a = tt
marks-some marked (r ∷ rs) (h ∷ hs) a =
    elim (marked r) as (λ b. NoneZero (cond b (h ∷ marks marked rs hs) (marks marked rs hs))) [ true ↦ (a.0, marks-some marked rs hs a.1) | false ↦ marks-some marked rs hs a.1 ]

marks-below : (marked : Row → Bool) (rs : List Row) (hs : List ℕ) (k : ℕ) → AllBelow k hs → AllBelow k (marks marked rs hs)
marks-below marked rs [] k a = subst (AllBelow k) (sym (marks-none marked rs)) tt
marks-below marked [] (h ∷ hs) k a = tt
marks-below marked (r ∷ rs) (h ∷ hs) k a =
    elim (marked r) as (λ b. AllBelow k (cond b (h ∷ marks marked rs hs) (marks marked rs hs))) [ true ↦ (a.0, marks-below marked rs hs k a.1) | false ↦ marks-below marked rs hs k a.1 ]

take_below : (hs : List ℕ) (j k : ℕ) → AllBelow k hs → AllBelow k (take j hs)
take_below hs zero k a = tt
take_below [] (suc j) k a = tt
take_below (h ∷ hs) (suc j) k a = (a.0, take_below hs j k a.1)

pub checked : (n : Numbers) → limit_fault n ≡ 0 → polynomial_fault n ≡ 0 → Checked n
checked n limits polys =
    let w = within n limits in
    let v = n.memory in
    let c = n.checked in
    let bounds = and_parts (leb 1 c) (leb c 3 && leb c (word_bits n)) w.checked in
    let upper = and_parts (leb c 3) (leb c (word_bits n)) bounds.1 in
    let low = leb-true 1 c bounds.0 in
    let high = leb-true c 3 upper.0 in
    let Within-word = leb-true c (word_bits n) upper.1 in
    let a = unless-none (is_first v n.h0) 6 _ (omega arith) polys in
    let b = unless-none (is_later v n.h1) 7 _ (omega arith) a.1 in
    let d2 = unless-none (is_due (leb 2 c) v n.h2) 8 _ (omega arith) b.1 in
    let d3 = unless-none (is_due (leb 3 c) v n.h3) 9 _ (omega arith) d2.1 in
    let odd = eqb-true (n.h0 % 2) 1 (and_parts (eqb (n.h0 % 2) 1) _ a.0).0 in
    let h0-some : 0 < n.h0 = omega arith in
    let h1-some = leb-true 1 n.h1 (and_parts (leb 1 n.h1) (ltb n.h1 (2 ^ (v + 1))) b.0).0 in
    let rows = label_rows n in
    let hs = checked_polynomials n in
    let spots = places (turns_by 1) 0 rows (suc c) in
    let hs-long : length hs ≡ suc c = length-take-le (suc c) (polynomials n) (omega arith) in
    let here = and_parts _ _ (below_at 4 (λ k.
    eqb (length (places (turns_by 1) 0 (label_rows n) (suc k))) (turns_of n.places n.phases n.offset k (phase_bits n))
    && below (length (places (turns_by 1) 0 (label_rows n) (suc k))) (λ j. eqb (get_or (places (turns_by 1) 0 (label_rows n) (suc k)) j 0) (turning_bit n j))) (at_set places_well refl n w) c (omega arith)) in
    let are : turning_polynomials n ≡ map (λ x. get_or (polynomials n) x 0) spots =
    marks-places (turns_by 1) rows (polynomials n) hs 0 (λ j l. ap (λ (k : ℕ). get_or (polynomials n) k 0) (zero-add j) ∙ sym (get_or-take (suc c) (polynomials n) j 0 (subst (λ (k : ℕ). j < k) hs-long l)))
    ∙ ap (λ (k : ℕ). map (λ x. get_or (polynomials n) x 0) (places (turns_by 1) 0 rows k)) hs-long in
    let counted : length (turning_polynomials n) ≡ length spots = ap length are ∙ length-map spots (λ x. get_or (polynomials n) x 0) in
    let total : length spots ≡ checked_turns n c (phase_bits n) = eqb-true _ _ here.0 ∙ sym (turns_of_lem n c (phase_bits n)) in
    let most = turns_below n c (phase_bits n) in
    let long = label_length n w in
    record {
      same = front (polynomials n) (suc c) (tail_zero v n.h0 n.h1 n.h2 n.h3 h0-some h1-some c low high d2.0 d3.0);
      fits = omega arith;
      counts = counted ∙ total;
      few = omega arith;
      at = λ j l.
          let l' : j < length spots = omega arith in
          ap (λ (ps : List ℕ). get_or ps j 0) are ∙ get_or-map (λ x. get_or (polynomials n) x 0) spots j 0 0 l'
          ∙ ap (λ (x : ℕ). get_or (polynomials n) x 0) (eqb-true _ _ (below_at (length spots) (λ j. eqb (get_or spots j 0) (turning_bit n j)) here.1 j l'));
      some = marks-some (turns_by 1) rows hs (front_some v n.h0 n.h1 n.h2 n.h3 h0-some h1-some c low high d2.0 d3.0);
      small = marks-below (turns_by 1) rows hs (v + 1) (take_below (polynomials n) (suc c) (v + 1) (polynomials-below n polys));
    }
