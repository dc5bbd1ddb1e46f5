-- The ways into a half of the states.
use Rattle.std.proofs.Common.{◌≡◌, ℕ, ◌+◌, ◌-◌, ◌*◌, ◌/◌, ◌^◌, ◌<◌, List, length, get_or, take, drop, sym, ap, ◌∙◌, subst, ⊎_elim, one-mul, add-one, add_comm, arith, length-take-le, length-drop, get_or-take, get_or-drop}
use lib.Bits.{bit_xor, xor_assoc, xor_comm, xor_lt, xor_shifted, xor_zero_l}
use Rattle.code.specs.declared.record.Code.{Code}
use Rattle.receiver.specs.declared.entering.Way.{Way}
use Rattle.receiver.specs.Cells.{survivor, no_survivor}
use Rattle.receiver.specs.Entered.{Exact, PairBest, continued}
use Rattle.receiver.specs.Grouped.{GroupsBest}
use Rattle.receiver.specs.Ways.{StartsHalf, Into, Known, Reaches}
use Rattle.reception.specs.Worth.{Scores, label_worth}
use Rattle.survivors.specs.Best.{Survivor}
use Rattle.survivors.specs.Rows.{back}
use Rattle.trellis.specs.declared.Numbers.{Numbers}
use Rattle.trellis.specs.Numbers.{polynomials}
use Rattle.trellis.specs.Parity.{syndrome}
use Rattle.trellis.proofs.Gather.{double}
use Rattle.receiver.proofs.Limited.{checked_least, checked_most, memory_least, states_least}
use Rattle.receiver.proofs.Pairs.{pair_best}

-- There are half as many pairs as groups.
pub pairs_are : (c : ℕ) → 2 ^ (c + 1) ≡ 2 * 2 ^ c
pairs_are c = ap (λ (x : ℕ). 2 ^ x) (add-one c) ∙ double c

-- Both halves have as many states.
pub states_even : (k : Code) (states : ℕ) → states ≡ 2 ^ k.numbers.memory → states / 2 + states / 2 ≡ states
states_even k states are =
    let some = memory_least k in
    let v = k.numbers.memory in
    let up : v - 1 + 1 ≡ v = omega arith in
    let even = pairs_are (v - 1) in
    let same : 2 ^ (v - 1 + 1) ≡ 2 ^ v = ap (λ (x : ℕ). 2 ^ x) up in
    omega arith

-- A state of a half, doubled.
doubled : (n : Numbers) (first step : ℕ) → StartsHalf n first → 2 * step < 2 ^ n.memory → 2 * (first + step) ≡ bit_xor (2 * first) (2 * step)
doubled n first step start small =
    ⊎_elim
    (λ (e : first ≡ 0).
    let none : 2 * first ≡ 0 = omega arith in
    let sum : 2 * (first + step) ≡ 2 * step = omega arith in
    sum ∙ sym (ap (λ (x : ℕ). bit_xor x (2 * step)) none ∙ xor_zero_l (2 * step)))
    (λ (e : 2 * first ≡ 2 ^ n.memory).
    let one : 1 * 2 ^ n.memory ≡ 2 * first = one-mul (2 ^ n.memory) ∙ sym e in
    let sum : 2 * (first + step) ≡ 1 * 2 ^ n.memory + 2 * step = omega arith in
    sum ∙ sym (xor_shifted 1 n.memory (2 * step) small) ∙ ap (λ (x : ℕ). bit_xor x (2 * step)) one)
    start

-- The states before those of a half differ as they do.
pub back_step : (n : Numbers) (first step g : ℕ) → StartsHalf n first → 2 * step < 2 ^ n.memory → back n (first + step) g ≡ bit_xor (back n first g) (2 * step)
back_step n first step g start small =
    let s = syndrome (polynomials n) g in
    ap (λ (x : ℕ). bit_xor x s) (doubled n first step start small) ∙ xor_assoc (2 * first) (2 * step) s
    ∙ ap (bit_xor (2 * first)) (xor_comm (2 * step) s) ∙ sym (xor_assoc (2 * first) s (2 * step))

pub half_state : (n : Numbers) (first step : ℕ) → StartsHalf n first → 2 * step < 2 ^ n.memory → first + step < 2 ^ n.memory
half_state n first step start small = ⊎_elim (λ (e : first ≡ 0). omega arith) (λ (e : 2 * first ≡ 2 ^ n.memory). omega arith) start

pub half_first : (k : Code) (first : ℕ) → StartsHalf k.numbers first → first < 2 ^ k.numbers.memory
half_first k first start =
    let some = states_least k in
    ⊎_elim (λ (e : first ≡ 0). omega arith) (λ (e : 2 * first ≡ 2 ^ k.numbers.memory). omega arith) start

pub ways_eight : (k : Code) → (k.numbers.checked ≡ 1 → ⊥) → (k.numbers.checked ≡ 2 → ⊥) → 8 ≡ 2 ^ k.numbers.checked
ways_eight k one two =
    let least = checked_least k in
    let most = checked_most k in
    let e : k.numbers.checked ≡ 3 = omega arith in
    sym (ap (λ (x : ℕ). 2 ^ x) e)

-- The ways of a code, by what each is.
pub known_by : {X : Type 0} (k : Code) (bs : List Survivor) (worth : X → ℕ) (first : ℕ) (ways : List (Way X)) → length ways ≡ 2 ^ k.numbers.checked → StartsHalf k.numbers first → ((u : ℕ) (d : Way X) → u < length ways → Into k.numbers bs worth first u (get_or ways u d)) → Known k bs worth first ways
known_by k bs worth first ways long start each = record {
  pairs = long;
  start = start;
  into = λ u w h e. subst (Into k.numbers bs worth first u) (sym e) (each u w h);
}

pub reaches : {X : Type 0} (k : Code) (bs : List Survivor) (worth : X → ℕ) (first step : ℕ) (ways : List (Way X)) → Known k bs worth first ways → 2 * step < 2 ^ k.numbers.memory → Reaches ways step (2 ^ k.numbers.memory)
reaches k bs worth first step ways known small u w h e = xor_lt k.numbers.memory w.before (2 * step) (known.into u w h e).low small

-- The elements behind the first of a list that is known under another name.
module _ {X : Type 0} (xs all : List X) (is : all ≡ xs) where
  pub length-others : length (take (length all - 1) (drop 1 all)) ≡ length xs - 1
  length-others = length-take-le (length all - 1) (drop 1 all) (omega (arith, length-drop 1 all)) ∙ ap (λ (ys : List X). length ys - 1) is

  pub other_at : (i : ℕ) (x : X) → i < length (take (length all - 1) (drop 1 all)) → x ≡ get_or (take (length all - 1) (drop 1 all)) i x → x ≡ get_or xs (i + 1) x
  other_at i x l at =
      at ∙ get_or-take (length all - 1) (drop 1 all) i x (omega (arith, length-others, ap length is)) ∙ get_or-drop 1 all i x
      ∙ (λ j. get_or (is j) (add_comm 1 i j) x)

-- The best of a pair of groups, by its way.
pub way_best : {X : Type 0} (k : Code) (s : Scores) (row : ℕ → Survivor) (bs : List Survivor) (worth : X → ℕ) (first step u : ℕ) (ways : List (Way X)) (w : Way X) (r : Survivor) → Known k bs worth first ways → 2 * step < 2 ^ k.numbers.memory → u < length ways → w ≡ get_or ways u w → GroupsBest k.numbers (label_worth k.numbers s) (2 ^ (k.numbers.checked + 1)) bs → Exact k.numbers row bs → ((row (bit_xor w.before (2 * step))).worth + worth w.last.score < 2 ^ 30 → r ≡ continued (row (bit_xor w.before (2 * step))) (survivor worth w.last)) → PairBest k.numbers s row (first + step) u r
way_best k s row bs worth first step u ways w r known small few at groups exact made =
    let n = k.numbers in
    let all = known.pairs in
    let into = known.into u w few at in
    let start = known.start in
    let g = into.group in
    let from = bit_xor w.before (2 * step) in
    let of = into.pair in
    let groups_are = pairs_are n.checked in
    let within : from < 2 ^ n.memory = xor_lt n.memory w.before (2 * step) into.low small in
    let is : from ≡ back n (first + step) g = ap (λ (x : ℕ). bit_xor x (2 * step)) into.before ∙ sym (back_step n first step g start small) in
    let sum = exact from g within (omega arith) in
    let last = ap (λ (v : Survivor). v.worth) into.last in
    pair_best k s row (first + step) (half_state n first step start small) u g from (get_or bs g no_survivor) r of is within
    (made (omega arith) ∙ ap (continued (row from)) into.last) (groups g (omega arith))
