-- The row of survivors after a symbol, state by state.
use Rattle.std.proofs.Common.{◌≡◌, ℕ, ◌+◌, ◌-◌, ◌*◌, ◌^◌, ◌<◌, ◌≤◌, List, ◌++◌, length, get_or, set, sym, ap, ◌∙◌, subst, ⊎_elim, zero-add, arith}
use Rattle.std.proofs.lemmas.List.{get_or-set_same, get_or-set_other, get_or_append_left, get_or-append_right, length-map, map-set, map-append}
use Rattle.std.proofs.lemmas.Bool.{cases_eq, cases_lt}
use Rattle.code.specs.declared.record.Code.{Code}
use Rattle.receiver.specs.Cells.{survivors, no_survivor, row_in}
use Rattle.receiver.specs.Entered.{EntersBest, Exact, Given}
use Rattle.receiver.specs.Grouped.{GroupsBest}
use Rattle.receiver.specs.Scored.{Small, Holds, label_sum}
use Rattle.receiver.specs.Stands.{RowMost}
use Rattle.receiver.specs.Ways.{HalfBest}
use Rattle.reception.specs.Worth.{Scores, label_worth}
use Rattle.survivors.specs.Best.{Survivor}
use Rattle.survivors.specs.Rows.{back, Follows}
use Rattle.survivors.proofs.Join.{best_same}
use Rattle.trellis.specs.declared.Numbers.{Numbers}
use Rattle.trellis.specs.Mapper.{symbol_of}
use Rattle.trellis.proofs.Sets.{within}
use Rattle.receiver.proofs.Limited.{places_most}
use Rattle.receiver.proofs.Sums.{sum_most, holds_sum}

-- The first states of a half have their best branches.
abbrev pub FirstBest : {K : Type 0} → (K → Survivor) → Numbers → (ℕ → Survivor) → List Survivor → ℕ → List K → ℕ → Type 0
FirstBest says n row bs first half many = Given n row bs (λ s. (E : ℕ) → E < many → EntersBest n s row (first + E) (row_in (survivors says half) E))

module _ {K : Type 0} (says : K → Survivor) (n : Numbers) (row : ℕ → Survivor) (bs : List Survivor) where
  -- One state more.
  pub first_more : (first i : ℕ) (half : List K) (kept : K) (c : Survivor) → i < length half → says kept ≡ c → Given n row bs (λ s. EntersBest n s row (first + i) c) → FirstBest says n row bs first half i → FirstBest says n row bs first (set half i kept) (i + 1)
  first_more first i half kept c room is here so_far s groups exact E h =
      let cells = survivors says half in
      let made = ap (λ (cs : List Survivor). get_or cs E no_survivor) (map-set says half i kept) in
      ⊎_elim
      (λ (e : E ≡ i).
      let value : get_or (survivors says (set half i kept)) E no_survivor ≡ c = made ∙ ap (λ (j : ℕ). get_or (set cells i (says kept)) j no_survivor) e ∙ get_or-set_same cells i (says kept) no_survivor (omega (arith, length-map half says)) ∙ is in
      subst (λ (j : ℕ). EntersBest n s row (first + j) (get_or (survivors says (set half i kept)) E no_survivor)) (sym e) (subst (EntersBest n s row (first + i)) (sym value) (here s groups exact)))
      (λ (e : E ≡ i → ⊥).
      subst (EntersBest n s row (first + E)) (sym (made ∙ get_or-set_other cells i E (says kept) no_survivor e)) (so_far s groups exact E (omega arith)))
      (cases_eq E i)

  -- Both halves.
  pub halves : (low high : List K) → length low + length high ≡ 2 ^ n.memory → HalfBest n row bs (survivors says low) 0 → HalfBest n row bs (survivors says high) (length low) → Given n row bs (λ s. Follows n s row (row_in (survivors says (low ++ high))))
  halves low high all under over s groups exact E h =
      let long = length-map low says in
      let few = length-map high says in
      let made = ap (λ (cs : List Survivor). get_or cs E no_survivor) (map-append says low high) in
      ⊎_elim
      (λ (l : E < length low).
      subst (EntersBest n s row E) (sym (made ∙ get_or_append_left (survivors says low) (survivors says high) no_survivor E (omega arith)))
      (subst (λ (j : ℕ). EntersBest n s row j (row_in (survivors says low) E)) (zero-add E) (under s groups exact E (omega arith))))
      (λ (l : length low ≤ E).
      let i = E - length low in
      let same : length low + i ≡ E = omega arith in
      subst (EntersBest n s row E) (sym (made ∙ get_or-append_right (survivors says low) (survivors says high) (length low) E no_survivor long l))
      (subst (λ (j : ℕ). EntersBest n s row j (row_in (survivors says high) i)) same (over s groups exact i (omega arith))))
      (cases_lt E (length low))

-- By the table of a symbol's scores.
module _ (k : Code) (s : Scores) (ws : List ℕ) (small : Small ws) (holds : Holds ws k.numbers.phases s k.numbers.places) where
  abbrev n : Numbers
  n = k.numbers

  label_is : (z : ℕ) → label_sum n ws z ≡ label_worth n s z
  label_is z = holds_sum n ws s z (within n k.limits) holds n.places (omega arith)

  label_most : (z : ℕ) → label_worth n s z ≤ 4194300
  label_most z = let is = label_is z in let few = places_most k in let most = sum_most ws (symbol_of n z) small n.places in omega arith

  groups_are : (bs : List Survivor) (many : ℕ) → GroupsBest n (label_sum n ws) many bs → GroupsBest n (label_worth n s) many bs
  groups_are bs many groups g h = best_same (groups g h) (λ z i. i) (λ z i. i) (λ z i. label_is z) (λ z i u. u) (λ z i u. u)

  module _ (bs : List Survivor) (row next : ℕ → Survivor) (count : ℕ) (few : count < 256) (groups : GroupsBest n (label_sum n ws) (2 ^ (n.checked + 1)) bs) (bound : RowMost n row (count * 4194300)) (given : Given n row bs (λ s'. Follows n s' row next)) where
    are : GroupsBest n (label_worth n s) (2 ^ (n.checked + 1)) bs
    are = groups_are bs (2 ^ (n.checked + 1)) groups

    exact : Exact n row bs
    exact S g l h =
        let one = bound S l in
        let has = (are g h).has in
        let most = label_most (get_or bs g no_survivor).label in
        omega arith

    pub row-follows : Follows n s row next
    row-follows = given s are exact

    pub row-most : RowMost n next ((count + 1) * 4194300)
    row-most E h =
        let best = row-follows E h in
        let has = best.has in
        let before = bound (back n E (next E).label) best.inside.1 in
        let most = label_most (next E).label in
        omega arith
