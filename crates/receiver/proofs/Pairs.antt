-- The best branch into a state, pair of groups by pair.
use Rattle.std.proofs.Common.{◌≡◌, ℕ, ◌+◌, ◌*◌, ◌/◌, ◌%◌, ◌^◌, ◌<◌, ◌≤◌, List, length, get_or, sym, refl, ap, ◌∙◌, subst, inl, inr, ⊎_elim, mod-lt, add-one, arith, pow_pos}
use Rattle.std.proofs.lemmas.List.{get_or-map}
use Rattle.std.proofs.lemmas.Bool.{and_parts, and_from, cases_eq}
use Rattle.code.specs.declared.record.Code.{Code}
use Rattle.receiver.specs.declared.cell.Cell.{Cell}
use Rattle.receiver.specs.Cells.{survivor, survivors, no_survivor}
use Rattle.receiver.specs.Entered.{continued, PairBest, EntersBest}
use Rattle.receiver.specs.Grouped.{InGroup, GroupBest, better}
use Rattle.reception.specs.Worth.{Scores, label_worth}
use Rattle.survivors.specs.Best.{Survivor, Best}
use Rattle.survivors.specs.Rows.{back, Enters, through, AloneBefore}
use Rattle.survivors.proofs.Join.{best_same, join_best}
use Rattle.trellis.specs.declared.Numbers.{Numbers}
use Rattle.trellis.proofs.Gather.{double}
use Rattle.receiver.proofs.Syndromes.{back_group, enters_sole}

module _ (k : Code) (s : Scores) (row : ℕ → Survivor) (E : ℕ) (small : E < 2 ^ k.numbers.memory) where
  abbrev n : Numbers
  n = k.numbers

  group_enters : (g from : ℕ) (b : Survivor) → from ≡ back n E g → GroupBest n (label_worth n s) g b → Best (InGroup n g) (through n s row E) (AloneBefore n row E) (continued (row from) b)
  group_enters g from b is best =
      let f = label_worth n s in
      let R = row from in
      let same : (z : ℕ) → InGroup n g z → back n E z ≡ from = λ z i. sym (back_group k E z) ∙ ap (back n E) i.1 ∙ sym is in
      let worth : (z : ℕ) → InGroup n g z → through n s row E z ≡ R.worth + f z = λ z i. ap (λ (S : ℕ). (row S).worth + f z) (same z i) in
      let back_worth : (z : ℕ) → InGroup n g z → through n s row E z ≡ R.worth + b.worth → f z ≡ b.worth = λ z i e. let w = worth z i in omega arith in
      let sole : (z : ℕ) → InGroup n g z → (row (back n E z)).sole ≡ R.sole = λ z i. ap (λ (S : ℕ). (row S).sole) (same z i) in
      record {
        inside = best.inside;
        has = worth b.label best.inside ∙ ap (λ (x : ℕ). R.worth + x) best.has;
        least = λ z i. let w = worth z i in let l = best.least z i in omega arith;
        lowest = λ z i e. best.lowest z i (back_worth z i e);
        set_sole = λ e. let both = and_parts R.sole b.sole e in (sole b.label best.inside ∙ both.0, λ z i w. (best.set_sole both.1).1 z i (back_worth z i w));
        sole_set = λ u only. and_from R.sole b.sole (sym (sole b.label best.inside) ∙ u) (best.sole_set tt (λ z i w. only z i (worth z i ∙ ap (λ (x : ℕ). R.worth + x) w)));
      }

  -- The group of a pair that enters gives the best of the pair.
  pub pair_best : (u g from : ℕ) (b r : Survivor) → g / 2 ≡ u → from ≡ back n E g → from < 2 ^ n.memory → r ≡ continued (row from) b → GroupBest n (label_worth n s) g b → PairBest n s row E u r
  pair_best u g from b r of-g is low made best =
      subst (PairBest n s row E u) (sym made)
      (best_same (group_enters g from b is best)
      (λ z i. ((i.0, subst (λ (x : ℕ). x < 2 ^ n.memory) (is ∙ sym (ap (back n E) i.1) ∙ back_group k E z) low), ap (λ (x : ℕ). x / 2) i.1 ∙ of-g))
      (λ z i. (i.0.0, enters_sole k E u (z % 2 ^ (n.checked + 1)) g small i.1 of-g (subst (λ (x : ℕ). x < 2 ^ n.memory) (sym (back_group k E z)) i.0.1) (subst (λ (x : ℕ). x < 2 ^ n.memory) is low)))
      (λ z i. refl) (λ z i v. v) (λ z i v. v))

-- The labels that enter by the first pairs.
abbrev FirstPairs : Numbers → ℕ → ℕ → ℕ → Type 0
FirstPairs n E u z = Enters n E z × (z % 2 ^ (n.checked + 1) / 2 < u)

abbrev pub PairsBest : Numbers → Scores → (ℕ → Survivor) → ℕ → ℕ → Survivor → Type 0
PairsBest n s row E u c = Best (FirstPairs n E u) (through n s row E) (AloneBefore n row E) c

module _ (n : Numbers) (s : Scores) (row : ℕ → Survivor) (E : ℕ) where
  pub pairs_one : (c : Survivor) → PairBest n s row E 0 c → PairsBest n s row E 1 c
  pairs_one c best =
      best_same best (λ z i. (i.0, let e = i.1 in omega arith)) (λ z i. (i.0, let l = i.1 in omega arith)) (λ z i. refl) (λ z i v. v) (λ z i v. v)

  pub pairs_more : (u : ℕ) (a c r : Survivor) → r ≡ better a c → PairsBest n s row E u a → PairBest n s row E u c → PairsBest n s row E (u + 1) r
  pairs_more u a c r made first next =
      subst (PairsBest n s row E (u + 1)) (sym made)
      (best_same (join_best first next (λ z i j. let l = i.1 in let e = j.1 in omega arith))
      (λ z. ⊎_elim (λ i. (i.0, let l = i.1 in omega arith)) (λ j. (j.0, let e = j.1 in omega arith)))
      (λ z i. ⊎_elim (λ (e : z % 2 ^ (n.checked + 1) / 2 ≡ u). inr (i.0, e)) (λ (e : z % 2 ^ (n.checked + 1) / 2 ≡ u → ⊥). inl (i.0, let l = i.1 in omega arith)) (cases_eq (z % 2 ^ (n.checked + 1) / 2) u))
      (λ z i. refl) (λ z i v. v) (λ z i v. v))

  pub pairs_all : (u : ℕ) (c : Survivor) → 2 ^ (n.checked + 1) / 2 ≤ u → PairsBest n s row E u c → EntersBest n s row E c
  pairs_all u c past best =
      let w = 2 ^ (n.checked + 1) in
      let even : w ≡ 2 * 2 ^ n.checked = ap (λ (x : ℕ). 2 ^ x) (add-one n.checked) ∙ double n.checked in
      best_same best (λ z i. i.0) (λ z i. (i, let l : z % w < w = mod-lt z (pow_pos (n.checked + 1)) in omega arith)) (λ z i. refl) (λ z i v. v) (λ z i v. v)

-- What is read from a list of cells.
pub read_survivor : {X : Type 0} (worth : X → ℕ) (cs : List (Cell X)) (i : ℕ) (x : Cell X) → i < length cs → x ≡ get_or cs i x → survivor worth x ≡ get_or (survivors (survivor worth) cs) i no_survivor
read_survivor worth cs i x within is = ap (survivor worth) is ∙ sym (get_or-map (survivor worth) cs i x no_survivor within)
