-- The loop that finds the best end state of a row.
use Rattle.std.proofs.Common.{◌≡◌, ℕ, ◌+◌, ◌<◌, ◌≤◌, true, List, ◌∷◌, length, get_or, sym, refl, ap, ◌∙◌, subst, inl, inr, ⊎_elim, add-one, arith}
use Rattle.std.proofs.lemmas.Bool.{cases_lt}
use Rattle.std.proofs.lemmas.List.{get_or-map, length-map}
use Rattle.receiver.specs.Cells.{survivors, no_survivor}
use Rattle.receiver.specs.EndState.{end_at, BestOf}
use Rattle.receiver.specs.Grouped.{better}
use Rattle.survivors.specs.Best.{Survivor, Best}
use Rattle.survivors.proofs.Join.{best_same, best_one, join_best}

-- The best of the first states of the row cs.
abbrev pub BestBelow : List Survivor → ℕ → Survivor → Type 0
BestBelow cs i c = Best (λ E. E < i) (λ E. (get_or cs E no_survivor).worth) (λ E. (get_or cs E no_survivor).sole ≡ true) c

module _ {K : Type 0} (says : K → Survivor) (row : List K) where
  abbrev cs : List Survivor
  cs = survivors says row

  read : (i : ℕ) (kept : K) → i < length row → kept ≡ get_or row i kept → end_at i (says kept) ≡ end_at i (get_or cs i no_survivor)
  read i kept room is = ap (end_at i) (ap says is ∙ sym (get_or-map says row i kept no_survivor room))

  one : (E : ℕ) → Best (λ z. z ≡ E) (λ z. (get_or cs z no_survivor).worth) (λ z. (get_or cs z no_survivor).sole ≡ true) (end_at E (get_or cs E no_survivor))
  one E = best_one (end_at E (get_or cs E no_survivor)) refl (λ e. e) (λ e. e)

  pub best_first : (kept : K) (x : Survivor) → 0 < length row → kept ≡ get_or row 0 kept → x ≡ end_at 0 (says kept) → BestBelow cs 1 x
  best_first kept x some is made =
      subst (BestBelow cs 1) (sym (made ∙ read 0 kept some is)) (best_same (one 0) (λ z e. omega arith) (λ z e. omega arith) (λ z p. refl) (λ z p u. u) (λ z p u. u))

  pub best_more : (i : ℕ) (kept : K) (a b x : Survivor) → i < length row → kept ≡ get_or row i kept → b ≡ end_at i (says kept) → x ≡ better a b → BestBelow cs i a → BestBelow cs (i + 1) x
  best_more i kept a b x room is b-is made h =
      subst (BestBelow cs (i + 1)) (sym (made ∙ ap (better a) (b-is ∙ read i kept room is)))
      (best_same (join_best h (one i) (λ z p q. omega arith)) (λ z. ⊎_elim (λ (p : z < i). omega arith) (λ (q : z ≡ i). omega arith))
      (λ z p. ⊎_elim (λ (q : z < i). inl q) (λ (q : i ≤ z). let e : z ≡ i = omega arith in inr e) (cases_lt z i))
      (λ z p. refl) (λ z p u. u) (λ z p u. u))

  -- What is read from the cells behind the first.
  pub read_behind : (x : K) (xs : List K) (i : ℕ) (kept : K) → row ≡ x ∷ xs → kept ≡ get_or xs i kept → kept ≡ get_or row (i + 1) kept
  read_behind x xs i kept row-is is = is ∙ sym ((λ j. get_or (row-is j) (add-one i j) kept))

  pub best_all : (i : ℕ) (a : Survivor) → i ≡ length row → BestBelow cs i a → BestOf cs a
  best_all i a e inv = subst (λ (j : ℕ). BestBelow cs j a) (e ∙ sym (length-map row says)) inv
