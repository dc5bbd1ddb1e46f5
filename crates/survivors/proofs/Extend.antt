-- The rows of one symbol more.
use Rattle.std.proofs.Common.{◌≡◌, ℕ, suc, ◌+◌, ◌^◌, ◌<◌, ◌≤◌, true, List, [], ◌∷◌, ◌++◌, length, get_or, sym, ap, subst, ⊎_elim, arith}
use Rattle.std.proofs.lemmas.List.{length_push, get_or_append_left, get_or_push}
use Rattle.std.proofs.lemmas.Bool.{cases_lt}
use Rattle.reception.specs.Worth.{Scores, label_worth}
use Rattle.survivors.specs.Best.{Survivor, Best}
use Rattle.survivors.specs.Rows.{back, Enters, through, AloneBefore, Follows, Rows, no_scores}
use Rattle.survivors.proofs.Join.{best_same}
use Rattle.trellis.specs.declared.Numbers.{Numbers}

-- Only the states of the code matter in two rows of which one follows the other.
pub follows_same : (n : Numbers) (s : Scores) (row next row' next' : ℕ → Survivor) → ((E : ℕ) → E < 2 ^ n.memory → row E ≡ row' E) → ((E : ℕ) → E < 2 ^ n.memory → next E ≡ next' E) → Follows n s row next → Follows n s row' next'
follows_same n s row next row' next' rows nexts follows E e =
    subst (Best (Enters n E) (through n s row' E) (AloneBefore n row' E)) (nexts E e)
    (best_same (follows E e) (λ z p. p) (λ z p. p) (λ z p. ap (λ (c : Survivor). c.worth + label_worth n s z) (rows (back n E z) p.1))
    (λ z p. subst (λ (c : Survivor). c.sole ≡ true) (rows (back n E z) p.1))
    (λ z p. subst (λ (c : Survivor). c.sole ≡ true) (sym (rows (back n E z) p.1))))

-- Rows that agree with those of the symbols ss at every state of the code, and a row that follows them after one symbol
-- more.
pub rows_more : (n : Numbers) (ss : List Scores) (s : Scores) (row row' : ℕ → ℕ → Survivor) → ((t E : ℕ) → t ≤ length ss → E < 2 ^ n.memory → row t E ≡ row' t E) → Rows n ss row → Follows n s (row' (length ss)) (row' (suc (length ss))) → Rows n (ss ++ (s ∷ [])) row'
rows_more n ss s row row' same rows follows = record {
  begins = λ E e. subst (λ (c : Survivor). (c.worth ≡ 0) × (c.sole ≡ true)) (same 0 E (omega arith) e) (rows.begins E e);
  follows = λ t h.
      let long = length_push ss s in
      ⊎_elim
      (λ (l : t < length ss).
      subst (λ (r : Scores). Follows n r (row' t) (row' (suc t))) (sym (get_or_append_left ss (s ∷ []) no_scores t l))
      (follows_same n (get_or ss t no_scores) (row t) (row (suc t)) (row' t) (row' (suc t)) (λ E. same t E (omega arith)) (λ E. same (suc t) E l) (rows.follows t l)))
      (λ (g : length ss ≤ t).
      let last : length ss ≡ t = omega arith in
      subst (λ (r : Scores). Follows n r (row' t) (row' (suc t))) (sym (get_or_push ss s no_scores t last))
      (subst (λ (k : ℕ). Follows n s (row' k) (row' (suc k))) last follows))
      (cases_lt t (length ss));
}
