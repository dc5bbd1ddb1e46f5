-- The best of some labels: the joining of two candidates, and what a best one is determined by.
use Rattle.std.proofs.Common.{◌≡◌, ℕ, ◌<◌, ◌≤◌, min, true, false, cond, ltb, ◌⊎◌, sym, refl, ◌∙◌, subst, inl, inr, ⊎_elim, arith}
use Rattle.std.proofs.Math.Logic.{⊎_swap}
use Rattle.std.proofs.lemmas.Bool.{false≢true, ltb-true, ltb-false, cases_lt, cond_both}
use Rattle.std.proofs.lemmas.Bool.Decides.{same_from_decides}
use Rattle.survivors.specs.Best.{Survivor, Best}

-- Two survivors of equal worth: the lower label, and none is alone.
abbrev pub tied : Survivor → Survivor → Survivor
tied a b = record { worth = a.worth; label = min a.label b.label; sole = false }

-- The better of two: less worth wins.
abbrev pub join : Survivor → Survivor → Survivor
join a b = cond (ltb a.worth b.worth) a (cond (ltb b.worth a.worth) b (tied a b))

-- Only what P, the worths and U say of the labels in P matters.
pub best_same : {P Q : ℕ → Type 0} {f g : ℕ → ℕ} {U V : ℕ → Type 0} {c : Survivor} → Best P f U c → ((z : ℕ) → P z → Q z) → ((z : ℕ) → Q z → P z) → ((z : ℕ) → P z → f z ≡ g z) → ((z : ℕ) → P z → U z → V z) → ((z : ℕ) → P z → V z → U z) → Best Q g V c
best_same {Q = Q} {f = f} {g = g} {c = c} r to from same there here =
    let i = r.inside in
    let sames : (z : ℕ) → Q z → g z ≡ c.worth → f z ≡ c.worth = λ z q e. same z (from z q) ∙ e in
    record {
      inside = to c.label i;
      has = sym (same c.label i) ∙ r.has;
      least = λ z q. subst (λ (k : ℕ). c.worth ≤ k) (same z (from z q)) (r.least z (from z q));
      lowest = λ z q e. r.lowest z (from z q) (sames z q e);
      set_sole = λ e. (there c.label i (r.set_sole e).0, λ z q w. (r.set_sole e).1 z (from z q) (sames z q w));
      sole_set = λ v only. r.sole_set (here c.label i v) (λ z p w. only z (to z p) (sym (same z p) ∙ w));
    }

-- The best of one label: that label.
pub best_one : {f : ℕ → ℕ} {U : ℕ → Type 0} (c : Survivor) → f c.label ≡ c.worth → (c.sole ≡ true → U c.label) → (U c.label → c.sole ≡ true) → Best (λ z. z ≡ c.label) f U c
best_one {f} c is there here = record {
  inside = refl;
  has = is;
  least = λ z e. rw e (omega arith);
  lowest = λ z e w. omega arith;
  set_sole = λ s. (there s, λ z e w. e);
  sole_set = λ u only. here u;
}

mark_goes : {P : ℕ → Type 0} {f : ℕ → ℕ} {U : ℕ → Type 0} {a b : Survivor} → Best P f U a → Best P f U b → a.worth ≡ b.worth → a.label ≡ b.label → a.sole ≡ true → b.sole ≡ true
mark_goes {U = U} r s worths labels e =
    s.sole_set (subst U labels (r.set_sole e).0) (λ z p w. (r.set_sole e).1 z p (w ∙ sym worths) ∙ labels)

-- Two best survivors of the same labels are the same.
pub best_sole_value : {P : ℕ → Type 0} {f : ℕ → ℕ} {U : ℕ → Type 0} {a b : Survivor} → Best P f U a → Best P f U b → (a.worth ≡ b.worth) × (a.label ≡ b.label) × (a.sole ≡ b.sole)
best_sole_value {f = f} {a = a} {b = b} r s =
    let up : a.worth ≤ f b.label = r.least b.label s.inside in
    let down : b.worth ≤ f a.label = s.least a.label r.inside in
    let a-has = r.has in
    let b-has = s.has in
    let worths : a.worth ≡ b.worth = omega arith in
    let one : a.label ≤ b.label = r.lowest b.label s.inside (s.has ∙ sym worths) in
    let two : b.label ≤ a.label = s.lowest a.label r.inside (r.has ∙ worths) in
    let labels : a.label ≡ b.label = omega arith in
    (worths, labels, same_from_decides {P = a.sole ≡ true} a.sole b.sole (λ e. e, λ e. e) (mark_goes s r (sym worths) (sym labels), mark_goes r s worths labels))

-- Of two kinds of labels, a best one of the first is best of both where it has less worth than that of the second.
less_best : {P Q : ℕ → Type 0} {f : ℕ → ℕ} {U : ℕ → Type 0} {a b : Survivor} → Best P f U a → Best Q f U b → a.worth < b.worth → Best (λ z. P z ⊎ Q z) f U a
less_best {Q = Q} {f = f} {a = a} r s less =
    let never : (z : ℕ) → Q z → f z ≡ a.worth → ⊥ = λ z q e. omega (arith, s.least z q) in
    record {
      inside = inl r.inside;
      has = r.has;
      least = λ z. ⊎_elim (r.least z) (λ (q : Q z). omega (arith, s.least z q));
      lowest = λ z. ⊎_elim (r.lowest z) (λ (q : Q z) e. absurd (never z q e));
      set_sole = λ e. ((r.set_sole e).0, λ z. ⊎_elim ((r.set_sole e).1 z) (λ (q : Q z) w. absurd (never z q w)));
      sole_set = λ u only. r.sole_set u (λ z p. only z (inl p));
    }

either_min : (P : ℕ → Type 0) (x y : ℕ) → P x → P y → P (min x y)
either_min P x y p q =
    ⊎_elim (λ (l : x < y). let e : x ≡ min x y = omega arith in subst P e p) (λ (l : y ≤ x). let e : y ≡ min x y = omega arith in subst P e q) (cases_lt x y)

tied_best : {P Q : ℕ → Type 0} {f : ℕ → ℕ} {U : ℕ → Type 0} {a b : Survivor} → Best P f U a → Best Q f U b → ((z : ℕ) → P z → Q z → ⊥) → a.worth ≡ b.worth → Best (λ z. P z ⊎ Q z) f U (tied a b)
tied_best {P} {Q} {f} {a = a} {b = b} r s apart even = record {
  inside = either_min (λ z. P z ⊎ Q z) a.label b.label (inl r.inside) (inr s.inside);
  has = either_min (λ z. f z ≡ a.worth) a.label b.label r.has (s.has ∙ sym even);
  least = λ z. ⊎_elim (r.least z) (λ (q : Q z). omega (arith, s.least z q));
  lowest = λ z. ⊎_elim (λ (p : P z) e. omega (arith, r.lowest z p e)) (λ (q : Q z) e. omega (arith, s.lowest z q (e ∙ even)));
  set_sole = λ e. absurd (false≢true e);
  sole_set = λ u only.
      let one = only a.label (inl r.inside) r.has in
      let two = only b.label (inr s.inside) (s.has ∙ sym even) in
      absurd (apart a.label r.inside (subst Q (two ∙ sym one) s.inside));
}

-- The better of the best of two kinds of labels is the best of both, where no label is of both kinds.
pub join_best : {P Q : ℕ → Type 0} {f : ℕ → ℕ} {U : ℕ → Type 0} {a b : Survivor} → Best P f U a → Best Q f U b → ((z : ℕ) → P z → Q z → ⊥) → Best (λ z. P z ⊎ Q z) f U (join a b)
join_best {P} {Q} {f} {U} {a} {b} r s apart =
    cond_both (ltb a.worth b.worth) a _ (Best (λ z. P z ⊎ Q z) f U) (λ e. less_best r s (ltb-true _ _ e))
    (λ e. cond_both (ltb b.worth a.worth) b (tied a b) (Best (λ z. P z ⊎ Q z) f U)
    (λ g. best_same (less_best s r (ltb-true _ _ g)) (λ z. ⊎_swap) (λ z. ⊎_swap) (λ z p. refl) (λ z p u. u) (λ z p u. u))
    (λ g. let le = ltb-false _ _ e in let ge = ltb-false _ _ g in tied_best r s apart (omega arith)))
