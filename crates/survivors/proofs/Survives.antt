-- What a survivor says of all the paths that end in its state.
use Rattle.std.proofs.Common.{◌≡◌, ℕ, zero, suc, ◌+◌, ◌^◌, ◌<◌, ◌≤◌, true, List, [], ◌∷◌, ◌++◌, reverse, length, get_or, take, sym, ap, ◌∙◌, subst, subst₂, inl, inr, ⊎_elim, arith, take-suc}
use Rattle.std.proofs.lemmas.List.{reverse-append}
use Rattle.std.proofs.lemmas.List.{length-take-le, nil_from_length, same_from_push}
use Rattle.std.proofs.lemmas.Bool.{cases_lt}
use Rattle.reception.specs.Accepted.{IsCode}
use Rattle.reception.specs.Least.{NoLater}
use Rattle.reception.specs.Worth.{Scores, label_worth, path_worth}
use Rattle.survivors.specs.Best.{Survivor, Best}
use Rattle.survivors.specs.Rows.{back, Enters, through, AloneBefore, Rows, no_scores}
use Rattle.survivors.specs.Trace.{trace, trace_start}
use Rattle.survivors.proofs.Ends.{Ends, ends_push, LastOff, last_off, worth_push}
use Rattle.survivors.proofs.Traced.{traced}
use Rattle.trellis.specs.declared.Numbers.{Numbers}

-- The survivor of state E in row t, after the symbols ss: the way back has its worth, no path to E has less, of those of its
-- worth the way back comes first by the last label, then the one before, and so on, and the sole mark is set exactly where no
-- other path to E has its worth.
pub record Survives (n : Numbers) (ss : List Scores) (row : ℕ → ℕ → Survivor) (t E : ℕ) : Type 0 where
  pub has : path_worth n ss (trace n row t E) ≡ (row t E).worth
  pub least : (S : ℕ) (zs : List ℕ) → Ends n t S E zs → (row t E).worth ≤ path_worth n ss zs
  pub first : (S : ℕ) (zs : List ℕ) → Ends n t S E zs → path_worth n ss zs ≡ (row t E).worth → NoLater (reverse (trace n row t E)) (reverse zs)
  pub set_sole : (row t E).sole ≡ true → (S : ℕ) (zs : List ℕ) → Ends n t S E zs → path_worth n ss zs ≡ (row t E).worth → zs ≡ trace n row t E
  pub sole_set : ((S : ℕ) (zs : List ℕ) → Ends n t S E zs → path_worth n ss zs ≡ (row t E).worth → zs ≡ trace n row t E) → (row t E).sole ≡ true

module _ (n : Numbers) (code : IsCode n) (ss : List Scores) (s : Scores) (row : ℕ → ℕ → Survivor) (t : ℕ) (long : length ss ≡ t) (way : (E : ℕ) → E < 2 ^ n.memory → Ends n t (trace_start n row t E) E (trace n row t E)) (each : (E : ℕ) → E < 2 ^ n.memory → Survives n ss row t E) (E : ℕ) (best : Best (Enters n E) (through n s (row t) E) (AloneBefore n (row t) E) (row (suc t) E)) where
  -- the worth of a path with label z last
  worth_with : (S : ℕ) (zs : List ℕ) (z : ℕ) → Ends n t S (back n E z) zs → path_worth n (ss ++ (s ∷ [])) (zs ++ (z ∷ [])) ≡ path_worth n ss zs + label_worth n s z
  worth_with S zs z p = worth_push n ss s zs z (p.long ∙ sym long)

  worth_through : (S : ℕ) (zs : List ℕ) (z : ℕ) → Ends n t S (back n E z) zs → path_worth n ss zs ≡ (row t (back n E z)).worth → path_worth n (ss ++ (s ∷ [])) (zs ++ (z ∷ [])) ≡ through n s (row t) E z
  worth_through S zs z p w = worth_with S zs z p ∙ ap (λ (k : ℕ). k + label_worth n s z) w

  -- a path to E, its last label and the state before: what its worth says of them
  record Through (S : ℕ) (zs : List ℕ) : Type 0 where
    off : LastOff n t S E zs
    sum : path_worth n (ss ++ (s ∷ [])) zs ≡ path_worth n ss off.front + label_worth n s off.last
    above : (row t (back n E off.last)).worth ≤ path_worth n ss off.front

  goes_through : (S : ℕ) (zs : List ℕ) → Ends n (suc t) S E zs → Through S zs
  goes_through S zs p =
      let off = last_off code p in
      record {
        off = off;
        sum = ap (path_worth n (ss ++ (s ∷ []))) off.is ∙ worth_with S off.front off.last off.before;
        above = (each (back n E off.last) off.enters.1).least S off.front off.before;
      }

  -- a path of the survivor's worth: its last label is as good, and the path before it is of the survivor's worth there
  record Tight (S : ℕ) (zs : List ℕ) : Type 0 where
    off : LastOff n t S E zs
    label : through n s (row t) E off.last ≡ (row (suc t) E).worth
    front : path_worth n ss off.front ≡ (row t (back n E off.last)).worth

  is_tight : (S : ℕ) (zs : List ℕ) → Ends n (suc t) S E zs → path_worth n (ss ++ (s ∷ [])) zs ≡ (row (suc t) E).worth → Tight S zs
  is_tight S zs p w =
      let q = goes_through S zs p in
      let sum = q.sum in
      let above = q.above in
      let low = best.least q.off.last q.off.enters in
      record { off = q.off; label = omega arith; front = omega arith }

  -- where that label is the survivor's, the path before it is to the state before the survivor's
  front_there : (S : ℕ) (zs : List ℕ) (q : Tight S zs) → q.off.last ≡ (row (suc t) E).label → Ends n t S (back n E (row (suc t) E).label) q.off.front × (path_worth n ss q.off.front ≡ (row t (back n E (row (suc t) E).label)).worth)
  front_there S zs q e =
      subst (λ (z : ℕ). Ends n t S (back n E z) q.off.front × (path_worth n ss q.off.front ≡ (row t (back n E z)).worth)) e (q.off.before, q.front)

  survives_more : Survives n (ss ++ (s ∷ [])) row (suc t) E
  survives_more =
      let z = (row (suc t) E).label in
      let enters = best.inside in
      let B = back n E z in
      let at = each B enters.1 in
      record {
        has = worth_through (trace_start n row t B) (trace n row t B) z (way B enters.1) at.has ∙ best.has;
        least = λ S zs p.
            let q = goes_through S zs p in
            let sum = q.sum in
            let above = q.above in
            let low = best.least q.off.last q.off.enters in
            omega arith;
        first = λ S zs p w.
            let q = is_tight S zs p w in
            let last = q.off.last in
            let low = best.lowest last q.off.enters q.label in
            let order : NoLater (z ∷ reverse (trace n row t B)) (last ∷ reverse q.off.front) =
            ⊎_elim inl (λ (l : last ≤ z). let e : last ≡ z = omega arith in let there = front_there S zs q e in inr (sym e, at.first S q.off.front there.0 there.1)) (cases_lt z last) in
            subst₂ NoLater (sym (reverse-append (trace n row t B) (z ∷ []))) (sym (ap reverse q.off.is ∙ reverse-append q.off.front (last ∷ []))) order;
        set_sole = λ e S zs p w.
            let q = is_tight S zs p w in
            let alone = best.set_sole e in
            let same = alone.1 q.off.last q.off.enters q.label in
            let there = front_there S zs q same in
            let front = at.set_sole alone.0 S q.off.front there.0 there.1 in
            q.off.is ∙ λ i. front i ++ (same i ∷ []);
        sole_set = λ only.
            let alone = at.sole_set (λ S zs p w. (same_from_push zs (trace n row t B) z z (only S (zs ++ (z ∷ [])) (ends_push E z enters.0 p) (worth_through S zs z p w ∙ best.has))).0) in
            best.sole_set alone (λ y in' w.
            let C = back n E y in
            (same_from_push (trace n row t C) (trace n row t B) y z (only (trace_start n row t C) (trace n row t C ++ (y ∷ [])) (ends_push E y in'.0 (way C in'.1)) (worth_through (trace_start n row t C) (trace n row t C) y (way C in'.1) (each C in'.1).has ∙ w))).1);
      }

-- Before any symbol: the empty path, alone.
survives_none : (n : Numbers) (row : ℕ → ℕ → Survivor) (E : ℕ) → ((row 0 E).worth ≡ 0) × ((row 0 E).sole ≡ true) → Survives n [] row 0 E
survives_none n row E h =
    let none = h.0 in
    record {
      has = sym none;
      least = λ S zs p. omega arith;
      first = λ S zs p w. tt;
      set_sole = λ _ S zs p w. nil_from_length zs p.long;
      sole_set = λ only. h.1;
    }

-- Every survivor of the rows, after the first t symbols.
pub survives : (n : Numbers) (ss : List Scores) (row : ℕ → ℕ → Survivor) → IsCode n → Rows n ss row → (t : ℕ) → t ≤ length ss → (E : ℕ) → E < 2 ^ n.memory → Survives n (take t ss) row t E
survives n ss row code rows zero h E e = survives_none n row E (rows.begins E e)
survives n ss row code rows (suc t) h E e =
    let more = survives_more n code (take t ss) (get_or ss t no_scores) row t (length-take-le t ss (omega arith)) (λ F. traced n ss row rows t F (omega arith)) (survives n ss row code rows t (omega arith)) E (rows.follows t h E e) in
    subst (λ (ps : List Scores). Survives n ps row (suc t) E) (sym (take-suc ss t no_scores h)) more
