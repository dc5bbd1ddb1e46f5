-- What the rows give at the best end state.
use Rattle.std.proofs.Common.{◌≡◌, ℕ, ◌^◌, ◌<◌, ◌≤◌, true, List, ◌∷◌, reverse, length, sym, ◌∙◌, subst, subst₂, inl, inr, ⊎_elim, arith}
use Rattle.std.proofs.lemmas.List.{take_all}
use Rattle.std.proofs.lemmas.Bool.{cases_lt}
use Rattle.reception.specs.Accepted.{IsCode}
use Rattle.reception.specs.Least.{PathOver, LeastPath, LeastWorth, Sole, Marks, NoLater, Chosen}
use Rattle.reception.specs.Worth.{Scores, path_worth}
use Rattle.survivors.specs.Best.{Survivor}
use Rattle.survivors.specs.Rows.{Rows, BestEnd}
use Rattle.survivors.specs.Trace.{trace, trace_start}
use Rattle.survivors.proofs.Ends.{Ends, ends_path, path_ends, end_sole, end_below}
use Rattle.survivors.proofs.Survives.{Survives, survives}
use Rattle.survivors.proofs.Traced.{traced}
use Rattle.trellis.specs.declared.Numbers.{Numbers}
use Rattle.trellis.specs.Numbers.{polynomials}
use Rattle.trellis.specs.Path.{Leads}
use Rattle.trellis.proofs.Branches.{start_sole}

-- What the rows give at the best end state c.
pub record Found (n : Numbers) (ss : List Scores) (row : ℕ → ℕ → Survivor) (c : Survivor) : Type 0 where
  pub worth : path_worth n ss (trace n row (length ss) c.label) ≡ c.worth
  pub least : LeastWorth n ss c.worth
  pub marks : Marks n ss c.worth c.sole
  pub chosen : Chosen n ss (trace_start n row (length ss) c.label) (trace n row (length ss) c.label) c.label

module _ (n : Numbers) (ss : List Scores) (row : ℕ → ℕ → Survivor) (c : Survivor) (code : IsCode n) (way : (E : ℕ) → E < 2 ^ n.memory → Ends n (length ss) (trace_start n row (length ss) E) E (trace n row (length ss) E)) (each : (E : ℕ) → E < 2 ^ n.memory → Survives n ss row (length ss) E) (best : BestEnd n (row (length ss)) c) where
  -- no path has less worth than the best end state
  above : (S : ℕ) (zs : List ℕ) (E : ℕ) → Ends n (length ss) S E zs → (E < 2 ^ n.memory) × (c.worth ≤ (row (length ss) E).worth) × ((row (length ss) E).worth ≤ path_worth n ss zs)
  above S zs E p = let e = end_below code p in (e, best.least E e, (each E e).least S zs p)

  -- the way back from there has its worth
  worth_there : path_worth n ss (trace n row (length ss) c.label) ≡ c.worth
  worth_there = (each c.label best.inside).has ∙ best.has

  least_there : LeastPath n ss (trace_start n row (length ss) c.label) (trace n row (length ss) c.label)
  least_there = record {
    path = ends_path (way c.label best.inside);
    least = λ S zs p. let up = above S zs p.leads.0 (path_ends p p.leads.0 p.leads.1) in let there = worth_there in omega arith;
  }

  -- a path of that worth: its end state is as good
  tight : (S : ℕ) (zs : List ℕ) (E : ℕ) → Ends n (length ss) S E zs → path_worth n ss zs ≡ c.worth → (E < 2 ^ n.memory) × ((row (length ss) E).worth ≡ c.worth)
  tight S zs E p w = let up = above S zs E p in (up.0, omega arith)

  -- a path to a state that is the best one ends in the best one
  there : (S : ℕ) (zs : List ℕ) (E : ℕ) → Ends n (length ss) S E zs → E ≡ c.label → Ends n (length ss) S c.label zs
  there S zs E p e = subst (λ (F : ℕ). Ends n (length ss) S F zs) e p

  -- where the mark is set, a path of that worth is the way back
  same_there : c.sole ≡ true → (S : ℕ) (zs : List ℕ) → PathOver n ss S zs → path_worth n ss zs ≡ c.worth → (S ≡ trace_start n row (length ss) c.label) × (zs ≡ trace n row (length ss) c.label)
  same_there e S zs p w =
      let E = p.leads.0 in
      let ends = path_ends p E p.leads.1 in
      let alone = best.set_sole e in
      let at = each c.label best.inside in
      let path = way c.label best.inside in
      let up = tight S zs E ends w in
      let here = there S zs E ends (alone.1 E up.0 up.1) in
      let labels = at.set_sole alone.0 S zs here (w ∙ sym best.has) in
      (start_sole (polynomials n) S _ (trace n row (length ss) c.label) c.label (subst (λ (ys : List ℕ). Leads (polynomials n) S ys c.label) labels here.leads) path.leads, labels)

  -- where no two paths have that worth, the mark is set
  mark_set : Sole n ss c.worth → c.sole ≡ true
  mark_set sole =
      let at = each c.label best.inside in
      let path = way c.label best.inside in
      let k = length ss in
      let T = trace_start n row k c.label in
      let ys = trace n row k c.label in
      best.sole_set
      (at.sole_set (λ S zs p w. (sole S T zs ys (ends_path p) (ends_path path) (w ∙ best.has) worth_there).1))
      (λ E e w.
      let same = sole (trace_start n row k E) T (trace n row k E) ys (ends_path (way E e)) (ends_path path) ((each E e).has ∙ w) worth_there in
      end_sole (polynomials n) T ys E c.label (subst₂ (λ (S : ℕ) (zs : List ℕ). Leads (polynomials n) S zs E) same.0 same.1 (way E e).leads) path.leads)

  -- of the least paths the way back comes first
  first_there : (T : ℕ) (ys : List ℕ) (F : ℕ) → LeastPath n ss T ys → Leads (polynomials n) T ys F → NoLater (c.label ∷ reverse (trace n row (length ss) c.label)) (F ∷ reverse ys)
  first_there T ys F l leads =
      let ends = path_ends l.path F leads in
      let down = l.least _ _ least_there.path in
      let up = least_there.least T ys l.path in
      let worth = worth_there in
      let w : path_worth n ss ys ≡ c.worth = omega arith in
      let at-end = tight T ys F ends w in
      let low = best.lowest F at-end.0 at-end.1 in
      ⊎_elim inl (λ (g : F ≤ c.label). let e : F ≡ c.label = omega arith in inr (sym e, (each c.label best.inside).first T ys (there T ys F ends e) (w ∙ sym best.has))) (cases_lt c.label F)

  found_at : Found n ss row c
  found_at = record {
    worth = worth_there;
    least = record { start = trace_start n row (length ss) c.label; labels = trace n row (length ss) c.label; is_least = least_there; has = worth_there };
    marks = record {
      set_sole = λ e S T zs ys p q w x.
          let one = same_there e S zs p w in
          let two = same_there e T ys q x in
          (one.0 ∙ sym two.0, one.1 ∙ sym two.1);
      sole_set = mark_set;
    };
    chosen = record { is_least = least_there; ends = (way c.label best.inside).leads; first = first_there };
  }

pub found : (n : Numbers) (ss : List Scores) (row : ℕ → ℕ → Survivor) (c : Survivor) → IsCode n → Rows n ss row → BestEnd n (row (length ss)) c → Found n ss row c
found n ss row c code rows best =
    let k = length ss in
    let each : (E : ℕ) → E < 2 ^ n.memory → Survives n ss row k E = λ E e. subst (λ (ps : List Scores). Survives n ps row k E) (take_all k ss (omega arith)) (survives n ss row code rows k (omega arith) E e) in
    found_at n ss row c code (λ E. traced n ss row rows k E (omega arith)) each best
