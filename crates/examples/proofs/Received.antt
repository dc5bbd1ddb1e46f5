-- Clean readings of labels: a path of worth 0 has those labels, so that only its start state is left to try.
use Rattle.std.proofs.Common.{◌≡◌, ℕ, zero, suc, ◌<◌, ◌≤◌, ◌-◌, true, List, [], ◌∷◌, length, reverse, sym, refl, ◌∙◌, subst, inr, arith, lit<, lit≤}
use native.Mathlib.Nat.{zero-mod}
use lib.Count.{ones, ones_in}
use Rattle.examples.specs.Examples.{one_place_code, readings, received, scores}
use Rattle.fronts.specs.TableLaws.{table_meaning}
use Rattle.reception.specs.Accepted.{IsCode}
use Rattle.reception.specs.Answer.{told, delivered, Told, Delivered}
use Rattle.reception.specs.Block.{block, capacity}
use Rattle.reception.specs.Least.{PathOver, LeastPath, LeastWorth, Marks, NoLater, Chosen}
use Rattle.reception.specs.Worth.{Scores, path_worth}
use Rattle.reception.proofs.CleanReadings.{AllReads, sent_reads}
use Rattle.reception.proofs.CleanRuns.{takes_clean}
use Rattle.reception.proofs.Codes.{accepted}
use Rattle.reception.proofs.SharpScores.{AllSharp, turned_self, path_nought, nought_turned}
use Rattle.trellis.specs.Numbers.{polynomials}
use Rattle.trellis.specs.Path.{Leads}
use Rattle.trellis.specs.Transparency.{Labels}
use Rattle.trellis.specs.Words.{words_of}
use Rattle.trellis.proofs.StepLaws.{turned_known}

is_code : IsCode one_place_code
unfolding ones ones_in
is_code = record { limits = refl; polynomials = refl; parity = refl }

-- A path of worth 0 has the labels that were read clean.
module _ (zs : List ℕ) (ss : List Scores) (sharp : AllSharp one_place_code 0 zs ss) (labels : Labels one_place_code zs) where
  nought : path_worth one_place_code ss zs ≡ 0
  nought = path_nought one_place_code is_code 0 ss zs zs sharp (turned_self one_place_code is_code 0 (zero-mod 8) zs)

  same_labels : (S : ℕ) (ys : List ℕ) → PathOver one_place_code ss S ys → path_worth one_place_code ss ys ≡ 0 → ys ≡ zs
  same_labels S ys p e =
      let known = turned_known one_place_code (accepted one_place_code is_code) 0 zs in
      known ys p.labels (nought_turned one_place_code is_code 0 ss zs ys sharp p.long e)
      ∙ sym (known zs labels (turned_self one_place_code is_code 0 (zero-mod 8) zs))

  -- Where no state leads along the labels, no path has worth 0.
  pub never_nought : ((S E : ℕ) → S < 4 → Leads (polynomials one_place_code) S zs E → ⊥) → (x : ℕ) → LeastWorth one_place_code ss x → 1 ≤ x
  never_nought no_start zero w = let p = w.is_least.path in absurd (no_start w.start p.leads.0 p.state (subst (λ (ys : List ℕ). Leads (polynomials one_place_code) w.start ys p.leads.0) (same_labels w.start w.labels p w.has) p.leads.1))
  never_nought no_start (suc x) w = omega arith

  -- Where S alone leads along them, to E, that path is delivered, and it is sole.
  module _ (S E : ℕ) (way : Leads (polynomials one_place_code) S zs E) (path : PathOver one_place_code ss S zs) (only : (T F : ℕ) → T < 4 → Leads (polynomials one_place_code) T zs F → (T ≡ S) × (F ≡ E)) where
    least : LeastPath one_place_code ss S zs
    least = let none = nought in record { path = path; least = λ T ys p. omega arith }

    same : (T : ℕ) (ys : List ℕ) → PathOver one_place_code ss T ys → path_worth one_place_code ss ys ≡ 0 → (T ≡ S) × (ys ≡ zs)
    same T ys p e =
        let are = same_labels T ys p e in
        ((only T p.leads.0 p.state (subst (λ (l : List ℕ). Leads (polynomials one_place_code) T l p.leads.0) are p.leads.1)).0, are)

    marks-sole : Marks one_place_code ss (path_worth one_place_code ss zs) true
    marks-sole = record {
      set_sole = λ _ T U xs ys p q e f.
          let one = same T xs p (e ∙ nought) in
          let two = same U ys q (f ∙ nought) in
          (one.0 ∙ sym two.0, one.1 ∙ sym two.1);
      sole_set = λ _. refl;
    }

    not-later : (xs : List ℕ) → NoLater xs xs
    not-later [] = tt
    not-later (x ∷ xs) = inr (refl, not-later xs)

    chosen-sole : Chosen one_place_code ss S zs E
    chosen-sole = record {
      is_least = least;
      ends = way;
      first = λ T ys F l leads.
          let none = nought in
          let down = l.least S zs path in
          let e : path_worth one_place_code ss ys ≡ 0 = omega arith in
          let are = (same T ys l.path e).1 in
          let end = (only T F l.path.state (subst (λ (k : List ℕ). Leads (polynomials one_place_code) T k F) are leads)).1 in
          subst (λ (k : List ℕ). NoLater (E ∷ reverse zs) k) (λ i. sym end i ∷ reverse (sym are i)) (not-later (E ∷ reverse zs));
    }

    pub told-sole : Told one_place_code ss (told (length ss) 0 true)
    told-sole = record {
      worth = 0;
      sole = true;
      least = record { start = S; labels = zs; is_least = least; has = nought };
      marks = subst (λ (x : ℕ). Marks one_place_code ss x true) nought marks-sole;
      says = refl;
    }

    pub delivered-sole : Delivered one_place_code ss (delivered (length ss - 1) true (words_of one_place_code zs))
    delivered-sole = record { start = S; labels = zs; end = E; sole = true; chosen = chosen-sole; marks = marks-sole; says = refl }

-- The scores are sharp at the labels, which are the phases of this code.
abbrev turned : List ℕ
turned = 4 ∷ 2 ∷ 3 ∷ 5 ∷ []

abbrev betrayed : List ℕ
betrayed = 2 ∷ 0 ∷ 1 ∷ 3 ∷ []

sharp_scores : (zs : List ℕ) → length zs ≤ capacity 20 one_place_code → AllReads table_meaning one_place_code 0 zs (readings one_place_code zs) → received one_place_code zs ≡ block one_place_code (scores one_place_code zs) → AllSharp one_place_code 0 zs (scores one_place_code zs)
sharp_scores zs room reads is =
    let took = takes_clean one_place_code is_code table_meaning 0 0 20 zs (readings one_place_code zs) [] reads (omega arith) in
    let holds : received one_place_code zs ≡ block one_place_code took.scores = took.holds in
    let same : scores one_place_code zs ≡ took.scores = cc in
    subst (AllSharp one_place_code 0 zs) (sym same) took.sharp

sharp_turned : AllSharp one_place_code 0 turned (scores one_place_code turned)
sharp_turned = sharp_scores turned (lit≤ tt) (sent_reads one_place_code is_code table_meaning turned) refl

sharp_betrayed : AllSharp one_place_code 0 betrayed (scores one_place_code betrayed)
sharp_betrayed = sharp_scores betrayed (lit≤ tt) (sent_reads one_place_code is_code table_meaning betrayed) refl

labels_turned : Labels one_place_code turned
labels_turned = (lit< tt, (lit< tt, (lit< tt, (lit< tt, tt))))

labels_betrayed : Labels one_place_code betrayed
labels_betrayed = (lit< tt, (lit< tt, (lit< tt, (lit< tt, tt))))

-- Only state 0 leads along the turned labels, and no state along the betrayed ones.
only_turned : (T F : ℕ) → T < 4 → Leads (polynomials one_place_code) T turned F → (T ≡ 0) × (F ≡ 3)
only_turned zero F h l = (refl, sym l.1.1.1.1)
only_turned (suc zero) F h l = absurd (omega arith)
only_turned (suc (suc zero)) F h l = absurd (omega arith)
only_turned (suc (suc (suc zero))) F h l = absurd (omega arith)
only_turned (suc (suc (suc (suc T)))) F h l = absurd (omega arith)

pub none-betrayed : (x : ℕ) → LeastWorth one_place_code (scores one_place_code betrayed) x → 1 ≤ x
none-betrayed = never_nought betrayed (scores one_place_code betrayed) sharp_betrayed labels_betrayed no_start
  where
    no_start : (S E : ℕ) → S < 4 → Leads (polynomials one_place_code) S betrayed E → ⊥
    no_start zero E h l = omega arith
    no_start (suc zero) E h l = omega arith
    no_start (suc (suc zero)) E h l = omega arith
    no_start (suc (suc (suc zero))) E h l = omega arith
    no_start (suc (suc (suc (suc S)))) E h l = omega arith

way_turned : Leads (polynomials one_place_code) 0 turned 3
way_turned = (refl, (refl, (refl, (refl, refl))))

path_turned : PathOver one_place_code (scores one_place_code turned) 0 turned
path_turned = record { state = lit< tt; labels = labels_turned; long = refl; leads = (3, way_turned) }

pub told-turned : Told one_place_code (scores one_place_code turned) (told 4 0 true)
told-turned = told-sole turned (scores one_place_code turned) sharp_turned labels_turned 0 3 way_turned path_turned only_turned

pub delivered-turned : Delivered one_place_code (scores one_place_code turned) (delivered 3 true (3 ∷ 1 ∷ 2 ∷ []))
unfolding ones ones_in
delivered-turned = delivered-sole turned (scores one_place_code turned) sharp_turned labels_turned 0 3 way_turned path_turned only_turned
