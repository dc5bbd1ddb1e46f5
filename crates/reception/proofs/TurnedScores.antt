-- Scores that are turned by r: then the paths over them match those that they were turned from.
use Rattle.std.proofs.Common.{◌≡◌, ℕ, zero, suc, ◌+◌, ◌%◌, ◌<◌, ◌≤◌, List, [], ◌∷◌, ◌++◌, length, sym, refl, ap, ◌∙◌, subst, ap₂, arith}
use Rattle.reception.specs.Accepted.{IsCode}
use Rattle.reception.specs.Least.{PathOver}
use Rattle.reception.specs.Worth.{Scores, places_worth, path_worth}
use Rattle.reception.proofs.Codes.{phase_below}
use Rattle.reception.proofs.Matchings.{Matching}
use Rattle.trellis.specs.declared.Numbers.{Numbers}
use Rattle.trellis.specs.Mapper.{phase_at}
use Rattle.trellis.specs.Transparency.{IsPath, Turned, Correspondence}

-- The scores s' of a symbol are the scores s, r phases further on.
pub record TurnedBy (n : Numbers) (r : ℕ) (s s' : Scores) : Type 0 where
  pub at : (a m : ℕ) → a < n.places → m < n.phases → s' a ((m + r) % n.phases) ≡ s a m

abbrev pub AllTurned : Numbers → ℕ → List Scores → List Scores → Type 0
AllTurned n r [] [] = Unit {0}
AllTurned n r [] (s' ∷ rs) = ⊥
AllTurned n r (s ∷ ss) [] = ⊥
AllTurned n r (s ∷ ss) (s' ∷ rs) = TurnedBy n r s s' × AllTurned n r ss rs

pub turned_equal : (n : Numbers) (r : ℕ) (ss rs : List Scores) → AllTurned n r ss rs → length ss ≡ length rs
turned_equal n r [] [] t = refl
turned_equal n r [] (s' ∷ rs) t = absurd t
turned_equal n r (s ∷ ss) [] t = absurd t
turned_equal n r (s ∷ ss) (s' ∷ rs) t = ap suc (turned_equal n r ss rs t.1)

-- With one symbol more.
pub turned_more : (n : Numbers) (r : ℕ) (ss rs : List Scores) (s s' : Scores) → AllTurned n r ss rs → TurnedBy n r s s' → AllTurned n r (ss ++ (s ∷ [])) (rs ++ (s' ∷ []))
turned_more n r [] [] s s' t h = (h, tt)
turned_more n r [] (x ∷ rs) s s' t h = absurd t
turned_more n r (x ∷ ss) [] s s' t h = absurd t
turned_more n r (x ∷ ss) (y ∷ rs) s s' t h = (t.0, turned_more n r ss rs s s' t.1 h)

module _ (n : Numbers) (c : IsCode n) (r : ℕ) where
  places_worth_lem : (s s' : Scores) (z y k : ℕ) → TurnedBy n r s s' → ((a : ℕ) → a < n.places → phase_at n y a ≡ (phase_at n z a + r) % n.phases) → k ≤ n.places → places_worth n s' y k ≡ places_worth n s z k
  places_worth_lem s s' z y zero t h few = refl
  places_worth_lem s s' z y (suc a) t h few =
      ap₂ (λ (x w : ℕ). x + w) (places_worth_lem s s' z y a t h (omega arith))
      (ap (s' a) (h a few) ∙ t.at a (phase_at n z a) few (phase_below n c z a few))

  path_worth_lem : (ss rs : List Scores) (zs ys : List ℕ) → AllTurned n r ss rs → Turned n r zs ys → path_worth n rs ys ≡ path_worth n ss zs
  path_worth_lem [] [] zs ys t h = refl
  path_worth_lem [] (s' ∷ rs) zs ys t h = absurd t
  path_worth_lem (s ∷ ss) [] zs ys t h = absurd t
  path_worth_lem (s ∷ ss) (s' ∷ rs) [] [] t h = refl
  path_worth_lem (s ∷ ss) (s' ∷ rs) [] (y ∷ ys) t h = absurd h
  path_worth_lem (s ∷ ss) (s' ∷ rs) (z ∷ zs) [] t h = absurd h
  path_worth_lem (s ∷ ss) (s' ∷ rs) (z ∷ zs) (y ∷ ys) t h =
      ap₂ (λ (x w : ℕ). x + w) (places_worth_lem s s' z y n.places t.0 h.0 (omega arith)) (path_worth_lem ss rs zs ys t.1 h.1)

  pub matching : (ss rs : List Scores) → AllTurned n r ss rs → Correspondence n r (length ss) → Matching n ss rs
  matching ss rs t m =
      let equal = turned_equal n r ss rs t in
      let to : (S : ℕ) (zs : List ℕ) → PathOver n ss S zs → PathOver n rs S zs = λ S zs p. subst (λ (k : ℕ). IsPath n k S zs) equal p in
      let from : (S : ℕ) (zs : List ℕ) → PathOver n rs S zs → PathOver n ss S zs = λ S zs p. subst (λ (k : ℕ). IsPath n k S zs) (sym equal) p in
      let worth : (S : ℕ) (zs : List ℕ) → PathOver n ss S zs → path_worth n rs (m.forth S zs).1 ≡ path_worth n ss zs = λ S zs p. path_worth_lem ss rs zs (m.forth S zs).1 t (m.turned S zs p) in
      record {
        equal = equal;
        forth = m.forth;
        back = m.back;
        forth_path = λ S zs p. to (m.forth S zs).0 (m.forth S zs).1 (m.forth_path S zs p);
        back_path = λ S zs p. m.back_path S zs (from S zs p);
        back_forth = m.back_forth;
        forth_back = λ S zs p. m.forth_back S zs (from S zs p);
        forth_worth = worth;
        back_worth = λ S zs p.
            sym (worth (m.back S zs).0 (m.back S zs).1 (m.back_path S zs (from S zs p))) ∙ ap (λ (w : ℕ × List ℕ). path_worth n rs w.1) (m.forth_back S zs (from S zs p));
        words = m.words;
      }
