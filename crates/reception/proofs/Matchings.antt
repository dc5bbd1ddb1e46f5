-- Two lists of scores whose paths match one to one, with equal worths and words: then a receiver's answers over them agree.
use Rattle.std.proofs.Common.{◌≡◌, ℕ, ◌-◌, Bool, ◌⊎◌, List, length, sym, refl, ap, ◌∙◌, subst, subst₂, inl, inr, arith}
use Rattle.std.specs.Cmp.{both_ways}
use Rattle.reception.specs.Answer.{Answer, refused, opened, taken, told, delivered, Told, Delivered, NoPath}
use Rattle.reception.specs.Least.{PathOver, LeastPath, Sole, Marks}
use Rattle.reception.specs.Turnings.{Agree}
use Rattle.reception.specs.Worth.{Scores, path_worth}
use Rattle.trellis.specs.declared.Numbers.{Numbers}
use Rattle.trellis.specs.Words.{words_of}

-- Every path over ss has its own over rs, of the same worth and words, and every path over rs is one of those.
pub record Matching (n : Numbers) (ss rs : List Scores) : Type 0 where
  pub equal : length ss ≡ length rs
  pub forth : ℕ → List ℕ → ℕ × List ℕ
  pub back : ℕ → List ℕ → ℕ × List ℕ
  pub forth_path : (S : ℕ) (zs : List ℕ) → PathOver n ss S zs → PathOver n rs (forth S zs).0 (forth S zs).1
  pub back_path : (S : ℕ) (zs : List ℕ) → PathOver n rs S zs → PathOver n ss (back S zs).0 (back S zs).1
  pub back_forth : (S : ℕ) (zs : List ℕ) → PathOver n ss S zs → back (forth S zs).0 (forth S zs).1 ≡ (S, zs)
  pub forth_back : (S : ℕ) (zs : List ℕ) → PathOver n rs S zs → forth (back S zs).0 (back S zs).1 ≡ (S, zs)
  pub forth_worth : (S : ℕ) (zs : List ℕ) → PathOver n ss S zs → path_worth n rs (forth S zs).1 ≡ path_worth n ss zs
  pub back_worth : (S : ℕ) (zs : List ℕ) → PathOver n rs S zs → path_worth n ss (back S zs).1 ≡ path_worth n rs zs
  pub words : (S : ℕ) (zs : List ℕ) → PathOver n ss S zs → words_of n (forth S zs).1 ≡ words_of n zs

-- Soleness, one way: two paths are equal if those that they came from are.
sole_through : (n : Numbers) (ss rs : List Scores) (x : ℕ) (back forth : ℕ → List ℕ → ℕ × List ℕ) → ((S : ℕ) (zs : List ℕ) → PathOver n rs S zs → PathOver n ss (back S zs).0 (back S zs).1) → ((S : ℕ) (zs : List ℕ) → PathOver n rs S zs → forth (back S zs).0 (back S zs).1 ≡ (S, zs)) → ((S : ℕ) (zs : List ℕ) → PathOver n rs S zs → path_worth n ss (back S zs).1 ≡ path_worth n rs zs) → Sole n ss x → Sole n rs x
sole_through n ss rs x back forth back_path forth_back back_worth sole S T zs ys p q px qx =
    let one = sole (back S zs).0 (back T ys).0 (back S zs).1 (back T ys).1 (back_path S zs p) (back_path T ys q) (back_worth S zs p ∙ px) (back_worth T ys q ∙ qx) in
    let same : (S, zs) ≡ (T, ys) = sym (forth_back S zs p) ∙ (λ i. forth (one.0 i) (one.1 i)) ∙ forth_back T ys q in
    (ap (λ (w : ℕ × List ℕ). w.0) same, ap (λ (w : ℕ × List ℕ). w.1) same)

-- An answer agrees with itself.
pub agree_self : (a : Answer) → Agree a a
agree_self (refused r) = refl
agree_self (opened k) = refl
agree_self taken = refl
agree_self (told k x sole) = refl
agree_self (delivered k sole ws) = (ws, refl, λ _. refl)

pub agree_same : (a b c : Answer) → a ≡ c → b ≡ c → Agree a b
agree_same a b c e f = subst₂ Agree (sym e) (sym f) (agree_self c)

module _ (n : Numbers) (ss rs : List Scores) (m : Matching n ss rs) where
  least_there : (S : ℕ) (zs : List ℕ) → LeastPath n ss S zs → LeastPath n rs (m.forth S zs).0 (m.forth S zs).1
  least_there S zs l =
      record {
        path = m.forth_path S zs l.path;
        least = λ T ys p. omega (arith, m.forth_worth S zs l.path, l.least (m.back T ys).0 (m.back T ys).1 (m.back_path T ys p), m.back_worth T ys p);
      }

  -- Least paths have one worth,
  same_worth : (S T : ℕ) (zs ys : List ℕ) → LeastPath n ss S zs → LeastPath n rs T ys → path_worth n ss zs ≡ path_worth n rs ys
  same_worth S T zs ys l k =
      let there = least_there S zs l in
      let up = there.least T ys k.path in
      let down = k.least (m.forth S zs).0 (m.forth S zs).1 there.path in
      let is = m.forth_worth S zs l.path in
      omega arith

  -- and are sole together.
  same-marks : (x y : ℕ) (p q : Bool) → x ≡ y → Marks n ss x p → Marks n rs y q → p ≡ q
  same-marks x y p q e a b =
      both_ways p q
      (λ set. b.sole_set (subst (Sole n rs) e (sole_through n ss rs x m.back m.forth m.back_path m.forth_back m.back_worth (a.set_sole set))))
      (λ set. a.sole_set (subst (Sole n ss) (sym e) (sole_through n rs ss y m.forth m.back m.forth_path m.back_forth m.forth_worth (b.set_sole set))))

  pub told-agree : (a b : Answer) → Told n ss a → Told n rs b → Agree a b
  told-agree a b s t =
      let worth : s.worth ≡ t.worth = sym s.least.has ∙ same_worth s.least.start t.least.start s.least.labels t.least.labels s.least.is_least t.least.is_least ∙ t.least.has in
      let sole = same-marks s.worth t.worth s.sole t.sole worth s.marks t.marks in
      agree_same a b (told (length ss) s.worth s.sole) s.says (t.says ∙ sym (λ i. told (m.equal i) (worth i) (sole i)))

  both_delivered : (a b : Answer) → Delivered n ss a → Delivered n rs b → Agree a b
  both_delivered a b s t =
      let l = s.chosen.is_least in
      let k = t.chosen.is_least in
      let worth = same_worth s.start t.start s.labels t.labels l k in
      let sole = same-marks (path_worth n ss s.labels) (path_worth n rs t.labels) s.sole t.sole worth s.marks t.marks in
      let count : length ss - 1 ≡ length rs - 1 = ap (λ (x : ℕ). x - 1) m.equal in
      subst (λ (x : Answer). Agree x b) (sym s.says) (
        words_of n t.labels,
        t.says ∙ sym (λ i. delivered (count i) (sole i) (words_of n t.labels)),
        λ set.
            let there = m.forth s.start s.labels in
            let one = t.marks.set_sole (sym sole ∙ set) there.0 t.start there.1 t.labels (m.forth_path s.start s.labels l.path) k.path (m.forth_worth s.start s.labels l.path ∙ worth) refl in
            sym (m.words s.start s.labels l.path) ∙ ap (words_of n) one.1,
      )

  pub delivered_agree : (a b : Answer) → Delivered n ss a ⊎ NoPath n ss a → Delivered n rs b ⊎ NoPath n rs b → Agree a b
  delivered_agree a b (inl s) (inl t) = both_delivered a b s t
  delivered_agree a b (inl s) (inr t) = absurd (t.none (m.forth s.start s.labels).0 (m.forth s.start s.labels).1 (m.forth_path s.start s.labels s.chosen.is_least.path))
  delivered_agree a b (inr s) (inl t) = absurd (s.none (m.back t.start t.labels).0 (m.back t.start t.labels).1 (m.back_path t.start t.labels t.chosen.is_least.path))
  delivered_agree a b (inr s) (inr t) = agree_same a b (refused 24) s.says t.says
