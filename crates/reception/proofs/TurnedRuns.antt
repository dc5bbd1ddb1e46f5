-- Two receivers whose turnings are equal for every code that is opened answer alike.
use Rattle.std.proofs.Common.{◌≡◌, ℕ, ◌+◌, ◌-◌, ◌*◌, ◌%◌, Bool, true, false, cond, eqb, ltb, leb, ◌⊎◌, List, [], ◌∷◌, ◌++◌, length, sym, ap, ◌∙◌, subst, subst₂, ⊎_elim, mod-lt, arith}
use Rattle.std.proofs.lemmas.Bool.{cases_Bool, cond-true, cond-false, eqb-true}
use Rattle.reception.specs.Accepted.{IsCode}
use Rattle.reception.specs.Answer.{Answer, refused, opened, taken, told, Delivered, NoPath, unless_refused, Answers, TellAnswers}
use Rattle.reception.specs.Block.{Block, no_block, block, Call, opens, takes, tells, delivers, capacity, open_refusal, take_refusal, deliver_refusal, after}
use Rattle.reception.specs.Front.{FrontMeaning}
use Rattle.reception.specs.Reading.{place_reading, all_fit, turned_by, places_turned}
use Rattle.reception.specs.Turnings.{turned_reading, turned_call, Run, Codes, EqualTurnings, Agree, AllAgree}
use Rattle.reception.specs.Worth.{Scores, scores_of}
use Rattle.reception.proofs.Codes.{some_phases, corresponds}
use Rattle.reception.proofs.Differences.{complement, difference, up_other}
use Rattle.reception.proofs.Matchings.{Matching, agree_same, told-agree, delivered_agree}
use Rattle.reception.proofs.Refusals.{takes_known, turned_reading_lem, refusal_turned, after-taken, after-refused}
use Rattle.reception.proofs.TurnedReadings.{turned_worth, worth_turned, place_turned, place_fit}
use Rattle.reception.proofs.TurnedScores.{TurnedBy, AllTurned, turned_equal, turned_more, matching}
use Rattle.trellis.specs.declared.Numbers.{Numbers}
use Rattle.trellis.specs.Step.{step}

-- The blocks of two receivers, turned by t and u: none, or those of one code with the same symbols.
data Beside (t u : ℕ) : Block → Block → Type 0 where
  neither : Beside t u no_block no_block
  both : (n : Numbers) (ss rs : List Scores) → IsCode n → t % step n ≡ u % step n → AllTurned n (difference n.phases t u) ss rs → Beside t u (block n ss) (block n rs)

-- One reading, turned by t and by u.
scores-turned : (n : Numbers) (c : IsCode n) (f : FrontMeaning) (t u : ℕ) (ws : List ℕ) → length ws ≡ n.places * f.width n.phases → all_fit f n.phases n.places ws ≡ true → TurnedBy n (difference n.phases t u) (scores_of f n.phases (places_turned f n.phases t n.places ws)) (scores_of f n.phases (places_turned f n.phases u n.places ws))
scores-turned n c f t u ws long fit =
    let M = n.phases in
    let l = n.places in
    let W = f.width M in
    record {
      at = λ a m few h.
          let here = place_fit f M l ws a fit few in
          let P = place_reading W ws a in
          let back = (m + complement M t) % M in
          let first : f.worth M (place_reading W (places_turned f M t l ws) a) m ≡ f.worth M P back = ap (λ (x : List ℕ). f.worth M x m) (place_turned f M t l ws a long few) ∙ worth_turned f M t P m here h in
          let second : f.worth M (place_reading W (places_turned f M u l ws) a) ((m + difference M t u) % M) ≡ f.worth M P back =
          ap (λ (x : List ℕ). f.worth M x ((m + difference M t u) % M)) (place_turned f M u l ws a long few) ∙ ap (f.worth M (turned_by f M u P)) (sym (up_other M t u m))
          ∙ turned_worth f M u P back here (mod-lt (m + complement M t) (some_phases n c)) in
          second ∙ sym first;
    }

-- What a call that opens a code has to say of it.
abbrev Fair : ℕ → ℕ → ℕ → Call → Type 0
Fair cells t u (opens n) = IsCode n × (open_refusal cells n ≡ 0 → t % step n ≡ u % step n)
Fair cells t u (takes f ws) = Unit {0}
Fair cells t u tells = Unit {0}
Fair cells t u (delivers len) = Unit {0}

-- An answer or a refusal, and both refuse alike.
settled : (d e : ℕ) (X Y : Type 0) (a b : Answer) → d ≡ e → cond (eqb d 0) X (a ≡ refused d) → cond (eqb e 0) Y (b ≡ refused e) → (X → Y → Agree a b) → Agree a b
settled d e X Y a b same p q f =
    let r : cond (eqb d 0) Y (b ≡ refused d) = subst (λ (k : ℕ). cond (eqb k 0) Y (b ≡ refused k)) (sym same) q in
    ⊎_elim
    (λ (z : eqb d 0 ≡ true). f (subst (λ (k : Bool). cond k X (a ≡ refused d)) z p) (subst (λ (k : Bool). cond k Y (b ≡ refused d)) z r))
    (λ (z : eqb d 0 ≡ false). agree_same a b (refused d) (subst (λ (k : Bool). cond k X (a ≡ refused d)) z p) (subst (λ (k : Bool). cond k Y (b ≡ refused d)) z r))
    (cases_Bool (eqb d 0))

module _ (cells t u : ℕ) where
  -- the refusals of a reading, as each receiver has it
  same_refusal : (n : Numbers) (ss rs : List Scores) (f : FrontMeaning) (ws : List ℕ) → length ss ≡ length rs → take_refusal cells (block n ss) f (turned_reading t (block n ss) f ws) ≡ take_refusal cells (block n rs) f (turned_reading u (block n rs) f ws)
  same_refusal n ss rs f ws e =
      refusal_turned cells n ss f t ws
      ∙ ap (λ (k : ℕ). cond (leb (capacity cells n) k) 22 (cond (eqb (length ws) (n.places * f.width n.phases)) (cond (all_fit f n.phases n.places ws) 0 9) 8)) e
      ∙ sym (refusal_turned cells n rs f u ws)

  tell_agree : (n : Numbers) (ss rs : List Scores) (a b : Answer) → Matching n ss rs → TellAnswers (block n ss) a → TellAnswers (block n rs) b → Agree a b
  tell_agree n [] [] a b m p q = agree_same a b (told 0 0 false) p q
  tell_agree n [] (s ∷ rs) a b m p q = absurd (omega (arith, m.equal))
  tell_agree n (s ∷ ss) [] a b m p q = absurd (omega (arith, m.equal))
  tell_agree n (s ∷ ss) (s' ∷ rs) a b m p q = told-agree n (s ∷ ss) (s' ∷ rs) m a b p q

  -- The answers to one call agree,
  answers_agree : (b c : Block) → Beside t u b c → (call : Call) (x y : Answer) → Answers cells b (turned_call t b call) x → Answers cells c (turned_call u c call) y → Agree x y
  answers_agree b c beside (opens n) x y p q = agree_same x y (unless_refused (open_refusal cells n) (opened (capacity cells n))) p q
  answers_agree b c neither (takes f ws) x y p q = agree_same x y (refused 21) p q
  answers_agree b c (both n ss rs k e h) (takes f ws) x y p q =
      agree_same x y _ p (q ∙ ap (λ (d : ℕ). unless_refused d taken) (sym (same_refusal n ss rs f ws (turned_equal n (difference n.phases t u) ss rs h))))
  answers_agree b c neither tells x y p q = agree_same x y (refused 21) p q
  answers_agree b c (both n ss rs k e h) tells x y p q =
      tell_agree n ss rs x y (matching n k (difference n.phases t u) ss rs h (corresponds n k t u (length ss) e)) p q
  answers_agree b c neither (delivers len) x y p q = agree_same x y (refused 21) p q
  answers_agree b c (both n ss rs k e h) (delivers len) x y p q =
      let r = difference n.phases t u in
      settled (deliver_refusal (block n ss) len) (deliver_refusal (block n rs) len) (Delivered n ss x ⊎ NoPath n ss x) (Delivered n rs y ⊎ NoPath n rs y) x y
      (ap (λ (j : ℕ). cond (ltb j 2) 23 (cond (ltb len (j - 1)) 10 0)) (turned_equal n r ss rs h)) p q
      (delivered_agree n ss rs (matching n k r ss rs h (corresponds n k t u (length ss) e)) x y)

  -- and the blocks stay beside one another.
  beside_taken : (n : Numbers) (ss rs : List Scores) (f : FrontMeaning) (ws : List ℕ) → IsCode n → t % step n ≡ u % step n → AllTurned n (difference n.phases t u) ss rs → Beside t u (after cells (block n ss) (takes f (turned_reading t (block n ss) f ws))) (after cells (block n rs) (takes f (turned_reading u (block n rs) f ws)))
  beside_taken n ss rs f ws k e h =
      let r = difference n.phases t u in
      let M = n.phases in
      let l = n.places in
      let vs = turned_reading t (block n ss) f ws in
      let us = turned_reading u (block n rs) f ws in
      let same = same_refusal n ss rs f ws (turned_equal n r ss rs h) in
      ⊎_elim
      (λ (z : eqb (take_refusal cells (block n ss) f vs) 0 ≡ true).
      let nought = eqb-true (take_refusal cells (block n ss) f vs) 0 z in
      let is = takes_known cells n ss f ws (sym (refusal_turned cells n ss f t ws) ∙ nought) in
      let first = after-taken cells n ss f vs nought ∙ ap (λ (x : List ℕ). block n (ss ++ (scores_of f M x ∷ []))) (turned_reading_lem cells n ss f t ws is.long) in
      let second = after-taken cells n rs f us (sym same ∙ nought) ∙ ap (λ (x : List ℕ). block n (rs ++ (scores_of f M x ∷ []))) (turned_reading_lem cells n rs f u ws is.long) in
      subst₂ (Beside t u) (sym first) (sym second)
      (both n _ _ k e (turned_more n r ss rs (scores_of f M (places_turned f M t l ws)) (scores_of f M (places_turned f M u l ws)) h (scores-turned n k f t u ws is.long is.fit))))
      (λ (z : eqb (take_refusal cells (block n ss) f vs) 0 ≡ false).
      subst₂ (Beside t u) (sym (after-refused cells n ss f vs z)) (sym (after-refused cells n rs f us (ap (λ (d : ℕ). eqb d 0) (sym same) ∙ z))) (both n ss rs k e h))
      (cases_Bool (eqb (take_refusal cells (block n ss) f vs) 0))

  beside_opened : (b c : Block) (n : Numbers) → Beside t u b c → IsCode n → (open_refusal cells n ≡ 0 → t % step n ≡ u % step n) → Beside t u (after cells b (opens n)) (after cells c (opens n))
  beside_opened b c n beside k e =
      ⊎_elim
      (λ (z : eqb (open_refusal cells n) 0 ≡ true). subst₂ (Beside t u) (sym (cond-true (eqb (open_refusal cells n) 0) (block n []) b z)) (sym (cond-true (eqb (open_refusal cells n) 0) (block n []) c z)) (both n [] [] k (e (eqb-true _ _ z)) tt))
      (λ (z : eqb (open_refusal cells n) 0 ≡ false). subst₂ (Beside t u) (sym (cond-false (eqb (open_refusal cells n) 0) (block n []) b z)) (sym (cond-false (eqb (open_refusal cells n) 0) (block n []) c z)) beside)
      (cases_Bool (eqb (open_refusal cells n) 0))

  beside_after : (b c : Block) → Beside t u b c → (call : Call) → Fair cells t u call → Beside t u (after cells b (turned_call t b call)) (after cells c (turned_call u c call))
  beside_after b c beside (opens n) fair = beside_opened b c n beside fair.0 fair.1
  beside_after b c neither (takes f ws) fair = neither
  beside_after b c (both n ss rs k e h) (takes f ws) fair = beside_taken n ss rs f ws k e h
  beside_after b c beside tells fair = beside
  beside_after b c beside (delivers len) fair = beside

  runs_agree : (b c : Block) → Beside t u b c → (cs : List Call) (as' bs : List Answer) → Codes cs → EqualTurnings cells t u cs → Run cells t b cs as' → Run cells u c cs bs → AllAgree as' bs
  runs_agree b c beside [] [] [] k e p q = tt
  runs_agree b c beside [] [] (y ∷ bs) k e p q = absurd q
  runs_agree b c beside [] (x ∷ as') bs k e p q = absurd p
  runs_agree b c beside (d ∷ cs) [] bs k e p q = absurd p
  runs_agree b c beside (d ∷ cs) (x ∷ as') [] k e p q = absurd q
  runs_agree b c beside (d ∷ cs) (x ∷ as') (y ∷ bs) k e p q =
      let fair = first d cs k e in (
        answers_agree b c beside d x y p.0 q.0,
        runs_agree (after cells b (turned_call t b d)) (after cells c (turned_call u c d)) (beside_after b c beside d fair.0) cs as' bs fair.1 fair.2 p.1 q.1,
      )
    where
      first : (d : Call) (cs : List Call) → Codes (d ∷ cs) → EqualTurnings cells t u (d ∷ cs) → Fair cells t u d × Codes cs × EqualTurnings cells t u cs
      first (opens n) cs k e = ((k.0, e.0), k.1, e.1)
      first (takes f ws) cs k e = (tt, k, e)
      first tells cs k e = (tt, k, e)
      first (delivers len) cs k e = (tt, k, e)

  pub alike : (cs : List Call) (as' bs : List Answer) → Codes cs → EqualTurnings cells t u cs → Run cells t no_block cs as' → Run cells u no_block cs bs → AllAgree as' bs
  alike = runs_agree no_block no_block neither
