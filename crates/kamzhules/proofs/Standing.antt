-- From a struct of C to the progress that it is, and back.
use Rattle.std.proofs.Common.{◌≡◌, ℕ, Bool, true, false, cond, eqb, List, [], ◌∷◌, ◌++◌, length, Ok, Err, Result, sym, refl, ap, ◌∙◌, arith, length-append, eq-eqb}
use Rattle.std.proofs.lemmas.Bool.{eqb-true, true≢false}
use Rattle.std.proofs.lemmas.Result.{err_from_is_err_and}
use Rattle.std.specs.Result.{IsErr, IsErrAnd}
use Rattle.code.specs.declared.flaw.Flaw.{Flaw}
use Rattle.kamzhules.specs.Answers.{number_of}
use Rattle.kamzhules.specs.declared.refused.Refused.{Refused}
use Rattle.kamzhules.specs.declared.receivers.CReceiver.{CReceiver}
use Rattle.kamzhules.specs.Receivers.{StandsIn, ProgressIn, struct_number, counted}
use Rattle.kamzhules.specs.Structs.{code_in}
use Rattle.receiver.specs.declared.record.Progress.{Progress}
use Rattle.receiver.specs.declared.refusal.Refusal.{Refusal}
use Rattle.receiver.specs.declared.refusal.Refusal.TheVariants.{Cells, Closed, Full, Length, Unfit, Few, Short, NoPath}
use Rattle.receiver.specs.Refusal.{refusal_number}
use Rattle.receiver.specs.Stands.{StandsBy}
use Rattle.reception.specs.Answer.{Answer, Answers, unless_refused, refused, taken}
use Rattle.reception.specs.Block.{Block, no_block, block, takes, after, extended, take_refusal}
use Rattle.reception.specs.Front.{FrontMeaning}
use Rattle.reception.specs.Worth.{Scores, scores_of}
use Rattle.survivors.specs.Best.{Survivor}
use Rattle.trellis.specs.declared.Numbers.{Numbers}

-- A struct with a block of a code is not refused itself.
pub struct_nought : (r : CReceiver) (n : Numbers) → r.«open» ≡ 1 → code_in r.code ≡ Ok n → struct_number r ≡ 0
struct_nought r n o j =
    ap (λ t. cond t (number_of (code_in r.code)) 21) (eq-eqb r.«open» 1 o) ∙ ap number_of j

module _ (r : CReceiver) (p : Progress) (i : ProgressIn r (Ok p)) where
  pub struct_zero : struct_number r ≡ 0
  struct_zero = struct_nought r i.0.numbers i.1 i.2

  pub not_barred : {P : Type 0} → eqb (struct_number r) 0 ≡ false → P
  not_barred e = absurd (true≢false (sym (eq-eqb (struct_number r) 0 struct_zero) ∙ e))

  -- A struct that stands for a block is a progress that does.
  pub stands_by : {K : Type 0} (says : K → Survivor) (cs : List K) (b : Block) → StandsIn says cs r b → StandsBy says cs p b
  stands_by says cs no_block s = absurd (true≢false (sym (eq-eqb r.«open» 1 i.1) ∙ s))
  stands_by says cs (block n ss) s =
      let same : ◌≡◌ {A = Result Numbers Flaw} (Ok i.0.numbers) (Ok n) = sym i.2 ∙ s.1 in
      ((i.0, ap (λ x. x.code) i.3, cc), ap (λ x. x.count) i.3 ∙ s.2, s.3)

-- A struct that is refused itself stands for no block, and is refused as a call without a block is.
pub barred : {K : Type 0} (says : K → Survivor) (cs : List K) (r : CReceiver) (b : Block) (e : ℕ) (due : Block → Answer → Type 0)
    → ((a : Answer) → a ≡ refused 21 → due no_block a) → StandsIn says cs r b → e ≡ struct_number r → eqb e 0 ≡ false → due b (refused e)
barred says cs r no_block e due closed s is some =
    closed (refused e) (ap refused (is ∙ ap (λ (t : Bool). cond t (number_of (code_in r.code)) 21) s))
barred says cs r (block n ss) e due closed s is some =
    absurd (true≢false (sym (eq-eqb e 0 (is ∙ struct_nought r n s.0 s.1)) ∙ some))

-- A call that is not refused has no number.
pub answered : {P : Type 0} → eqb 0 0 ≡ false → P
answered e = absurd (true≢false e)

-- What a `?` passes up, by the refusal that it makes.
pub passed_up : {T : Type 0} (a : Result T Refused) (e : Refused) → IsErr a × IsErrAnd a (λ y. y ≡ e) → a ≡ Err e
passed_up a e h = let p = err_from_is_err_and a h.1 in p.1 ∙ ap Err p.2

-- A reading that is taken is not refused, and a refusal is the one that is due.
taken_by : (t : Bool) (R : ℕ) → taken ≡ cond t taken (refused R) → t ≡ true
taken_by true R e = refl
taken_by false R e = cc

pub taken-zero : (R : ℕ) → taken ≡ unless_refused R taken → eqb R 0 ≡ true
taken-zero R e = taken_by (eqb R 0) R e

refusal_by : (t : Bool) (k R : ℕ) → refused k ≡ cond t taken (refused R) → k ≡ R
refusal_by true k R e = cc
refusal_by false k R e = cc

pub refusal_is : (k R : ℕ) → refused k ≡ unless_refused R taken → k ≡ R
refusal_is k R e = refusal_by (eqb R 0) k R e

pub refusal_some : (e : Refusal) → eqb (refusal_number e) 0 ≡ false
refusal_some Cells = refl
refusal_some Closed = refl
refusal_some Full = refl
refusal_some Length = refl
refusal_some Unfit = refl
refusal_some Few = refl
refusal_some Short = refl
refusal_some NoPath = refl

-- The block after a reading was taken.
after-taken : {K : Type 0} (says : K → Survivor) (f : FrontMeaning) (ws : List ℕ) (cs cs' : List K) (r : CReceiver) (p : Progress) (n : Numbers) (ss : List Scores)
    → StandsIn says cs r (block n ss) → StandsBy says cs' p (block n (ss ++ (scores_of f n.phases ws ∷ [])))
    → StandsIn says cs' (counted 0 r) (block n (ss ++ (scores_of f n.phases ws ∷ [])))
after-taken says f ws cs cs' r p n ss s t =
    let long = length-append ss (scores_of f n.phases ws ∷ []) in
    (s.0, s.1, omega (arith, s.2, long, t.2.few), t.2)

pub take_done : {K : Type 0} (says : K → Survivor) (f : FrontMeaning) (ws : List ℕ) (cs cs' : List K) (r : CReceiver) (p p' : Progress) → ProgressIn r (Ok p)
    → ((b : Block) → StandsBy says cs p b → Answers (length cs) b (takes f ws) taken)
    → ((b : Block) → StandsBy says cs p b → StandsBy says cs' p' (after (length cs) b (takes f ws)))
    → (b : Block) → StandsIn says cs r b → (0 ≡ take_refusal (length cs) b f ws) × StandsIn says cs' (counted 0 r) (after (length cs) b (takes f ws))
take_done says f ws cs cs' r p p' i answer stands no_block s =
    let none = answer no_block (stands_by r p i says cs no_block s) in let o : ◌≡◌ {A = ℕ} 0 1 = cc none in absurd (omega arith)
take_done says f ws cs cs' r p p' i answer stands (block n ss) s =
    let b = block n ss in
    let by = stands_by r p i says cs b s in
    let zero_is = taken-zero (take_refusal (length cs) b f ws) (answer b by) in
    let more : after (length cs) b (takes f ws) ≡ extended b f ws = ap (λ t. cond t (extended b f ws) b) zero_is in (
      sym (eqb-true (take_refusal (length cs) b f ws) 0 zero_is),
      rw more (after-taken says f ws cs cs' r p' n ss s (rw more at (stands b by))),
    )

pub take_left : {K : Type 0} (says : K → Survivor) (f : FrontMeaning) (ws : List ℕ) (cs cs' : List K) (r : CReceiver) (p p' : Progress) (e : Refusal) → ProgressIn r (Ok p)
    → ((b : Block) → StandsBy says cs p b → Answers (length cs) b (takes f ws) (refused (refusal_number e)))
    → ((b : Block) → StandsBy says cs p b → StandsBy says cs' p' (after (length cs) b (takes f ws)))
    → (b : Block) → StandsIn says cs r b → (refusal_number e ≡ take_refusal (length cs) b f ws) × StandsIn says cs' r (after (length cs) b (takes f ws))
take_left says f ws cs cs' r p p' e i answer stands no_block s = (refusal_is (refusal_number e) 21 (answer no_block (stands_by r p i says cs no_block s)), s)
take_left says f ws cs cs' r p p' e i answer stands (block n ss) s =
    let b = block n ss in
    let by = stands_by r p i says cs b s in
    let due = refusal_is (refusal_number e) (take_refusal (length cs) b f ws) (answer b by) in
    let same : after (length cs) b (takes f ws) ≡ b = ap (λ R. cond (eqb R 0) (extended b f ws) b) (sym due) ∙ ap (λ t. cond t (extended b f ws) b) (refusal_some e) in
    (due, rw same (s.0, s.1, s.2, (rw same at (stands b by)).2))
