-- What deliver answers from C: through at most 255 words, which is as many as a block has.
use Rattle.std.proofs.Common.{◌≡◌, ℕ, ◌-◌, ◌<◌, ◌≤◌, min, Bool, true, false, cond, eqb, ltb, ◌⊎◌, List, length, sym, refl, ap, ◌∙◌, subst, ⊎_elim, arith}
use Rattle.std.proofs.lemmas.Bool.{eqb-true, lt-ltb, le-ltb, ltb-false, cases_lt}
use Rattle.receiver.specs.declared.record.Progress.{Progress}
use Rattle.receiver.specs.Stands.{StandsBy}
use Rattle.reception.specs.Answer.{Answer, refused, delivered, Delivered, NoPath, DeliverAnswers}
use Rattle.reception.specs.Block.{Block, no_block, block, deliver_refusal}
use Rattle.reception.specs.Worth.{Scores}
use Rattle.survivors.specs.Best.{Survivor}
use Rattle.trellis.specs.declared.Numbers.{Numbers}

ltb-same : (words len l : ℕ) → words ≡ min len 255 → l ≤ 256 → ltb words (l - 1) ≡ ltb len (l - 1)
ltb-same words len l e h =
    ⊎_elim
    (λ (p : len < l - 1). lt-ltb words (l - 1) (omega arith) ∙ sym (lt-ltb len (l - 1) p))
    (λ (p : l - 1 ≤ len). le-ltb words (l - 1) (omega arith) ∙ sym (le-ltb len (l - 1) p))
    (cases_lt len (l - 1))

-- A buffer of more than 255 words serves as one of 255.
pub any_room : {K : Type 0} (says : K → Survivor) (cs : List K) (p : Progress) (b : Block) (words len : ℕ) (a : Answer) → words ≡ min len 255 → StandsBy says cs p b → DeliverAnswers words b a → DeliverAnswers len b a
any_room says cs p no_block words len a e s d = d
any_room says cs p (block n ss) words len a e s d =
    let few : length ss ≤ 256 = omega (arith, s.2.few) in
    let same : deliver_refusal (block n ss) words ≡ deliver_refusal (block n ss) len =
    ap (λ (t : Bool). cond (ltb (length ss) 2) 23 (cond t 10 0)) (ltb-same words len (length ss) e few) in
    let T : ℕ → Type 0 = λ (R : ℕ). cond (eqb R 0) (Delivered n ss a ⊎ NoPath n ss a) (a ≡ refused R) in
    subst T same d

not_short : (c d : Bool) → ◌≡◌ {A = ℕ} (cond c 23 (cond d 10 0)) 0 → d ≡ false
not_short true d e = absurd (omega arith)
not_short false true e = absurd (omega arith)
not_short false false e = refl

fits_by : (n : Numbers) (ss : List Scores) (len k : ℕ) (m : Bool) (ws : List ℕ) (t : Bool) → eqb (deliver_refusal (block n ss) len) 0 ≡ t
    → cond t (Delivered n ss (delivered k m ws) ⊎ NoPath n ss (delivered k m ws)) (delivered k m ws ≡ refused (deliver_refusal (block n ss) len)) → k ≤ len
fits_by n ss len k m ws true e d =
    let nought = eqb-true (deliver_refusal (block n ss) len) 0 e in
    let room = ltb-false len (length ss - 1) (not_short (ltb (length ss) 2) (ltb len (length ss - 1)) nought) in
    ⊎_elim
    (λ (x : Delivered n ss (delivered k m ws)). let is : k ≡ length ss - 1 = cc x.says in omega arith)
    (λ (x : NoPath n ss (delivered k m ws)). let o : ◌≡◌ {A = ℕ} 0 1 = cc x.says in absurd (omega arith))
    d
fits_by n ss len k m ws false e d = let o : ◌≡◌ {A = ℕ} 0 1 = cc in absurd (omega arith)

-- What is delivered fits the buffer.
pub delivered_fits : (b : Block) (len k : ℕ) (m : Bool) (ws : List ℕ) → DeliverAnswers len b (delivered k m ws) → k ≤ len
delivered_fits no_block len k m ws d = let o : ◌≡◌ {A = ℕ} 0 1 = cc in absurd (omega arith)
delivered_fits (block n ss) len k m ws d = fits_by n ss len k m ws (eqb (deliver_refusal (block n ss) len) 0) refl d
