-- A burst that is read clean comes back as sent.
use Rattle.std.proofs.Common.{◌≡◌, ℕ, ◌+◌, ◌-◌, ◌≤◌, Bool, cond, ltb, ◌⊎◌, List, [], ◌∷◌, length, sym, ap, ◌∙◌, subst, ⊎_elim, arith}
use native.Mathlib.Nat.{zero-mod}
use Rattle.std.proofs.lemmas.Bool.{cond-false, le-ltb, eq-eqb}
use Rattle.reception.specs.Accepted.{IsCode}
use Rattle.reception.specs.Answer.{Answer, refused, delivered, Delivered, NoPath, DeliverAnswers}
use Rattle.reception.specs.Block.{Block, block, deliver_refusal}
use Rattle.reception.specs.CleanBurst.{burst_readings, DataWords, CleanBursts}
use Rattle.reception.specs.Worth.{Scores}
use Rattle.reception.proofs.CleanReadings.{sent_reads}
use Rattle.reception.proofs.CleanRuns.{takes_clean}
use Rattle.reception.proofs.Codes.{accepted}
use Rattle.reception.proofs.SentWords.{sent_words, sent_long, sent_path}
use Rattle.reception.proofs.SharpScores.{AllSharp, sharp_long, turned_self, path_nought, nought_turned}
use Rattle.trellis.specs.Burst.{labels_from}
use Rattle.trellis.specs.declared.Numbers.{Numbers}
use Rattle.trellis.specs.Words.{words_of}
use Rattle.trellis.proofs.StepLaws.{turned_known}

module _ (n : Numbers) (c : IsCode n) (ws : List ℕ) (ss : List Scores) (sharp : AllSharp n 0 (0 ∷ labels_from n 0 0 ws) ss) where
  abbrev zs : List ℕ
  zs = 0 ∷ labels_from n 0 0 ws

  long : length ss ≡ length ws + 1
  long = let many = sharp_long n 0 zs ss sharp in let same = sent_long n c ws in omega arith

  -- The path that is delivered has worth 0, so that it is the one that was sent.
  delivers_sent : (a : Answer) → DataWords n ws → Delivered n ss a → (sole : Bool) × (a ≡ delivered (length ws) sole ws)
  delivers_sent a data-words d =
      let l = d.chosen.is_least in
      let sent = sent_path n c ws (length ss) (sym long) in
      let self = turned_self n c 0 (zero-mod n.phases) zs in
      let nought = path_nought n c 0 ss zs zs sharp self in
      let least = l.least 0 zs sent in
      let turned = nought_turned n c 0 ss zs d.labels sharp l.path.long (omega arith) in
      let same : d.labels ≡ zs = turned_known n (accepted n c) 0 zs d.labels l.path.labels turned ∙ sym (turned_known n (accepted n c) 0 zs zs sent.labels self) in
      let count : length ss - 1 ≡ length ws = omega (arith, long) in
      let words : words_of n d.labels ≡ ws = ap (words_of n) same ∙ sent_words n c ws data-words in
      (d.sole, d.says ∙ (λ i. delivered (count i) d.sole (words i)))

  answers_sent : (len : ℕ) (a : Answer) → DataWords n ws → 1 ≤ length ws → length ws ≤ len → DeliverAnswers len (block n ss) a → (sole : Bool) × (a ≡ delivered (length ws) sole ws)
  answers_sent len a data-words some room answer =
      let is = long in
      let none : deliver_refusal (block n ss) len ≡ 0 = cond-false (ltb (length ss) 2) _ _ (le-ltb _ _ (omega arith)) ∙ cond-false (ltb len (length ss - 1)) _ _ (le-ltb _ _ (omega arith)) in
      let either : Delivered n ss a ⊎ NoPath n ss a = subst (λ (b : Bool). cond b (Delivered n ss a ⊎ NoPath n ss a) (a ≡ refused (deliver_refusal (block n ss) len))) (eq-eqb _ _ none) answer in
      ⊎_elim (delivers_sent a data-words) (λ (k : NoPath n ss a). absurd (k.none 0 zs (sent_path n c ws (length ss) (sym long)))) either

pub clean_bursts : CleanBursts
clean_bursts cells n f ws c opens data-words some room =
    let zs = 0 ∷ labels_from n 0 0 ws in
    let many = sent_long n c ws in
    let took = takes_clean n c f 0 0 cells zs (burst_readings f n ws) [] (sent_reads n c f zs) (omega arith) in
    record {
      accepted = took.accepted;
      words = λ len a fits answer. answers_sent n c ws took.scores took.sharp len a data-words some fits (subst (λ (b : Block). DeliverAnswers len b a) took.holds answer);
    }
