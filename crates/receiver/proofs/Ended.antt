-- What tell and deliver answer.
use Rattle.std.proofs.Common.{◌≡◌, ℕ, ◌+◌, ◌-◌, ◌*◌, ◌/◌, ◌^◌, ◌<◌, ◌≤◌, Bool, cond, eqb, ltb, ◌⊎◌, List, [], ◌∷◌, ◌++◌, length, take, drop, Some, None, Option, unwrap_or, sym, refl, ap, ◌∙◌, subst, inl, mul-le-mul_right, div-mul-le_self, arith}
use lib.Seq.{take-append_seam}
use Rattle.std.proofs.lemmas.List.{length-map}
use Rattle.code.specs.declared.record.Code.{Code}
use Rattle.code.specs.declared.units.Word.{Word}
use Rattle.std.proofs.lemmas.Bool.{le-ltb}
use Rattle.reception.specs.Accepted.{IsCode}
use Rattle.reception.specs.Answer.{Answer, refused, told, delivered, Told, Delivered, NoPath, TellAnswers, DeliverAnswers}
use Rattle.reception.specs.Block.{Block, block, deliver_refusal}
use Rattle.reception.specs.Least.{Marks}
use Rattle.reception.specs.Worth.{Scores}
use Rattle.receiver.specs.Cells.{survivor, survivors}
use Rattle.receiver.specs.Delivery.{numbers_in, Writes}
use Rattle.receiver.specs.EndState.{BlockEnd}
use Rattle.receiver.specs.Stands.{rows_in, Holds}
use Rattle.receiver.specs.declared.cell.Cell.{Cell}
use Rattle.receiver.proofs.Standing.{StandsFor}
use Rattle.survivors.proofs.Found.{Found, found}
use Rattle.survivors.proofs.Traced.{length-trace}
use Rattle.survivors.specs.Rows.{BestEnd}
use Rattle.survivors.specs.Best.{Survivor}
use Rattle.survivors.specs.Trace.{trace, trace_start}
use Rattle.trellis.specs.declared.Numbers.{Numbers}
use Rattle.trellis.specs.Words.{words_of}

module _ (n : Numbers) (ss : List Scores) (row : ℕ → ℕ → Survivor) (c : Survivor) (f : Found n ss row c) where
  told-found : (k : ℕ) → k ≡ length ss → Told n ss (told k c.worth c.sole)
  told-found k is = record { worth = c.worth; sole = c.sole; least = f.least; marks = f.marks; says = ap (λ (j : ℕ). told j c.worth c.sole) is }

  delivered_found : (k : ℕ) (ws : List ℕ) → k ≡ length ss - 1 → ws ≡ words_of n (trace n row (length ss) c.label) → Delivered n ss (delivered k c.sole ws)
  delivered_found k ws is words =
      record {
        start = trace_start n row (length ss) c.label;
        labels = trace n row (length ss) c.label;
        end = c.label;
        sole = c.sole;
        chosen = f.chosen;
        marks = subst (λ (x : ℕ). Marks n ss x c.sole) (sym f.worth) f.marks;
        says = λ i. delivered (is i) c.sole (words i);
      }

-- Once symbols are taken.
pub tell_some : (n : Numbers) (ss : List Scores) (row : ℕ → ℕ → Survivor) (c : Survivor) → Found n ss row c → (k : ℕ) → k ≡ length ss → 0 < k → TellAnswers (block n ss) (told k c.worth c.sole)
tell_some n [] row c f k is some = absurd (omega arith)
tell_some n (s ∷ ss) row c f k is some = told-found n (s ∷ ss) row c f k is

module _ (n : Numbers) (ss : List Scores) (len : ℕ) where
  none-refused : 2 ≤ length ss → length ss - 1 ≤ len → deliver_refusal (block n ss) len ≡ 0
  none-refused m l =
      ap (λ (b : Bool). cond b 23 (cond (ltb len (length ss - 1)) 10 0)) (le-ltb _ _ m) ∙ ap (λ (b : Bool). cond b 10 0) (le-ltb _ _ l)

  abbrev by_refusal : Answer → ℕ → Type 0
  by_refusal a r = cond (eqb r 0) (Delivered n ss a ⊎ NoPath n ss a) (a ≡ refused r)

  pub deliver_some : 2 ≤ length ss → length ss - 1 ≤ len → (row : ℕ → ℕ → Survivor) (c : Survivor) → Found n ss row c → (k : ℕ) (ws : List ℕ) → k ≡ length ss - 1 → ws ≡ words_of n (trace n row (length ss) c.label) → DeliverAnswers len (block n ss) (delivered k c.sole ws)
  deliver_some m l row c f k ws is words =
      subst (by_refusal (delivered k c.sole ws)) (sym (none-refused m l)) (inl (delivered_found n ss row c f k ws is words))

-- The words of labels are one fewer than the labels.
pub length_words : (n : Numbers) (zs : List ℕ) → length (words_of n zs) ≡ length zs - 1
length_words n [] = refl
length_words n (y ∷ []) = refl
length_words n (y ∷ z ∷ zs) = let e = length_words n (z ∷ zs) in omega arith

-- A block with a symbol has a row for it.
pub block_room : {K : Type 0} (says : K → Survivor) (cs : List K) (n : Numbers) (ss : List Scores) → Holds says cs n ss → 0 < length ss → (length ss + 1) * 2 ^ n.memory ≤ length cs
block_room says cs n ss h some =
    let few = h.few in
    let rows : length ss + 1 ≤ length cs / 2 ^ n.memory = omega arith in
    let up = mul-le-mul_right (2 ^ n.memory) rows in
    let whole = div-mul-le_self (length cs) (2 ^ n.memory) in omega arith

-- What a receiver with a block open answers, from the end that it found.
module _ {K S : Type 0} (says : K → Survivor) (worth : S → ℕ) (cs : List K) (k : Code) (count : ℕ) (b : Block) (o : StandsFor says cs k count b) where
  row_long : length (survivors says cs) ≡ length cs
  row_long = length-map cs says

  pub end_there : 0 < count → BlockEnd worth (survivors says cs) k.numbers count None → ⊥
  end_there some none =
      none (subst (λ (j : ℕ). (j + 1) * 2 ^ k.numbers.memory ≤ length (survivors says cs)) (sym o.counts)
      (subst (λ (j : ℕ). (length o.scores + 1) * 2 ^ k.numbers.memory ≤ j) (sym row_long)
      (block_room says cs k.numbers o.scores o.holds (subst (λ (j : ℕ). 0 < j) o.counts some))))

  module _ (c : Cell S) (end : BlockEnd worth (survivors says cs) k.numbers count (Some c)) where
    is_code : IsCode k.numbers
    is_code = record { limits = k.limits; polynomials = k.polynomials; parity = k.parity }

    found_at : Found k.numbers o.scores (rows_in says cs k.numbers) (survivor worth c)
    found_at =
        found k.numbers o.scores (rows_in says cs k.numbers) (survivor worth c) is_code o.holds.rows
        (subst (λ (j : ℕ). BestEnd k.numbers (rows_in says cs k.numbers j) (survivor worth c)) o.counts end.1)

    pub tell-end : 0 < count → TellAnswers b (told count (worth c.score) c.sole)
    tell-end some =
        subst (λ (x : Block). TellAnswers x (told count (worth c.score) c.sole)) (sym o.is)
        (tell_some k.numbers o.scores (rows_in says cs k.numbers) (survivor worth c) found_at count o.counts some)

    pub deliver-end : (before after : List Word) → 2 ≤ count → count - 1 ≤ length before → Writes k.numbers (rows_in says cs k.numbers) count c.label before after → DeliverAnswers (length before) b (delivered (count - 1) c.sole (take (count - 1) (numbers_in after)))
    deliver-end before after some room writes =
        let m = k.numbers in
        let row = rows_in says cs m in
        let ws = words_of m (trace m row count c.label) in
        let long : length ws ≡ count - 1 = length_words m (trace m row count c.label) ∙ ap (λ (j : ℕ). j - 1) (length-trace m row count c.label) in
        let first : take (count - 1) (numbers_in after) ≡ ws =
        ap (take (count - 1)) (writes o.scores (sym o.counts) o.holds.rows)
        ∙ ap (λ (j : ℕ). take j (ws ++ drop (count - 1) (numbers_in before))) (sym long) ∙ take-append_seam ws (drop (count - 1) (numbers_in before)) in
        let is = o.counts in
        subst (λ (x : Block). DeliverAnswers (length before) x (delivered (count - 1) c.sole (take (count - 1) (numbers_in after)))) (sym o.is)
        (deliver_some m o.scores (length before) (omega arith) (omega arith) row (survivor worth c) found_at (count - 1) (take (count - 1) (numbers_in after))
        (ap (λ (j : ℕ). j - 1) is) (first ∙ ap (λ (j : ℕ). words_of m (trace m row j c.label)) is))

  -- From the end that was found, or none.
  pub tell_by : (found : Option (Cell S)) (none end : Cell S) → BlockEnd worth (survivors says cs) k.numbers count found → end ≡ unwrap_or found none → 0 < count → TellAnswers b (told count (worth end.score) end.sole)
  tell_by None none end ends is some = absurd (end_there some ends)
  tell_by (Some c) none end ends is some = subst (λ (x : Cell S). TellAnswers b (told count (worth x.score) x.sole)) (sym is) (tell-end c ends some)
