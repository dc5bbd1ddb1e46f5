-- A block with one symbol more.
use Rattle.std.proofs.Common.{◌≡◌, ℕ, suc, ◌+◌, ◌*◌, ◌^◌, ◌<◌, ◌≤◌, List, [], ◌∷◌, ◌++◌, length, get_or, take, sym, refl, ap, ◌∙◌, subst, ⊎_elim, mul-le-mul_right, add-mul, one-mul, add-one, arith, length-append, get_or-take}
use Rattle.std.proofs.lemmas.Bool.{cases_lt}
use Rattle.reception.specs.Block.{capacity}
use Rattle.reception.specs.Worth.{Scores}
use Rattle.receiver.specs.Cells.{survivors, no_survivor}
use Rattle.receiver.specs.Stands.{rows_in, RowMost, Holds}
use Rattle.survivors.proofs.Extend.{follows_same, rows_more}
use Rattle.survivors.specs.Best.{Survivor}
use Rattle.survivors.specs.Rows.{Follows}
use Rattle.trellis.specs.declared.Numbers.{Numbers}

-- A place in the first rows.
pub row_place : (t k states E : ℕ) → t < k → E < states → t * states + E < k * states
row_place t k states E l h =
    let up : suc t * states ≤ k * states = mul-le-mul_right states l in
    let next : suc t ≡ 1 + t = omega arith in
    let more : suc t * states ≡ states + t * states = ap (λ (j : ℕ). j * states) next ∙ add-mul 1 t states ∙ ap (λ (j : ℕ). j + t * states) (one-mul states) in
    omega arith

module _ {K : Type 0} (says : K → Survivor) (cs cs' : List K) (n : Numbers) (ss : List Scores) (s : Scores)
    (old : Holds says cs n ss) (long : length cs' ≡ length cs) (room : length ss < capacity (length cs) n)
    (kept : (i : ℕ) → i < suc (length ss) * 2 ^ n.memory → get_or (survivors says cs) i no_survivor ≡ get_or (survivors says cs') i no_survivor)
    (follows : Follows n s (rows_in says cs n (length ss)) (rows_in says cs' n (suc (length ss))))
    (small : RowMost n (rows_in says cs' n (suc (length ss))) (suc (length ss) * 4194300)) where
  same : (t E : ℕ) → t ≤ length ss → E < 2 ^ n.memory → rows_in says cs n t E ≡ rows_in says cs' n t E
  same t E l h = kept (t * 2 ^ n.memory + E) (row_place t (suc (length ss)) (2 ^ n.memory) E (omega arith) h)

  longer : length (ss ++ (s ∷ [])) ≡ suc (length ss)
  longer = length-append ss (s ∷ []) ∙ omega arith

  all_small : (t E : ℕ) → t ≤ suc (length ss) → E < 2 ^ n.memory → (rows_in says cs' n t E).worth ≤ t * 4194300
  all_small t E l h =
      ⊎_elim
      (λ (before : t < suc (length ss)). subst (λ (c : Survivor). c.worth ≤ t * 4194300) (same t E (omega arith) h) (old.small t (omega arith) E h))
      (λ (last : suc (length ss) ≤ t). let is : t ≡ suc (length ss) = omega arith in subst (λ (k : ℕ). (rows_in says cs' n k E).worth ≤ k * 4194300) (sym is) (small E h))
      (cases_lt t (suc (length ss)))

  pub taken_holds : Holds says cs' n (ss ++ (s ∷ []))
  taken_holds =
      record {
        rows = rows_more n ss s (rows_in says cs n) (rows_in says cs' n) same old.rows
            (follows_same n s (rows_in says cs n (length ss)) (rows_in says cs' n (suc (length ss))) (rows_in says cs' n (length ss)) (rows_in says cs' n (suc (length ss)))
            (λ E h. same (length ss) E (omega arith) h) (λ E h. refl) follows);
        few = let e = longer in let c = ap (λ (k : ℕ). capacity k n) long in omega arith;
        small = λ t l E h. all_small t E (omega (arith, longer)) h;
      }

-- The same, from what the row step promises of a block with so many symbols.
pub extended_holds : {K : Type 0} (says : K → Survivor) (cs cs' : List K) (n : Numbers) (ss : List Scores) (count : ℕ) (s : Scores) → count ≡ length ss → Holds says cs n ss → length cs' ≡ length cs → count < capacity (length cs) n → take ((count + 1) * 2 ^ n.memory) (survivors says cs') ≡ take ((count + 1) * 2 ^ n.memory) (survivors says cs) → (RowMost n (rows_in says cs n count) (count * 4194300) → Follows n s (rows_in says cs n count) (rows_in says cs' n (suc count))) → (RowMost n (rows_in says cs n count) (count * 4194300) → RowMost n (rows_in says cs' n (suc count)) ((count + 1) * 4194300)) → Holds says cs' n (ss ++ (s ∷ []))
extended_holds says cs cs' n ss count s is old long room kept follows small =
    let next : count + 1 ≡ suc (length ss) = omega arith in
    let kept_by : take (suc (length ss) * 2 ^ n.memory) (survivors says cs') ≡ take (suc (length ss) * 2 ^ n.memory) (survivors says cs) = subst (λ (k : ℕ). take (k * 2 ^ n.memory) (survivors says cs') ≡ take (k * 2 ^ n.memory) (survivors says cs)) next kept in
    let kept_at : (i : ℕ) → i < suc (length ss) * 2 ^ n.memory → get_or (survivors says cs) i no_survivor ≡ get_or (survivors says cs') i no_survivor =
    λ i l. sym (get_or-take (suc (length ss) * 2 ^ n.memory) (survivors says cs) i no_survivor l) ∙ sym (ap (λ (vs : List Survivor). get_or vs i no_survivor) kept_by) ∙ get_or-take (suc (length ss) * 2 ^ n.memory) (survivors says cs') i no_survivor l in
    let before : RowMost n (rows_in says cs n count) (count * 4194300) = old.small count (omega arith) in
    taken_holds says cs cs' n ss s old long (subst (λ (k : ℕ). k < capacity (length cs) n) is room) kept_at
    (subst (λ (k : ℕ). Follows n s (rows_in says cs n k) (rows_in says cs' n (suc k))) is (follows before))
    (subst (λ (k : ℕ). RowMost n (rows_in says cs' n (suc k)) (suc k * 4194300)) is (subst (λ (k : ℕ). RowMost n (rows_in says cs' n (suc count)) (k * 4194300)) (add-one count) (small before)))
