-- The cells with one row more written behind those that stood.
use Rattle.std.proofs.Common.{◌≡◌, ℕ, suc, ◌+◌, ◌-◌, ◌*◌, ◌^◌, ◌<◌, ◌≤◌, List, ◌++◌, length, get_or, take, sym, ap, ◌∙◌, subst, append_assoc, add-mul, suc-mul, add-one, arith}
use lib.Seq.{take-append_seam}
use Rattle.std.proofs.lemmas.List.{get_or_append_left, get_or-append_right, length-append, length-map, map-append}
use Rattle.receiver.specs.Cells.{survivors, no_survivor, row_in}
use Rattle.receiver.specs.Stands.{rows_in, RowMost}
use Rattle.reception.specs.Worth.{Scores}
use Rattle.survivors.specs.Best.{Survivor}
use Rattle.survivors.specs.Rows.{Follows}
use Rattle.survivors.proofs.Extend.{follows_same}
use Rattle.trellis.specs.declared.Numbers.{Numbers}

-- A row of so many states that stands behind the rows before it.
module _ {K : Type 0} (says : K → Survivor) (n : Numbers) (states : ℕ) (are : states ≡ 2 ^ n.memory) (t : ℕ) (earlier row rest : List K) (long : length earlier ≡ t * states) (row_long : length row ≡ states) where
  row_at : (E : ℕ) → E < 2 ^ n.memory → rows_in says (earlier ++ (row ++ rest)) n t E ≡ row_in (survivors says row) E
  row_at E h =
      let front = length-map earlier says in
      let size = length-map row says in
      let place : t * 2 ^ n.memory + E ≡ length earlier + E = sym (ap (λ (x : ℕ). t * x + E) are) ∙ omega arith in
      let back : length earlier + E - length earlier ≡ E = omega arith in
      (λ i. get_or (map-append says earlier (row ++ rest) i) (place i) no_survivor)
      ∙ get_or-append_right (survivors says earlier) (survivors says (row ++ rest)) (length earlier) (length earlier + E) no_survivor front (omega arith)
      ∙ (λ i. get_or (map-append says row rest i) (back i) no_survivor)
      ∙ get_or_append_left (survivors says row) (survivors says rest) no_survivor E (omega arith)

-- The cells hold one row more, and those before it as they were.
pub record Written {K : Type 0} (says : K → Survivor) (n : Numbers) (s : Scores) (count bound after : ℕ) (old new : List K) : Type 0 where
  pub kept : take ((count + 1) * 2 ^ n.memory) (survivors says new) ≡ take ((count + 1) * 2 ^ n.memory) (survivors says old)
  pub follows : RowMost n (rows_in says old n count) bound → Follows n s (rows_in says old n count) (rows_in says new n (suc count))
  pub small : RowMost n (rows_in says old n count) bound → RowMost n (rows_in says new n (suc count)) after

-- There is room for the row.
pub row_room : (count states power cells : ℕ) → states ≡ power → (count + 2) * power ≤ cells → count * states + states + states ≤ cells
row_room count states power cells are room =
    let rows = add-mul count 2 states in
    let same = ap (λ (k : ℕ). (count + 2) * k) are in
    omega arith

module _ {K : Type 0} (says : K → Survivor) (n : Numbers) (count states : ℕ) (are : states ≡ 2 ^ n.memory)
    (cells earlier last before free row rest : List K) (whole : cells ≡ earlier ++ last) (parts : last ≡ before ++ free)
    (long : length earlier ≡ count * states) (before_long : length before ≡ states) (row_long : length row ≡ states) where
  abbrev written : List K
  written = earlier ++ (before ++ (row ++ rest))

  all : cells ≡ earlier ++ (before ++ free)
  all = whole ∙ ap (λ (xs : List K). earlier ++ xs) parts

  done_long : length (earlier ++ before) ≡ suc count * states
  done_long = length-append earlier before ∙ omega (arith, suc-mul count states)

  stood : (xs : List K) → take ((count + 1) * 2 ^ n.memory) (survivors says (earlier ++ (before ++ xs))) ≡ survivors says (earlier ++ before)
  stood xs =
      let size : (count + 1) * 2 ^ n.memory ≡ length (survivors says (earlier ++ before)) =
      (λ i. add-one count i * sym are i) ∙ sym done_long ∙ sym (length-map (earlier ++ before) says) in
      (λ i. take (size i) ((ap (survivors says) (sym (append_assoc earlier before xs)) ∙ map-append says (earlier ++ before) xs) i))
      ∙ take-append_seam (survivors says (earlier ++ before)) (survivors says xs)

  before_at : (E : ℕ) → E < 2 ^ n.memory → rows_in says cells n count E ≡ row_in (survivors says before) E
  before_at E h = ap (λ (xs : List K). rows_in says xs n count E) all ∙ row_at says n states are count earlier before free long before_long E h

  after_at : (E : ℕ) → E < 2 ^ n.memory → rows_in says written n (suc count) E ≡ row_in (survivors says row) E
  after_at E h =
      ap (λ (xs : List K). rows_in says xs n (suc count) E) (sym (append_assoc earlier before (row ++ rest)))
      ∙ row_at says n states are (suc count) (earlier ++ before) row rest done_long row_long E h

  -- What the row step promises, from what it knows of the two rows.
  pub row_written : (s : Scores) (bound after : ℕ) → (RowMost n (row_in (survivors says before)) bound → Follows n s (row_in (survivors says before)) (row_in (survivors says row)) × RowMost n (row_in (survivors says row)) after) → Written says n s count bound after cells written
  row_written s bound after step =
      let was : RowMost n (rows_in says cells n count) bound → RowMost n (row_in (survivors says before)) bound = λ most E h. subst (λ (c : Survivor). c.worth ≤ bound) (before_at E h) (most E h) in
      record {
        kept = stood (row ++ rest) ∙ sym (ap (λ (xs : List K). take ((count + 1) * 2 ^ n.memory) (survivors says xs)) all ∙ stood free);
        follows = λ most.
            follows_same n s (row_in (survivors says before)) (row_in (survivors says row)) (rows_in says cells n count) (rows_in says written n (suc count))
            (λ E h. sym (before_at E h)) (λ E h. sym (after_at E h)) (step (was most)).0;
        small = λ most E h. subst (λ (c : Survivor). c.worth ≤ after) (sym (after_at E h)) ((step (was most)).1 E h);
      }
