-- The row of a count of symbols, as a part of the cells.
use Rattle.std.proofs.Common.{◌≡◌, ℕ, ◌+◌, ◌*◌, ◌/◌, ◌^◌, ◌<◌, ◌≤◌, List, length, get_or, take, drop, Some, None, Option, sym, ap, ◌∙◌, subst, mul-le-mul_right, add-mul, one-mul, div-mul-le_self, arith, length-drop, length-take-le, get_or-drop, get_or-take}
use Rattle.std.proofs.lemmas.List.{length-map, take-map, drop-map}
use Rattle.receiver.specs.Cells.{survivors, no_survivor, row_of}
use Rattle.receiver.specs.EndState.{BestEnds, BlockEnd}
use Rattle.receiver.specs.declared.cell.Cell.{Cell}
use Rattle.survivors.proofs.Join.{best_same}
use Rattle.survivors.specs.Best.{Survivor}
use Rattle.trellis.specs.declared.Numbers.{Numbers}

next_row : (count states : ℕ) → (count + 1) * states ≡ count * states + states
next_row count states = add-mul count 1 states ∙ ap (λ (k : ℕ). count * states + k) (one-mul states)

-- A row below the count of whole rows lies within the cells.
pub row_in : (count states len : ℕ) → count < len / states → count * states + states ≤ len
row_in count states len l =
    let rows : count + 1 ≤ len / states = omega arith in
    let up = mul-le-mul_right states rows in
    let whole = div-mul-le_self len states in
    let next = next_row count states in omega arith

module _ {K : Type 0} (says : K → Survivor) (cs : List K) (states t : ℕ) where
  abbrev part : List K
  part = take states (drop (t * states) cs)

  part_long : t * states + states ≤ length cs → length (survivors says part) ≡ states
  part_long room = length-map part says ∙ length-take-le states (drop (t * states) cs) (omega (arith, length-drop (t * states) cs))

  pub part_at : (E : ℕ) → E < states → get_or (survivors says part) E no_survivor ≡ row_of (survivors says cs) states t E
  part_at E l =
      ap (λ (xs : List Survivor). get_or xs E no_survivor) (sym (take-map says states (drop (t * states) cs)))
      ∙ get_or-take states (survivors says (drop (t * states) cs)) E no_survivor l
      ∙ ap (λ (xs : List Survivor). get_or xs E no_survivor) (sym (drop-map says (t * states) cs))
      ∙ get_or-drop (t * states) (survivors says cs) E no_survivor

-- The best of the row's end states is that of the block.
pub block_end : {K S : Type 0} (says : K → Survivor) (worth : S → ℕ) (cs : List K) (n : Numbers) (states count : ℕ) → states ≡ 2 ^ n.memory → 0 < states → count * states + states ≤ length cs → (r : Option (Cell S)) → BestEnds worth (survivors says (part says cs states count)) r → BlockEnd worth (survivors says cs) n count r
block_end says worth cs n states count are some room None none = absurd (omega (arith, part_long says cs states count room))
block_end says worth cs n states count are some room (Some c) best =
    let long = part_long says cs states count room in
    let all = length-map cs says in
    let next = next_row count (2 ^ n.memory) in
    let fits : count * 2 ^ n.memory + 2 ^ n.memory ≤ length cs = subst (λ (k : ℕ). count * k + k ≤ length cs) are room in
    let at : (E : ℕ) → E < states → get_or (survivors says (part says cs states count)) E no_survivor ≡ row_of (survivors says cs) (2 ^ n.memory) count E =
    λ E l. part_at says cs states count E l ∙ ap (λ (k : ℕ). row_of (survivors says cs) k count E) are in (
      omega arith,
      best_same best (λ z p. omega arith) (λ z p. omega arith) (λ z p. ap (λ (s : Survivor). s.worth) (at z (omega arith)))
          (λ z p u. sym (ap (λ (s : Survivor). s.sole) (at z (omega arith))) ∙ u) (λ z p u. ap (λ (s : Survivor). s.sole) (at z (omega arith)) ∙ u),
    )
