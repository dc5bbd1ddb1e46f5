-- The first row of a block.
use Rattle.std.proofs.Common.{◌≡◌, ℕ, ◌+◌, ◌<◌, ◌≤◌, List, ◌++◌, length, get_or, set, ap, ◌∙◌, ⊎_elim, arith, get_or-set_other, get_or-set_same}
use Rattle.std.proofs.lemmas.Bool.{cases_eq}
use Rattle.std.proofs.lemmas.List.{length-map, map-set, map-append, get_or_append_left}
use Rattle.receiver.specs.Cells.{survivors, no_survivor, empty_path}
use Rattle.survivors.specs.Best.{Survivor}

abbrev pub Begun : {K : Type 0} → (K → Survivor) → List K → ℕ → Type 0
Begun says row states = (E : ℕ) → E < states → get_or (survivors says row) E no_survivor ≡ empty_path

module _ {K : Type 0} (says : K → Survivor) (row : List K) where
  -- One cell more has the empty path.
  pub begun_more : (i : ℕ) (kept : K) → i < length row → says kept ≡ empty_path → Begun says row i → Begun says (set row i kept) (i + 1)
  begun_more i kept room is before E l =
      let cells = survivors says row in
      ap (λ (cs : List Survivor). get_or cs E no_survivor) (map-set says row i kept)
      ∙ ⊎_elim
      (λ (e : E ≡ i). ap (λ (k : ℕ). get_or (set cells i (says kept)) k no_survivor) e ∙ get_or-set_same cells i (says kept) no_survivor (omega (arith, length-map row says)) ∙ is)
      (λ (ne : E ≡ i → ⊥). get_or-set_other cells i E (says kept) no_survivor ne ∙ before E (omega arith))
      (cases_eq E i)

  -- The row stands at the front of the cells.
  pub begun_front : (rest : List K) (states : ℕ) → states ≤ length row → Begun says row states → Begun says (row ++ rest) states
  begun_front rest states few all E l =
      ap (λ (cs : List Survivor). get_or cs E no_survivor) (map-append says row rest)
      ∙ get_or_append_left (survivors says row) (survivors says rest) no_survivor E (omega (arith, length-map row says)) ∙ all E l
