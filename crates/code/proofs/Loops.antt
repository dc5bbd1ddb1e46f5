-- The two loops on the differential bits: what is made so far and what is left make the whole.
use Rattle.std.proofs.Common.{◌≡◌, ℕ, ◌+◌, ◌*◌, ◌/◌, ◌%◌, ◌^◌, ◌<◌, ◌≤◌, Bool, true, false, List, length, get_or, drop, sym, ap, ◌∙◌, add_assoc, mul_assoc, mul_comm, mul-add, add-one, arith}
use Rattle.std.proofs.lemmas.List.{at_drop_more}
use Rattle.trellis.specs.declared.Row.{Row}
use Rattle.trellis.specs.Label.{gather, put}
use Rattle.trellis.proofs.Gather.{double, bit_below, mul-below, gather_marked, gather_other, put_marked, put_other}

abbrev pub Gathered : (Row → Bool) → List Row → ℕ → ℕ → ℕ → ℕ → ℕ → Type 0
Gathered marked rows i rest weight number label =
    (number + weight * gather marked (drop i rows) rest ≡ gather marked rows label) × (number < weight) × (weight ≤ 2 ^ i)

abbrev pub Replaced : (Row → Bool) → List Row → ℕ → ℕ → ℕ → ℕ → ℕ → ℕ → ℕ → Type 0
Replaced marked rows i digits rest weight made number label =
    (made + weight * put marked (drop i rows) digits rest ≡ put marked rows number label) × (made < weight) × (weight ≡ 2 ^ i)

-- w times a bit and what stands above it
pub carry_up : (a w b x : ℕ) → a + w * (b + 2 * x) ≡ (a + w * b) + w * 2 * x
carry_up a w b x = ap (λ (k : ℕ). a + k) (mul-add w b (2 * x)) ∙ sym (add_assoc a (w * b) (w * (2 * x))) ∙ ap (λ (k : ℕ). a + w * b + k) (sym (mul_assoc w 2 x))

-- a weight times a bit
pub bit_weight : (w b : ℕ) → b < 2 → w * b ≤ w
bit_weight w b h = omega (arith, mul-below b w h, mul_comm w b)

module _ (marked : Row → Bool) (rows : List Row) (i : ℕ) (d : Row) (within : i < length rows) where
  more : 2 ^ (i + 1) ≡ 2 * 2 ^ i
  more = ap (λ (k : ℕ). 2 ^ k) (add-one i) ∙ double i

  pub gathered_marked : (rest weight number label step : ℕ) → marked (get_or rows i d) ≡ true → step ≡ weight * (rest % 2) → Gathered marked rows i rest weight number label → Gathered marked rows (i + 1) (rest / 2) (weight * 2) (number + step) label
  gathered_marked rest weight number label step m e h =
      let here = at_drop_more (λ rs. gather marked rs rest) rows i d within ∙ gather_marked marked (get_or rows i d) (drop (i + 1) rows) rest m in
      let up = carry_up number weight (rest % 2) (gather marked (drop (i + 1) rows) (rest / 2)) in
      let least = bit_weight weight (rest % 2) (bit_below rest) in
      let twice = more in (
        ap (λ (k : ℕ). number + k + weight * 2 * gather marked (drop (i + 1) rows) (rest / 2)) e ∙ sym up ∙ ap (λ (k : ℕ). number + weight * k) (sym here) ∙ h.0,
        omega arith,
        omega arith,
      )

  pub gathered_other : (rest weight number label : ℕ) → marked (get_or rows i d) ≡ false → Gathered marked rows i rest weight number label → Gathered marked rows (i + 1) (rest / 2) weight number label
  gathered_other rest weight number label m h =
      let here = at_drop_more (λ rs. gather marked rs rest) rows i d within ∙ gather_other marked (get_or rows i d) (drop (i + 1) rows) rest m in
      let twice = more in
      (ap (λ (k : ℕ). number + weight * k) (sym here) ∙ h.0, h.1, omega arith)

  pub replaced_marked : (digits rest weight made number label step : ℕ) → marked (get_or rows i d) ≡ true → step ≡ weight * (digits % 2) → Replaced marked rows i digits rest weight made number label → Replaced marked rows (i + 1) (digits / 2) (rest / 2) (weight * 2) (made + step) number label
  replaced_marked digits rest weight made number label step m e h =
      let here = at_drop_more (λ rs. put marked rs digits rest) rows i d within ∙ put_marked marked (get_or rows i d) (drop (i + 1) rows) digits rest m in
      let up = carry_up made weight (digits % 2) (put marked (drop (i + 1) rows) (digits / 2) (rest / 2)) in
      let least = bit_weight weight (digits % 2) (bit_below digits) in
      let twice = more in (
        ap (λ (k : ℕ). made + k + weight * 2 * put marked (drop (i + 1) rows) (digits / 2) (rest / 2)) e ∙ sym up ∙ ap (λ (k : ℕ). made + weight * k) (sym here) ∙ h.0,
        omega arith,
        omega arith,
      )

  pub replaced_other : (digits rest weight made number label step : ℕ) → marked (get_or rows i d) ≡ false → step ≡ weight * (rest % 2) → Replaced marked rows i digits rest weight made number label → Replaced marked rows (i + 1) digits (rest / 2) (weight * 2) (made + step) number label
  replaced_other digits rest weight made number label step m e h =
      let here = at_drop_more (λ rs. put marked rs digits rest) rows i d within ∙ put_other marked (get_or rows i d) (drop (i + 1) rows) digits rest m in
      let up = carry_up made weight (rest % 2) (put marked (drop (i + 1) rows) digits (rest / 2)) in
      let least = bit_weight weight (rest % 2) (bit_below rest) in
      let twice = more in (
        ap (λ (k : ℕ). made + k + weight * 2 * put marked (drop (i + 1) rows) digits (rest / 2)) e ∙ sym up ∙ ap (λ (k : ℕ). made + weight * k) (sym here) ∙ h.0,
        omega arith,
        omega arith,
      )
