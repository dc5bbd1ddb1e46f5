-- The labels of one group, one after another.
use Rattle.std.proofs.Common.{◌≡◌, ℕ, ◌+◌, ◌*◌, ◌/◌, ◌%◌, ◌^◌, ◌<◌, ◌≤◌, List, ◌++◌, length, get_or, set, sym, refl, ap, ◌∙◌, subst, inl, inr, ⊎_elim, mod-eq_of_lt, mul-one, mul-add, arith, pow_pos}
use native.Mathlib.Nat.{div-add-mod, lt_of_mul-lt-mul_left, mod-le, add-mod_right}
use Rattle.std.proofs.lemmas.List.{get_or-set_same, get_or-set_other, get_or_append_left, length-map, map-append, map-set}
use Rattle.std.proofs.lemmas.Bool.{cases_eq, cases_lt}
use Rattle.receiver.specs.declared.cell.Cell.{Cell}
use Rattle.receiver.specs.Cells.{survivor, survivors, no_survivor}
use Rattle.receiver.specs.Grouped.{InGroup, GroupBest, GroupsBest, alone, better}
use Rattle.survivors.specs.Best.{Survivor, Best}
use Rattle.survivors.proofs.Join.{best_same, best_one, join_best}
use Rattle.trellis.specs.declared.Numbers.{Numbers}
use Rattle.trellis.specs.Numbers.{label_bits}

-- Two numbers of one residue, less than the modulus apart.
same_residue : (w x y : ℕ) → x % w ≡ y % w → y ≤ x → x < y + w → x ≡ y
same_residue w x y e low high =
    let of-x = div-add-mod x w in
    let of-y = div-add-mod y w in
    let more : w * (y / w + 1) ≡ w * (y / w) + w = mul-add w (y / w) 1 ∙ ap (λ (k : ℕ). w * (y / w) + k) (mul-one w) in
    let less : w * (x / w) < w * (y / w + 1) = omega arith in
    let back : w * (y / w) < w * (x / w + 1) =
    let up : w * (x / w + 1) ≡ w * (x / w) + w = mul-add w (x / w) 1 ∙ ap (λ (k : ℕ). w * (x / w) + k) (mul-one w) in omega arith in
    let one = lt_of_mul-lt-mul_left w {m = x / w} {n = y / w + 1} less in
    let two = lt_of_mul-lt-mul_left w {m = y / w} {n = x / w + 1} back in
    let same : x / w ≡ y / w = omega arith in
    let quotients = ap (λ (k : ℕ). w * k) same in
    omega arith

-- The labels of group g below b.
abbrev Before : Numbers → ℕ → ℕ → ℕ → Type 0
Before n g b z = InGroup n g z × (z < b)

abbrev pub BestBefore : Numbers → (ℕ → ℕ) → ℕ → ℕ → Survivor → Type 0
BestBefore n f g b c = Best (Before n g b) f (λ _. Unit {0}) c

module _ (n : Numbers) (f : ℕ → ℕ) (g w : ℕ) (wide : w ≡ 2 ^ (n.checked + 1)) where
  residue : (z : ℕ) → InGroup n g z → z % w ≡ g
  residue z i = ap (λ (k : ℕ). z % k) wide ∙ i.1

  single : (b : ℕ) (c : Survivor) → c ≡ alone (f b) b → Best (λ z. z ≡ b) f (λ _. Unit {0}) c
  single b c is =
      subst (λ (x : Survivor). Best (λ z. z ≡ b) f (λ _. Unit {0}) x) (sym is) (best_one {f = f} {U = λ _. Unit {0}} (alone (f b) b) refl (λ e. tt) (λ u. refl))

  pub first_best : (c : Survivor) → g < w → w ≤ 2 ^ label_bits n → c ≡ alone (f g) g → BestBefore n f g (g + w) c
  first_best c small few is =
      let own : g % w ≡ g = mod-eq_of_lt small in
      best_same (single g c is)
      (λ z (e : z ≡ g). ((omega arith, ap (λ (k : ℕ). k % 2 ^ (n.checked + 1)) e ∙ ap (λ (k : ℕ). g % k) (sym wide) ∙ own), omega arith))
      (λ z i. let is-g = residue z i.0 in let up = mod-le z w in same_residue w z g (is-g ∙ sym own) (omega arith) i.1)
      (λ z e. refl) (λ z e u. u) (λ z e u. u)

  pub next_best : (b : ℕ) (a c r : Survivor) → b % w ≡ g → b < 2 ^ label_bits n → c ≡ alone (f b) b → r ≡ better a c → BestBefore n f g b a → BestBefore n f g (b + w) r
  next_best b a c r own few is made best =
      let both = join_best best (single b c is) (λ z i e. let l = i.1 in omega arith) in
      let some : 0 < w = ⊎_elim (λ (h : 0 < w). h) (λ (h : w ≤ 0). subst (λ (k : ℕ). 0 < k) (sym wide) (pow_pos (n.checked + 1))) (cases_lt 0 w) in
      subst (BestBefore n f g (b + w)) (sym made)
      (best_same both
      (λ z. ⊎_elim (λ i. (i.0, let l = i.1 in omega arith)) (λ (e : z ≡ b). ((omega arith, ap (λ (k : ℕ). k % 2 ^ (n.checked + 1)) e ∙ ap (λ (k : ℕ). b % k) (sym wide) ∙ own), omega arith)))
      (λ z i. ⊎_elim (λ (l : z < b). inl (i.0, l)) (λ (l : b ≤ z). inr (same_residue w z b (residue z i.0 ∙ sym own) l i.1)) (cases_lt z b))
      (λ z e. refl) (λ z e u. u) (λ z e u. u))

  pub all_best : (b : ℕ) (c : Survivor) → 2 ^ label_bits n ≤ b → BestBefore n f g b c → GroupBest n f g c
  all_best b c past best =
      best_same best (λ z i. i.0) (λ z i. (i, let l = i.0 in omega arith)) (λ z e. refl) (λ z e u. u) (λ z e u. u)

pub next_residue : (b w g : ℕ) → b % w ≡ g → (b + w) % w ≡ g
next_residue b w g e = add-mod_right b w ∙ e

pub first_residue : (g w : ℕ) → g < w → (g + w) % w ≡ g
first_residue g w h = add-mod_right g w ∙ mod-eq_of_lt h

-- One group more.
module _ {X : Type 0} (worth : X → ℕ) (n : Numbers) (f : ℕ → ℕ) where
  pub groups_more : (g : ℕ) (cs : List (Cell X)) (c : Cell X) → g < length cs → GroupBest n f g (survivor worth c) → GroupsBest n f g (survivors (survivor worth) cs) → GroupsBest n f (g + 1) (survivors (survivor worth) (set cs g c))
  groups_more g cs c within best so_far k h =
      let long = length-map cs (survivor worth) in
      let is = map-set (survivor worth) cs g c in
      subst (λ (xs : List Survivor). GroupBest n f k (get_or xs k no_survivor)) (sym is)
      (⊎_elim
      (λ (e : k ≡ g). subst (λ (x : Survivor). GroupBest n f k x) (sym (ap (λ (j : ℕ). get_or (set (survivors (survivor worth) cs) g (survivor worth c)) j no_survivor) e ∙ get_or-set_same (survivors (survivor worth) cs) g (survivor worth c) no_survivor (omega arith)))
      (subst (λ (j : ℕ). GroupBest n f j (survivor worth c)) (sym e) best))
      (λ (e : k ≡ g → ⊥). subst (λ (x : Survivor). GroupBest n f k x) (sym (get_or-set_other (survivors (survivor worth) cs) g k (survivor worth c) no_survivor e)) (so_far k (omega arith)))
      (cases_eq k g))

  -- The groups stand at the front of the cells.
  pub groups_front : (many : ℕ) (cs rest : List (Cell X)) → many ≤ length cs → GroupsBest n f many (survivors (survivor worth) cs) → GroupsBest n f many (survivors (survivor worth) (cs ++ rest))
  groups_front many cs rest room best k h =
      subst (GroupBest n f k)
      (sym (ap (λ (xs : List Survivor). get_or xs k no_survivor) (map-append (survivor worth) cs rest) ∙ get_or_append_left (survivors (survivor worth) cs) (survivors (survivor worth) rest) no_survivor k (omega (arith, length-map cs (survivor worth)))))
      (best k h)
