-- The readings of a symbol's places.
use Rattle.std.proofs.Common.{◌≡◌, ℕ, zero, suc, ◌+◌, ◌-◌, ◌*◌, ◌<◌, Bool, true, false, List, take, drop, sym, refl, ap, ◌∙◌, ⊎_elim, zero-mul, add_comm, suc-mul, arith, drop-drop}
use Rattle.std.proofs.lemmas.Bool.{and_from, and_left, and_right, cases_eq}
use Rattle.reception.specs.Front.{FrontMeaning}
use Rattle.reception.specs.Reading.{all_fit, place_reading}

place_part : (W : ℕ) (ws : List ℕ) (a : ℕ) → place_reading W ws a ≡ take W (drop (a * W) ws)
place_part W ws zero = ap (λ (k : ℕ). take W (drop k ws)) (sym (zero-mul W))
place_part W ws (suc a) =
    place_part W (drop W ws) a ∙ ap (take W) (drop-drop (a * W) W ws) ∙ ap (λ (k : ℕ). take W (drop k ws)) (add_comm W (a * W) ∙ sym (suc-mul a W))

-- The part of a symbol's reading at an offset is the reading of a place.
pub part_is : (W width at a : ℕ) (ws : List ℕ) → width ≡ W → at ≡ a → take (at * width + width - at * width) (drop (at * width) ws) ≡ place_reading W ws a
part_is W width at a ws wide is =
    let size : at * width + width - at * width ≡ width = omega arith in
    (λ i. take ((size ∙ wide) i) (drop (is i * wide i) ws)) ∙ sym (place_part W ws a)

module _ (f : FrontMeaning) (M : ℕ) where
  abbrev pub FitAt : List ℕ → ℕ → Bool → Type 0
  FitAt ws a b = f.fit M (place_reading (f.width M) ws a) ≡ b

  pub all_fit-each : (p : ℕ) (ws : List ℕ) → ((a : ℕ) → a < p → FitAt ws a true) → all_fit f M p ws ≡ true
  all_fit-each zero ws each = refl
  all_fit-each (suc p) ws each =
      and_from (f.fit M (take (f.width M) ws)) (all_fit f M p (drop (f.width M) ws)) (each 0 (omega arith)) (all_fit-each p (drop (f.width M) ws) (λ a l. each (suc a) (omega arith)))

  pub all_fit-not : (p : ℕ) (ws : List ℕ) (a : ℕ) → a < p → FitAt ws a false → all_fit f M p ws ≡ false
  all_fit-not zero ws a l e = absurd (omega arith)
  all_fit-not (suc p) ws zero l e = and_left (f.fit M (take (f.width M) ws)) (all_fit f M p (drop (f.width M) ws)) e
  all_fit-not (suc p) ws (suc a) l e = and_right (f.fit M (take (f.width M) ws)) (all_fit f M p (drop (f.width M) ws)) (all_fit-not p (drop (f.width M) ws) a (omega arith) e)

  pub fit_more : (ws : List ℕ) (i : ℕ) → FitAt ws i true → ((a : ℕ) → a < i → FitAt ws a true) → (a : ℕ) → a < i + 1 → FitAt ws a true
  fit_more ws i here each a l =
      ⊎_elim (λ (e : a ≡ i). ap (λ (k : ℕ). f.fit M (place_reading (f.width M) ws k)) e ∙ here) (λ (e : a ≡ i → ⊥). each a (omega arith)) (cases_eq a i)
