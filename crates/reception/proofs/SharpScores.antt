-- Scores that are nought at one phase of each place: only paths of those phases have worth 0.
use Rattle.std.proofs.Common.{◌≡◌, ℕ, zero, suc, ◌+◌, ◌%◌, ◌<◌, ◌≤◌, List, [], ◌∷◌, length, sym, refl, ap, ◌∙◌, ap₂, ⊎_elim, add-zero, mod-eq_of_lt, arith}
use native.Mathlib.Nat.{add-mod-mod}
use Rattle.std.proofs.lemmas.Bool.{cases_eq}
use Rattle.reception.specs.Accepted.{IsCode}
use Rattle.reception.specs.Worth.{Scores, places_worth, label_worth, path_worth}
use Rattle.reception.proofs.Codes.{phase_below}
use Rattle.trellis.specs.declared.Numbers.{Numbers}
use Rattle.trellis.specs.Mapper.{phase_at}
use Rattle.trellis.specs.Transparency.{Turned}

-- The scores are nought at the phases of label z turned by r, and at least 1 elsewhere.
pub record Sharp (n : Numbers) (r z : ℕ) (s : Scores) : Type 0 where
  pub there : (a : ℕ) → a < n.places → s a ((phase_at n z a + r) % n.phases) ≡ 0
  pub else : (a m : ℕ) → a < n.places → m < n.phases → (m ≡ (phase_at n z a + r) % n.phases → ⊥) → 1 ≤ s a m

abbrev pub AllSharp : Numbers → ℕ → List ℕ → List Scores → Type 0
AllSharp n r [] [] = Unit {0}
AllSharp n r [] (s ∷ ss) = ⊥
AllSharp n r (z ∷ zs) [] = ⊥
AllSharp n r (z ∷ zs) (s ∷ ss) = Sharp n r z s × AllSharp n r zs ss

pub sharp_long : (n : Numbers) (r : ℕ) (zs : List ℕ) (ss : List Scores) → AllSharp n r zs ss → length ss ≡ length zs
sharp_long n r [] [] h = refl
sharp_long n r [] (s ∷ ss) h = absurd h
sharp_long n r (z ∷ zs) [] h = absurd h
sharp_long n r (z ∷ zs) (s ∷ ss) h = ap suc (sharp_long n r zs ss h.1)

-- Whole turns change no phase.
pub turned_self : (n : Numbers) → IsCode n → (r : ℕ) → r % n.phases ≡ 0 → (zs : List ℕ) → Turned n r zs zs
turned_self n c r e [] = tt
turned_self n c r e (z ∷ zs) = (
  (λ a h. sym (sym (add-mod-mod (phase_at n z a) r n.phases) ∙ ap (λ (x : ℕ). (phase_at n z a + x) % n.phases) e ∙ ap (λ (x : ℕ). x % n.phases) (add-zero (phase_at n z a)) ∙ mod-eq_of_lt (phase_below n c z a h))),
  turned_self n c r e zs,
)

-- Each part of a worth of 0 is 0.
part_nought : (n : Numbers) (s : Scores) (y k a : ℕ) → places_worth n s y k ≡ 0 → a < k → s a (phase_at n y a) ≡ 0
part_nought n s y zero a e h = absurd (omega arith)
part_nought n s y (suc k) a e h =
    ⊎_elim (λ (same : a ≡ k). ap (λ (b : ℕ). s b (phase_at n y b)) same ∙ omega arith)
    (λ (other : a ≡ k → ⊥). part_nought n s y k a (omega arith) (omega arith))
    (cases_eq a k)

module _ (n : Numbers) (c : IsCode n) (r : ℕ) where
  -- the worth of a label with those phases is 0,
  places_nought : (s : Scores) (z y k : ℕ) → Sharp n r z s → ((a : ℕ) → a < n.places → phase_at n y a ≡ (phase_at n z a + r) % n.phases) → k ≤ n.places → places_worth n s y k ≡ 0
  places_nought s z y zero h at few = refl
  places_nought s z y (suc a) h at few = ap₂ (λ (x w : ℕ). x + w) (places_nought s z y a h at (omega arith)) (ap (s a) (at a few) ∙ h.there a few)

  pub path_nought : (ss : List Scores) (zs ys : List ℕ) → AllSharp n r zs ss → Turned n r zs ys → path_worth n ss ys ≡ 0
  path_nought [] zs ys h t = refl
  path_nought (s ∷ ss) [] ys h t = absurd h
  path_nought (s ∷ ss) (z ∷ zs) [] h t = refl
  path_nought (s ∷ ss) (z ∷ zs) (y ∷ ys) h t =
      ap₂ (λ (x w : ℕ). x + w) (places_nought s z y n.places h.0 t.0 (omega arith)) (path_nought ss zs ys h.1 t.1)

  -- and only then.
  pub nought_turned : (ss : List Scores) (zs ys : List ℕ) → AllSharp n r zs ss → length ys ≡ length ss → path_worth n ss ys ≡ 0 → Turned n r zs ys
  nought_turned [] [] [] h l e = tt
  nought_turned [] [] (y ∷ ys) h l e = absurd (omega arith)
  nought_turned [] (z ∷ zs) ys h l e = absurd h
  nought_turned (s ∷ ss) [] ys h l e = absurd h
  nought_turned (s ∷ ss) (z ∷ zs) [] h l e = absurd (omega arith)
  nought_turned (s ∷ ss) (z ∷ zs) (y ∷ ys) h l e =
      let here : label_worth n s y ≡ 0 = omega arith in (
        (λ a few.
            let is = part_nought n s y n.places a here few in
            ⊎_elim (λ same. same) (λ (other : phase_at n y a ≡ (phase_at n z a + r) % n.phases → ⊥). let more = h.0.else a (phase_at n y a) few (phase_below n c y a few) other in absurd (omega arith))
            (cases_eq (phase_at n y a) ((phase_at n z a + r) % n.phases))),
        nought_turned ss zs ys h.1 (omega arith) (omega arith),
      )
