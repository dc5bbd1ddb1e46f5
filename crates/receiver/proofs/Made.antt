-- An array that calls of a closure made, which leave the closure as it is.
use Rattle.std.proofs.Common.{◌≡◌, ℕ, zero, suc, ◌+◌, ◌<◌, ◌≤◌, List, get_or, sym, refl, subst, ⊎_elim, arith}
use denote.Param.Members.{Mut, Called}
use Rattle.std.proofs.lemmas.Bool.{cases_eq}
use Rattle.std.specs.Array.{IsFromFnResult, IsFromFnResultFrom}

module _ {F B : Type 0} (g : Mut F (ℕ × Unit {0}) B) (f : F) (P : ℕ → B → Type 0) (one : (a : ℕ) (b : B) (q : F) → Called g f (a, tt) b q → P a b × (q ≡ f)) where
  each : (n i : ℕ) (p : F) (ys : List B) → p ≡ f → IsFromFnResultFrom g p ys i n → (k : ℕ) (d : B) → i ≤ k → k < i + n → P k (get_or ys k d)
  each zero i p ys same made k d low high = absurd (omega arith)
  each (suc n) i p ys same (q, y, at, called, rest) k d low high =
      let now = one i y q (subst (λ (x : F). Called g x (i, tt) y q) same called) in
      ⊎_elim (λ (e : k ≡ i). subst (λ (j : ℕ). P j (get_or ys j d)) (sym e) (subst (P i) (sym (at.1 d)) now.0))
      (λ (e : k ≡ i → ⊥). each n (i + 1) q ys now.1 rest k d (omega arith) (omega arith)) (cases_eq k i)

  pub all_made : (n : ℕ) (ys : List B) → IsFromFnResult g f ys n → (k : ℕ) (d : B) → k < n → P k (get_or ys k d)
  all_made n ys made k d h = each n 0 f ys refl made.each k d (omega arith) (omega arith)
