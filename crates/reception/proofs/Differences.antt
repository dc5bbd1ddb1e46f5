-- Turnings modulo the number of phases M: what makes one up to whole turns, and what leads from one to another.
use Rattle.std.proofs.Common.{◌≡◌, ℕ, zero, suc, ◌+◌, ◌-◌, ◌*◌, ◌%◌, ◌<◌, sym, ap, ◌∙◌, add-zero, add_assoc, mod-eq_of_lt, mul_assoc, mul_comm, arith}
use native.Mathlib.Nat.{mod-add-mod, add-mod-mod, add-mul-mod_self_left, mul-add-mod_self_right, zero-mod}

-- What makes t up to whole turns.
abbrev pub complement : ℕ → ℕ → ℕ
complement M t = (M - 1) * t

-- What leads from t to u.
abbrev pub difference : ℕ → ℕ → ℕ → ℕ
difference M t u = complement M t + u

pub whole : (M t : ℕ) → 0 < M → complement M t + t ≡ M * t
whole zero t some = absurd (omega arith)
whole (suc k) t some = let one : suc k - 1 ≡ k = omega arith in ap (λ (x : ℕ). x * t + t) one ∙ omega arith

-- Back by t and up by t again.
pub up_again : (M t m : ℕ) → m < M → ((m + complement M t) % M + t) % M ≡ m
up_again M t m h =
    let c = complement M t in
    let sum : m + c + t ≡ m + M * t = omega (arith, whole M t (omega arith)) in
    mod-add-mod (m + c) M t ∙ ap (λ (x : ℕ). x % M) sum ∙ add-mul-mod_self_left m M t ∙ mod-eq_of_lt h

-- Back by t and up by u.
pub up_other : (M t u m : ℕ) → ((m + complement M t) % M + u) % M ≡ (m + difference M t u) % M
up_other M t u m = mod-add-mod (m + complement M t) M u ∙ ap (λ (x : ℕ). x % M) (add_assoc m (complement M t) u)

-- A step s that divides M divides whole turns,
module _ (M s q : ℕ) (some : 0 < M) (divides : M ≡ q * s) where
  whole_steps : (t x : ℕ) → (M * t + x) % s ≡ x % s
  whole_steps t x =
      ap (λ (y : ℕ). (y + x) % s) (ap (λ (y : ℕ). y * t) divides ∙ mul_assoc q s t ∙ ap (λ (y : ℕ). q * y) (mul_comm s t) ∙ sym (mul_assoc q t s))
      ∙ mul-add-mod_self_right (q * t) s x

  -- and so the difference of two turnings exactly where it leaves the same rest of both.
  pub same_rests : (t u : ℕ) → t % s ≡ u % s → difference M t u % s ≡ 0
  same_rests t u e =
      let c = complement M t in
      sym (add-mod-mod c u s) ∙ ap (λ (x : ℕ). (c + x) % s) (sym e) ∙ add-mod-mod c t s
      ∙ ap (λ (x : ℕ). x % s) (whole M t some ∙ sym (add-zero (M * t))) ∙ whole_steps t 0 ∙ zero-mod s

  pub rests_same : (t u : ℕ) → difference M t u % s ≡ 0 → t % s ≡ u % s
  rests_same t u e =
      let c = complement M t in
      let sum : t + difference M t u ≡ M * t + u = omega (arith, whole M t some) in
      ap (λ (x : ℕ). x % s) (sym (add-zero t)) ∙ ap (λ (x : ℕ). (t + x) % s) (sym e) ∙ add-mod-mod t (difference M t u) s
      ∙ ap (λ (x : ℕ). x % s) sum ∙ whole_steps t u
