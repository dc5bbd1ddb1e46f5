-- The lost-place layer keeps the laws of a front, since the front below does.
use Rattle.std.specs.Prelude.{◌≡◌, ℕ, suc, ◌+◌, ◌%◌, ◌<◌, ◌≤◌, Bool, true, false, cond, ◌&&◌, List, [], ◌∷◌, length, ◌==◌, refl}
use Rattle.std.proofs.Common.{ap, arith, lit<}
use Rattle.std.proofs.lemmas.Bool.{eqb-true, false≢true, and_parts, cond_both}
use Rattle.reception.specs.Front.{FrontMeaning}
use Rattle.fronts.specs.Lost.{lost_width, lost_fit, lost_worth, lost_turn, lost_clean}

module _ (f : FrontMeaning) (M : ℕ) where
  -- Each law goes by b, the test whether the first word is 0.
  fit_below : (b c : Bool) (ws : List ℕ) → cond b (f.fit M ws) (c && length ws == f.width M) ≡ true → length ws ≡ f.width M
  fit_below true c ws e = f.fit_long M ws e
  fit_below false c ws e = eqb-true (length ws) (f.width M) (and_parts c (length ws == f.width M) e).1

  pub lost_fit_long : (ws : List ℕ) → lost_fit f M ws ≡ true → length ws ≡ lost_width f M
  lost_fit_long [] e = absurd (false≢true e)
  lost_fit_long (w ∷ ws) e = omega (arith, fit_below (w == 0) (w == 1) ws e)

  nought_below : (b c : Bool) (ws : List ℕ) (m : ℕ) → cond b (f.fit M ws) c ≡ false → cond b (f.worth M ws m) 0 ≡ 0
  nought_below true c ws m e = f.unfit_nought M ws m e
  nought_below false c ws m e = refl

  pub lost_unfit_nought : (ws : List ℕ) (m : ℕ) → lost_fit f M ws ≡ false → lost_worth f M ws m ≡ 0
  lost_unfit_nought [] m e = refl
  lost_unfit_nought (w ∷ ws) m e = nought_below (w == 0) (w == 1 && length ws == f.width M) ws m e

  pub lost_past_nought : (ws : List ℕ) (m : ℕ) → M ≤ m → lost_worth f M ws m ≡ 0
  lost_past_nought [] m h = refl
  lost_past_nought (w ∷ ws) m h = cond_both (w == 0) (f.worth M ws m) 0 (λ x. x ≡ 0) (λ _. f.past_nought M ws m h) (λ _. refl)

  long_below : (b : Bool) (ws : List ℕ) → length (cond b (f.turn M ws) ws) ≡ length ws
  long_below true ws = f.turn_long M ws
  long_below false ws = refl

  pub lost_turn_long : (ws : List ℕ) → length (lost_turn f M ws) ≡ length ws
  lost_turn_long [] = refl
  lost_turn_long (w ∷ ws) = ap suc (long_below (w == 0) ws)

  turn_below : (b c : Bool) (ws : List ℕ) → (λ (x : List ℕ). cond b (f.fit M x) (c && length x == f.width M)) (cond b (f.turn M ws) ws) ≡ cond b (f.fit M ws) (c && length ws == f.width M)
  turn_below true c ws = f.turn_fit M ws
  turn_below false c ws = refl

  pub lost_turn_fit : (ws : List ℕ) → lost_fit f M (lost_turn f M ws) ≡ lost_fit f M ws
  lost_turn_fit [] = refl
  lost_turn_fit (w ∷ ws) = turn_below (w == 0) (w == 1) ws

  unfit_below : (b c : Bool) (ws : List ℕ) → cond b (f.fit M ws) c ≡ false → cond b (f.turn M ws) ws ≡ ws
  unfit_below true c ws e = f.turn_unfit M ws e
  unfit_below false c ws e = refl

  pub lost_turn_unfit : (ws : List ℕ) → lost_fit f M ws ≡ false → lost_turn f M ws ≡ ws
  lost_turn_unfit [] e = refl
  lost_turn_unfit (w ∷ ws) e = ap (λ (rest : List ℕ). w ∷ rest) (unfit_below (w == 0) (w == 1 && length ws == f.width M) ws e)

  worth_below : (b c : Bool) (ws : List ℕ) (m : ℕ) → cond b (f.fit M ws) c ≡ true → m < M → cond b (f.worth M (cond b (f.turn M ws) ws) ((m + 1) % M)) 0 ≡ cond b (f.worth M ws m) 0
  worth_below true c ws m e h = f.turn_worth M ws m e h
  worth_below false c ws m e h = refl

  pub lost_turn_worth : (ws : List ℕ) (m : ℕ) → lost_fit f M ws ≡ true → m < M → lost_worth f M (lost_turn f M ws) ((m + 1) % M) ≡ lost_worth f M ws m
  lost_turn_worth [] m e h = refl
  lost_turn_worth (w ∷ ws) m e h = worth_below (w == 0) (w == 1 && length ws == f.width M) ws m e h

-- The meaning of the layer over a front.
abbrev pub lost_meaning : FrontMeaning → FrontMeaning
lost_meaning f = record {
  width = lost_width f;
  fit = lost_fit f;
  worth = lost_worth f;
  turn = lost_turn f;
  clean = lost_clean f;
  fit_long = lost_fit_long f;
  unfit_nought = lost_unfit_nought f;
  past_nought = lost_past_nought f;
  turn_long = lost_turn_long f;
  turn_fit = lost_turn_fit f;
  turn_unfit = lost_turn_unfit f;
  turn_worth = lost_turn_worth f;
  clean_fit = λ M m h. f.clean_fit M m h;
  clean_there = λ M m h. f.clean_there M m h;
  clean_else = λ M m k h l other. f.clean_else M m k h l other;
  clean_words = λ M m h l. (lit< tt, f.clean_words M m h l);
}
