-- The strike front keeps the laws of a front.
use Rattle.std.specs.Prelude.{◌≡◌, ℕ, ◌+◌, ◌%◌, ◌<◌, ◌≤◌, true, false, ◌&&◌, ◌⊎◌, List, [], ◌∷◌, length, ◌==◌, ◌≢◌, nat_lt, slice_index, slice_index_or, refl}
use Rattle.std.proofs.Common.{inl, inr, ⊎_elim, ◌∙◌, ap, sym, mod-eq_of_lt, mod-lt, arith}
use Rattle.std.proofs.Math.Nat.{mod_self}
use Rattle.std.proofs.lemmas.Bool.{eqb-true, lt-ltb, le-ltb, ltb-true, and_parts, and_from, and_left, and_right, cond-true, cond-false, cond_both, cases_lt}
use Rattle.reception.specs.Front.{FrontMeaning}
use Rattle.fronts.specs.Scores.{strikes_worth}
use Rattle.fronts.specs.Strike.{strike_fit, around, at_distance, strike_worth, strike_turn, strike_clean}

-- The next phase is one more, or 0 after the last.
next_phase : (M a : ℕ) → a < M → ((a + 1 < M) × ((a + 1) % M ≡ a + 1)) ⊎ ((a + 1 ≡ M) × ((a + 1) % M ≡ 0))
next_phase M a h =
    ⊎_elim
    (λ (l : a + 1 < M). inl (l, mod-eq_of_lt {n = a + 1} {m = M} l))
    (λ (l : M ≤ a + 1). let e : a + 1 ≡ M = omega arith in inr (e, ap (λ (k : ℕ). k % M) e ∙ mod_self M))
    (cases_lt (a + 1) M)

-- Both phases one on: the distance stays.
around-next : (M a b : ℕ) → a < M → b < M → around M ((a + 1) % M) ((b + 1) % M) ≡ around M a b
around-next M a b h l =
    ⊎_elim
    (λ (p : (a + 1 < M) × ((a + 1) % M ≡ a + 1)).
    ⊎_elim (λ (q : (b + 1 < M) × ((b + 1) % M ≡ b + 1)). omega arith) (λ (q : (b + 1 ≡ M) × ((b + 1) % M ≡ 0)). omega arith) (next_phase M b l))
    (λ (p : (a + 1 ≡ M) × ((a + 1) % M ≡ 0)).
    ⊎_elim (λ (q : (b + 1 < M) × ((b + 1) % M ≡ b + 1)). omega arith) (λ (q : (b + 1 ≡ M) × ((b + 1) % M ≡ 0)). omega arith) (next_phase M b l))
    (next_phase M a h)

-- The worth at a distance.
abbrev pub worth_at : ℕ → ℕ
worth_at d = strikes_worth (at_distance d)

pub strike_there : (M : ℕ) (ws : List ℕ) (m : ℕ) → strike_fit M ws ≡ true → m < M → strike_worth M ws m ≡ worth_at (around M (slice_index ws 0) m)
strike_there M ws m e h = ap worth_at (cond-true (strike_fit M ws && nat_lt m M) (around M (slice_index ws 0) m) 0 (and_from (strike_fit M ws) (nat_lt m M) e (lt-ltb m M h)))

pub strike_nought : (M : ℕ) (ws : List ℕ) (m : ℕ) → (strike_fit M ws && nat_lt m M) ≡ false → strike_worth M ws m ≡ 0
strike_nought M ws m e = ap worth_at (cond-false (strike_fit M ws && nat_lt m M) (around M (slice_index ws 0) m) 0 e)

pub strike_fit_long : (M : ℕ) (ws : List ℕ) → strike_fit M ws ≡ true → length ws ≡ 1
strike_fit_long M ws e = eqb-true (length ws) 1 (and_parts (length ws == 1) (nat_lt (slice_index ws 0) M) e).0

fit_phase : (M : ℕ) (ws : List ℕ) → strike_fit M ws ≡ true → slice_index ws 0 < M
fit_phase M ws e = ltb-true (slice_index ws 0) M (and_parts (length ws == 1) (nat_lt (slice_index ws 0) M) e).1

next_fit : (M : ℕ) (ws : List ℕ) → strike_fit M ws ≡ true → strike_fit M ((slice_index ws 0 + 1) % M ∷ []) ≡ true
next_fit M ws e = lt-ltb ((slice_index ws 0 + 1) % M) M (mod-lt (slice_index ws 0 + 1) (omega (arith, fit_phase M ws e)))

pub strike_turn_long : (M : ℕ) (ws : List ℕ) → length (strike_turn M ws) ≡ length ws
strike_turn_long M ws = cond_both (strike_fit M ws) ((slice_index ws 0 + 1) % M ∷ []) ws (λ x. length x ≡ length ws) (λ e. sym (strike_fit_long M ws e)) (λ _. refl)

pub strike_turn_fit : (M : ℕ) (ws : List ℕ) → strike_fit M (strike_turn M ws) ≡ strike_fit M ws
strike_turn_fit M ws = cond_both (strike_fit M ws) ((slice_index ws 0 + 1) % M ∷ []) ws (λ x. strike_fit M x ≡ strike_fit M ws) (λ e. next_fit M ws e ∙ sym e) (λ _. refl)

pub strike_turn_worth : (M : ℕ) (ws : List ℕ) (m : ℕ) → strike_fit M ws ≡ true → m < M → strike_worth M (strike_turn M ws) ((m + 1) % M) ≡ strike_worth M ws m
strike_turn_worth M ws m e h =
    let a : ℕ = slice_index_or ws 0 0 in
    ap (λ (x : List ℕ). strike_worth M x ((m + 1) % M)) (cond-true (strike_fit M ws) ((a + 1) % M ∷ []) ws e)
    ∙ strike_there M ((a + 1) % M ∷ []) ((m + 1) % M) (next_fit M ws e) (mod-lt (m + 1) (omega arith))
    ∙ ap worth_at (around-next M a m (fit_phase M ws e) h)
    ∙ sym (strike_there M ws m e h)

pub strike_clean_there : (M m : ℕ) → m < M → strike_worth M (strike_clean M m) m ≡ 0
strike_clean_there M m h = let near : around M m m ≡ 0 = omega arith in strike_there M (m ∷ []) m (lt-ltb m M h) h ∙ ap worth_at near

pub strike_clean_else : (M m k : ℕ) → m < M → k < M → (k ≢ m) → 1 ≤ strike_worth M (strike_clean M m) k
strike_clean_else M m k h l other =
    let there : strike_worth M (m ∷ []) k ≡ worth_at (around M m k) = strike_there M (m ∷ []) k (lt-ltb m M h) l in
    omega arith

abbrev pub strike_meaning : FrontMeaning
strike_meaning = record {
  width = λ M. 1;
  fit = strike_fit;
  worth = strike_worth;
  turn = strike_turn;
  clean = strike_clean;
  fit_long = strike_fit_long;
  unfit_nought = λ M ws m e. strike_nought M ws m (and_left (strike_fit M ws) (nat_lt m M) e);
  past_nought = λ M ws m h. strike_nought M ws m (and_right (strike_fit M ws) (nat_lt m M) (le-ltb m M h));
  turn_long = strike_turn_long;
  turn_fit = strike_turn_fit;
  turn_unfit = λ M ws e. cond-false (strike_fit M ws) ((slice_index ws 0 + 1) % M ∷ []) ws e;
  turn_worth = strike_turn_worth;
  clean_fit = λ M m h. lt-ltb m M h;
  clean_there = strike_clean_there;
  clean_else = strike_clean_else;
  clean_words = λ M m h l. (omega arith, tt);
}
