-- The table front keeps the laws of a front.
use Rattle.std.specs.Prelude.{◌≡◌, ℕ, zero, suc, ◌+◌, ◌-◌, ◌%◌, ◌^◌, ◌<◌, ◌≤◌, true, ◌&&◌, List, [], ◌∷◌, length, take, drop, replicate, ◌≢◌, nat_eq, nat_lt, slice_index, slice_set, refl}
use Rattle.std.proofs.Common.{⊎_elim, ◌∙◌, ap, sym, mod-eq_of_lt, mod-lt, arith, lit<}
use Rattle.std.proofs.Math.Nat.{mod_self}
use Rattle.std.proofs.lemmas.List.{length-set, length-append, length-drop, length-take-le, length-replicate, get_or_append_left, get_or-append_right, get_or-drop, get_or-take, get_or-set_same, get_or-set_other, get_or-replicate}
use Rattle.std.proofs.lemmas.Bool.{eqb-true, eq-eqb, lt-ltb, le-ltb, and_from, and_left, and_right, cond-true, cond-false, cond_both, cases_lt}
use Rattle.reception.specs.Front.{FrontMeaning, Words}
use Rattle.fronts.specs.Table.{table_fit, table_worth, one_on, table_turn, table_clean}

one_on_long : (ws : List ℕ) → length (one_on ws) ≡ length ws
one_on_long ws =
    let n : ℕ = length ws - 1 in
    let front : length (take n ws) ≡ n = length-take-le n ws (omega arith) in
    length-append (drop n ws) (take n ws) ∙ omega (arith, length-drop n ws, front)

-- The last word comes to the front, and each other word one on.
one_on_last : (ws : List ℕ) → 0 < length ws → slice_index (one_on ws) 0 ≡ slice_index ws (length ws - 1)
one_on_last ws h =
    let n : ℕ = length ws - 1 in
    get_or_append_left (drop n ws) (take n ws) 0 0 (omega (arith, length-drop n ws)) ∙ get_or-drop n ws 0 0 ∙ ap (λ (k : ℕ). slice_index ws k) (omega arith)

one_on_more : (ws : List ℕ) (m : ℕ) → m + 1 < length ws → slice_index (one_on ws) (m + 1) ≡ slice_index ws m
one_on_more ws m h =
    let n : ℕ = length ws - 1 in
    get_or-append_right (drop n ws) (take n ws) 1 (m + 1) 0 (omega (arith, length-drop n ws)) (omega arith) ∙ ap (λ (k : ℕ). slice_index (take n ws) k) (omega arith) ∙ get_or-take n ws m 0 (omega arith)

one_on_at : (ws : List ℕ) (m : ℕ) → m < length ws → slice_index (one_on ws) ((m + 1) % length ws) ≡ slice_index ws m
one_on_at ws m h =
    ⊎_elim
    (λ (l : m + 1 < length ws). ap (λ (k : ℕ). slice_index (one_on ws) k) (mod-eq_of_lt {n = m + 1} {m = length ws} l) ∙ one_on_more ws m l)
    (λ (l : length ws ≤ m + 1).
    let all : m + 1 ≡ length ws = omega arith in
    ap (λ (k : ℕ). slice_index (one_on ws) (k % length ws)) all ∙ ap (λ (k : ℕ). slice_index (one_on ws) k) (mod_self (length ws)) ∙ one_on_last ws (omega arith) ∙ ap (λ (k : ℕ). slice_index ws k) (omega arith))
    (cases_lt (m + 1) (length ws))

-- The worth of a phase below M.
table_worth_lem : (M : ℕ) (ws : List ℕ) (m : ℕ) → table_fit M ws ≡ true → m < M → table_worth M ws m ≡ slice_index ws m
table_worth_lem M ws m e h = cond-true (table_fit M ws && nat_lt m M) (slice_index ws m) 0 (and_from (table_fit M ws) (nat_lt m M) e (lt-ltb m M h))

pub table_turn_long : (M : ℕ) (ws : List ℕ) → length (table_turn M ws) ≡ length ws
table_turn_long M ws = cond_both (table_fit M ws) (one_on ws) ws (λ x. length x ≡ length ws) (λ _. one_on_long ws) (λ _. refl)

pub table_turn_fit : (M : ℕ) (ws : List ℕ) → table_fit M (table_turn M ws) ≡ table_fit M ws
table_turn_fit M ws = ap (λ (n : ℕ). nat_eq n M) (table_turn_long M ws)

pub table_turn_worth : (M : ℕ) (ws : List ℕ) (m : ℕ) → table_fit M ws ≡ true → m < M → table_worth M (table_turn M ws) ((m + 1) % M) ≡ table_worth M ws m
table_turn_worth M ws m e h =
    let long : length ws ≡ M = eqb-true (length ws) M e in
    table_worth_lem M (table_turn M ws) ((m + 1) % M) (table_turn_fit M ws ∙ e) (mod-lt (m + 1) (omega arith))
    ∙ ap (λ (x : List ℕ). slice_index x ((m + 1) % M)) (cond-true (table_fit M ws) (one_on ws) ws e)
    ∙ ap (λ (n : ℕ). slice_index (one_on ws) ((m + 1) % n)) (sym long)
    ∙ one_on_at ws m (omega arith)
    ∙ sym (table_worth_lem M ws m e h)

clean_long : (M m : ℕ) → length (table_clean M m) ≡ M
clean_long M m = length-set (replicate M 1) m 0 ∙ length-replicate M 1

pub table_clean_fit : (M m : ℕ) → table_fit M (table_clean M m) ≡ true
table_clean_fit M m = eq-eqb (length (table_clean M m)) M (clean_long M m)

pub table_clean_there : (M m : ℕ) → m < M → table_worth M (table_clean M m) m ≡ 0
table_clean_there M m h =
    table_worth_lem M (table_clean M m) m (table_clean_fit M m) h
    ∙ get_or-set_same (replicate M 1) m 0 0 (omega (arith, length-replicate {A = ℕ} M 1))

pub table_clean_else : (M m k : ℕ) → k < M → (k ≢ m) → table_worth M (table_clean M m) k ≡ 1
table_clean_else M m k h other =
    table_worth_lem M (table_clean M m) k (table_clean_fit M m) h
    ∙ get_or-set_other (replicate M 1) m k 0 0 other
    ∙ get_or-replicate M k 1 0 h

pub set_words : (ws : List ℕ) (m w : ℕ) → w < 2 ^ 16 → Words ws → Words (slice_set ws m w)
set_words [] m w h all = tt
set_words (x ∷ ws) zero w h all = (h, all.1)
set_words (x ∷ ws) (suc m) w h all = (all.0, set_words ws m w h all.1)

pub ones_words : (M : ℕ) → Words (replicate M 1)
ones_words zero = tt
ones_words (suc M) = (lit< tt, ones_words M)

abbrev pub table_meaning : FrontMeaning
table_meaning = record {
  width = λ M. M;
  fit = table_fit;
  worth = table_worth;
  turn = table_turn;
  clean = table_clean;
  fit_long = λ M ws e. eqb-true (length ws) M e;
  unfit_nought = λ M ws m e. cond-false (table_fit M ws && nat_lt m M) (slice_index ws m) 0 (and_left (table_fit M ws) (nat_lt m M) e);
  past_nought = λ M ws m h. cond-false (table_fit M ws && nat_lt m M) (slice_index ws m) 0 (and_right (table_fit M ws) (nat_lt m M) (le-ltb m M h));
  turn_long = table_turn_long;
  turn_fit = table_turn_fit;
  turn_unfit = λ M ws e. cond-false (table_fit M ws) (one_on ws) ws e;
  turn_worth = table_turn_worth;
  clean_fit = λ M m h. table_clean_fit M m;
  clean_there = table_clean_there;
  clean_else = λ M m k h l other. omega (arith, table_clean_else M m k l other);
  clean_words = λ M m h l. set_words (replicate M 1) m 0 (lit< tt) (ones_words M);
}
