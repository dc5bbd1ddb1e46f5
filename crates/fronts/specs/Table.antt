-- The table front: word m of a reading is the plain score of phase m.
use Rattle.std.specs.Prelude.{ℕ, ◌-◌, Bool, cond, ◌&&◌, List, ◌++◌, length, take, drop, replicate, ◌==◌, nat_lt, slice_index, slice_set}

-- A reading has a word for each phase, and any words are fit.
abbrev pub table_fit : ℕ → List ℕ → Bool
table_fit M ws = length ws == M

-- The worth of phase m is word m; 0 in an unfit reading, and if m is no phase.
abbrev pub table_worth : ℕ → List ℕ → ℕ → ℕ
table_worth M ws m = cond (table_fit M ws && nat_lt m M) (slice_index ws m) 0

-- Each word one on, the last to the front.
abbrev pub one_on : List ℕ → List ℕ
one_on ws = drop (length ws - 1) ws ++ take (length ws - 1) ws

-- An unfit reading stays as it is.
abbrev pub table_turn : ℕ → List ℕ → List ℕ
table_turn M ws = cond (table_fit M ws) (one_on ws) ws

-- 0 at phase m and 1 elsewhere.
abbrev pub table_clean : ℕ → ℕ → List ℕ
table_clean M m = slice_set (replicate M 1) m 0
