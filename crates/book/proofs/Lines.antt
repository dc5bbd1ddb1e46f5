-- What one line adds to the codes of the lines before it.
use Rattle.std.proofs.Common.{◌≡◌, ℕ, zero, suc, ◌-◌, ◌<◌, List, [], ◌∷◌, ◌++◌, length, Ok, Err, Result, sym, refl, ap, ◌∙◌, append_assoc, sub-one, arith}
use Rattle.std.specs.Result.{result_map_both}
use Rattle.trellis.specs.declared.Numbers.{Numbers}
use Rattle.code.specs.Flaw.{judged}
use Rattle.code.specs.declared.flaw.Flaw.{Flaw}
use Rattle.book.specs.Book.{before, code_lines}
use Rattle.book.specs.Line.{unchanged, itself, at_line, line_numbers, code_line}
use Rattle.book.specs.declared.fault.Fault.{Fault}

-- These codes, before those that are still to come.
abbrev pub after : List Numbers → Result (List Numbers) Fault → Result (List Numbers) Fault
after ns rest = result_map_both (λ more. ns ++ more) unchanged rest

pub after_none : (r : Result (List Numbers) Fault) → after [] r ≡ r
after_none (Ok ns) = refl
after_none (Err fault) = refl

after_more : (ns : List Numbers) (n : Numbers) (r : Result (List Numbers) Fault) → after (ns ++ n ∷ []) r ≡ after ns (result_map_both (λ more. n ∷ more) unchanged r)
after_more ns n (Ok more) = ap (λ (l : List Numbers). Ok l) (append_assoc ns (n ∷ []) more)
after_more ns n (Err fault) = refl

lines_more : (most line : ℕ) (text : List ℕ) → 0 < most → (length text ≡ 0 → ⊥) → code_lines most line text ≡ before (code_line line text) (code_lines (most - 1) (suc line))
lines_more zero line text m some = absurd (omega arith)
lines_more (suc most) line [] m some = absurd (some refl)
lines_more (suc most) line (b ∷ text) m some = rw (sub-one (suc most))

-- A line's fault is the book's.
pub refused : (ns : List Numbers) (most line : ℕ) (rest : List ℕ) (fault : Fault) → 0 < most → (length rest ≡ 0 → ⊥) → Err fault ≡ code_line line rest → after ns (code_lines most line rest) ≡ Err fault
refused ns most line rest fault room some is = rw (lines_more most line rest room some, ← is)

-- One more line.
pub one_more : (ns : List Numbers) (n : Numbers) (most line : ℕ) (rest next : List ℕ) → 0 < most → (length rest ≡ 0 → ⊥) → Ok (n, next) ≡ code_line line rest → after (ns ++ n ∷ []) (code_lines (most - 1) (suc line) next) ≡ after ns (code_lines most line rest)
one_more ns n most line rest next room some is =
    after_more ns n (code_lines (most - 1) (suc line) next) ∙ rw (lines_more most line rest room some, ← is)

-- A line's numbers are judged, and what follows the line is left.
with_rest : (line : ℕ) (rest : List ℕ) (m : Numbers) (r : Result Numbers Flaw) → Ok m ≡ result_map_both itself (at_line line) r → result_map_both {U = Numbers × List ℕ} (λ n. (n, rest)) (at_line line) r ≡ Ok (m, rest)
with_rest line rest m (Ok n) e = cc
with_rest line rest m (Err flaw) e = cc

flawed : (line : ℕ) (rest : List ℕ) (fault : Fault) (r : Result Numbers Flaw) → Err fault ≡ result_map_both itself (at_line line) r → result_map_both {U = Numbers × List ℕ} (λ n. (n, rest)) (at_line line) r ≡ Err fault
flawed line rest fault (Ok n) e = cc
flawed line rest fault (Err flaw) e = cc

pub number_fault : (line : ℕ) (text rest : List ℕ) (n : Numbers) (fault : Fault) → Ok (n, rest) ≡ line_numbers line text → Err fault ≡ result_map_both itself (at_line line) (judged n) → Err fault ≡ code_line line text
unfolding code_line
number_fault line text rest n fault e f = sym (rw (← e) (flawed line rest fault (judged n) f))

pub line_code : (line : ℕ) (text rest : List ℕ) (n m : Numbers) → Ok (n, rest) ≡ line_numbers line text → Ok m ≡ result_map_both itself (at_line line) (judged n) → Ok (m, rest) ≡ code_line line text
unfolding code_line
line_code line text rest n m e f = sym (rw (← e) (with_rest line rest m (judged n) f))
