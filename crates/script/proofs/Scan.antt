-- Where the first empty line is: what is passed and what is left give the place.
use Rattle.std.proofs.Common.{◌≡◌, ℕ, ◌+◌, ◌<◌, ◌≤◌, Bool, true, false, not, cond, ◌&&◌, eqb, ltb, List, length, get_or, drop, ◌∙◌, arith}
use Rattle.std.proofs.lemmas.Bool.{cond-true, cond-false}
use Rattle.std.proofs.lemmas.Bool.Decides.{nat_tests}
use Rattle.std.proofs.lemmas.List.{at_drop_more, at_drop_all}
use Rattle.std.proofs.lemmas.List.Sums.{prefix_len-le-length}
use Rattle.script.specs.Lines.{empty_line, first_size}

-- A search that counts from i on, by what it finds in the rest.
abbrev pub Passed : (List ℕ → ℕ) → (List ℕ → ℕ) → List ℕ → ℕ → Type 0
Passed rest whole text i = i + rest (drop i text) ≡ whole text

module _ (text : List ℕ) (i : ℕ) (within : i < length text) where
  pub empty_here : (begins : Bool) → Passed (empty_line begins) (empty_line true) text i → (begins && eqb (get_or text i 0) 10) ≡ true → i ≡ empty_line true text
  empty_here begins h e =
      let here = at_drop_more (empty_line begins) text i 0 within ∙ cond-true (begins && eqb (get_or text i 0) 10) _ _ e in omega arith

  pub empty_more : (begins : Bool) → Passed (empty_line begins) (empty_line true) text i → (begins && eqb (get_or text i 0) 10) ≡ false → Passed (empty_line (eqb (get_or text i 0) 10)) (empty_line true) text (i + 1)
  empty_more begins h e =
      let here = at_drop_more (empty_line begins) text i 0 within ∙ cond-false (begins && eqb (get_or text i 0) 10) _ _ e in omega arith

pub empty_all : (text : List ℕ) (i : ℕ) (begins : Bool) → length text ≤ i → i ≤ length text → Passed (empty_line begins) (empty_line true) text i → length text ≡ empty_line true text
empty_all text i begins past within h = let none = at_drop_all (empty_line begins) text i past in omega arith

line_within : (n m : ℕ) → n ≤ m → cond (ltb n m) (n + 1) n ≤ m
line_within n m h = grind (arith, nat_tests)

pub first_within : (text : List ℕ) → first_size text ≤ length text
first_within text = line_within _ _ (prefix_len-le-length (λ b. not (eqb b 10)) text)
