-- The digits of a number below 256, written one after another.
use Rattle.std.proofs.Common.{◌≡◌, ℕ, ◌+◌, ◌/◌, ◌%◌, ◌^◌, ◌<◌, ◌≤◌, List, [], ◌∷◌, ◌++◌, decimal, sym, ap, ◌∙◌, append_assoc, arith}
use Rattle.std.proofs.lemmas.Fmt.{decimal_digit, decimal_step}
use Rattle.listing.specs.declared.lines.Lines.{Lines}
use Rattle.listing.specs.Lines.{written, Appends}

pub then : {a b c : Lines} {xs ys : List ℕ} {m n : ℕ} → Appends a xs m b → Appends b ys n c → Appends a (xs ++ ys) (m + n) c
then {a} {b} {c} {xs} {ys} {m} {n} h k = record {
  text = k.text ∙ ap (λ (l : List ℕ). l ++ ys) h.text ∙ append_assoc (written a) xs ys;
  size = omega arith;
}

pub restated : {a b : Lines} {xs ys : List ℕ} {m n : ℕ} → Appends a xs m b → xs ≡ ys → m ≤ n → Appends a ys n b
restated {a} h e l = record { text = h.text ∙ ap (λ (zs : List ℕ). written a ++ zs) e; size = omega arith }

pub one_digit : (n : ℕ) → n < 10 → (48 + n) ∷ [] ≡ decimal n
one_digit n h = sym (decimal_digit n h)

pub two_digits : (n : ℕ) → 10 ≤ n → n < 100 → (48 + n / 10) ∷ (48 + n % 10) ∷ [] ≡ decimal n
two_digits n l h =
    let big : n < 2 ^ 64 = omega arith in
    let high = decimal_digit (n / 10) (omega arith) in
    sym (decimal_step n l big ∙ ap (λ (ds : List ℕ). ds ++ (48 + n % 10) ∷ []) high)

pub three_digits : (n : ℕ) → 100 ≤ n → n < 256 → (48 + n / 10 / 10) ∷ (48 + n / 10 % 10) ∷ (48 + n % 10) ∷ [] ≡ decimal n
three_digits n l h =
    let big : n < 2 ^ 64 = omega arith in
    let high = two_digits (n / 10) (omega arith) (omega arith) in
    sym (decimal_step n (omega arith) big ∙ ap (λ (ds : List ℕ). ds ++ (48 + n % 10) ∷ []) (sym high))
