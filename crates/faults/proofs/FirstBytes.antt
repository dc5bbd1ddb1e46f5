-- The text byte by byte.
use Rattle.std.proofs.Common.{◌≡◌, ℕ, List, [], ◌∷◌, length, Some, None, Option, sym, ap, ◌∙◌, subst}
use Rattle.faults.specs.Escapes.{first_byte, StandsFor}

abbrev rest_of : Option (ℕ × List ℕ) → List ℕ
rest_of None = []
rest_of (Some p) = p.1

-- Where a text stands for bytes, so does what is left behind the first.
pub behind_first : (text rest : List ℕ) (b : ℕ) → first_byte text ≡ Some (b, rest) → (bs : List ℕ) → StandsFor text bs → (cs : List ℕ) × StandsFor rest cs
behind_first text rest b e [] h = let z : first_byte [] ≡ Some (b, rest) = cc in cc
behind_first text rest b e (c ∷ cs) h = (cs, subst (λ (l : List ℕ). StandsFor l cs) (ap rest_of (sym h.1 ∙ e)) h.2)

-- A text with no first byte stands for none, but where it is at its end.
pub none_first : (text : List ℕ) → first_byte text ≡ None → (length text ≡ 0 → ⊥) → (bs : List ℕ) → StandsFor text bs → ⊥
none_first text e some [] h = some (ap length h)
none_first text e some (c ∷ cs) h = let is = h.1 in cc
