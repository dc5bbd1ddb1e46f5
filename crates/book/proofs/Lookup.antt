-- The entries of a book by their number.
use Rattle.std.proofs.Common.{◌≡◌, ℕ, zero, suc, ◌<◌, ◌≤◌, List, [], ◌∷◌, map, length, get_or, Some, None, refl, ap, arith}
use Rattle.book.specs.Book.{entry_of}
use Rattle.book.specs.Line.{numbers_at}
use Rattle.book.specs.declared.entry.Entry.{Entry}

pub entry_within : (all : List Entry) (i : ℕ) (entry : Entry) → i < length all → entry ≡ get_or all i entry → Some (numbers_at entry) ≡ entry_of (map numbers_at all) i
entry_within [] i entry h e = absurd (omega arith)
entry_within (x ∷ all) zero entry h e = ap (λ (found : Entry). Some (numbers_at found)) e
entry_within (x ∷ all) (suc i) entry h e = entry_within all i entry (omega arith) e

pub entry_past : (all : List Entry) (i : ℕ) → length all ≤ i → None ≡ entry_of (map numbers_at all) i
entry_past [] i h = refl
entry_past (x ∷ all) zero h = absurd (omega arith)
entry_past (x ∷ all) (suc i) h = entry_past all i (omega arith)
