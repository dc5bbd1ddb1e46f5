-- Tables of scores: the worths of one symbol's phases, with room for sixteen phases at each place.
use Rattle.std.specs.Prelude.{◌≡◌, ℕ, zero, suc, ◌+◌, ◌*◌, ◌<◌, ◌≤◌, List, slice_index}
use Rattle.reception.specs.Worth.{Scores}
use Rattle.trellis.specs.declared.Numbers.{Numbers}
use Rattle.trellis.specs.Mapper.{symbol_of}

-- The worth of phase m at place a.
abbrev pub entry_of : List ℕ → ℕ → ℕ → ℕ
entry_of ws a m = slice_index ws (a * 16 + m)

-- The sum over the first places of a symbol.
abbrev pub places_sum : List ℕ → List ℕ → ℕ → ℕ
places_sum ws symbol zero = 0
places_sum ws symbol (suc a) = places_sum ws symbol a + entry_of ws a (slice_index symbol a)

-- The worth of label z by the table.
abbrev pub label_sum : Numbers → List ℕ → ℕ → ℕ
label_sum n ws z = places_sum ws (symbol_of n z) n.places

-- No worth is above that of a place.
abbrev pub Small : List ℕ → Type 0
Small ws = (i : ℕ) → slice_index ws i ≤ 1048575

-- The table holds the scores s at the first places.
abbrev pub Holds : List ℕ → ℕ → Scores → ℕ → Type 0
Holds ws phases s places = (a m : ℕ) → a < places → m < phases → entry_of ws a m ≡ s a m

-- The first worths, so many, are f 0, f 1, .. and none is above that of a place.
abbrev pub Filled : List ℕ → ℕ → (ℕ → ℕ) → Type 0
Filled ws many f = (m : ℕ) → m < many → (slice_index ws m ≡ f m) × (f m ≤ 1048575)
