-- The loop that joins the picked rows.
use Rattle.std.proofs.Common.{◌≡◌, ℕ, ◌+◌, ◌*◌, ◌/◌, ◌%◌, ◌<◌, ◌≤◌, ltb, List, length, get_or, take, drop, Some, Option, sym, ap, ◌∙◌, ⊎_elim, arith}
use lib.Bits.{bit_xor, xor_assoc, xor_zero_r}
use Rattle.std.specs.List.{slice_get}
use Rattle.std.proofs.lemmas.List.{at_drop_more, at_drop_all}
use Rattle.std.proofs.lemmas.Option.{slice_get-get_or, slice_get_past}
use Rattle.std.proofs.lemmas.Bool.{cases_lt, cond-true, cond-false, lt-ltb, le-ltb}
use Rattle.code.specs.Units.{phase_within}
use Rattle.trellis.specs.declared.Numbers.{Numbers}
use Rattle.trellis.specs.Mapper.{picked, symbol_of}
use Rattle.trellis.specs.declared.Row.{Row}
use Rattle.trellis.specs.Parity.{syndrome}
use Rattle.trellis.proofs.MapperLaws.{used_long, used_at}
use Rattle.trellis.proofs.Sets.{Within}

-- The joined polynomials, and the joined entries of the rows: from one on, and past the last.
pub syndrome_more : (hs : List ℕ) (i d z : ℕ) → i < length hs → syndrome (drop i hs) z ≡ bit_xor (z % 2 * get_or hs i d) (syndrome (drop (i + 1) hs) (z / 2))
syndrome_more hs i d z h = at_drop_more (λ rs. syndrome rs z) hs i d h

pub syndrome_all : (hs : List ℕ) (i z : ℕ) → length hs ≤ i → syndrome (drop i hs) z ≡ 0
syndrome_all hs i z h = at_drop_all (λ rs. syndrome rs z) hs i h

pub ruleset syndromes = (syndrome_more, syndrome_all, xor_assoc, xor_zero_r)

pub picked_more : (entry : Row → ℕ) (rs : List Row) (i : ℕ) (d : Row) (z : ℕ) → i < length rs → picked entry (drop i rs) z ≡ bit_xor (z % 2 * entry (get_or rs i d)) (picked entry (drop (i + 1) rs) (z / 2))
picked_more entry rs i d z h = at_drop_more (λ rs. picked entry rs z) rs i d h

pub picked_all : (entry : Row → ℕ) (rs : List Row) (i z : ℕ) → length rs ≤ i → picked entry (drop i rs) z ≡ 0
picked_all entry rs i z h = at_drop_all (λ rs. picked entry rs z) rs i h

pub ruleset picks = (picked_more, picked_all, xor_assoc, xor_zero_r)

abbrev some : ℕ → Option ℕ
some x = Some x

-- A used place has its phase, and any other none.
pub used_phase : (n : Numbers) → Within n → (z a : ℕ) → slice_get (take n.places (symbol_of n z)) a ≡ phase_within n z a
used_phase n w z a =
    let used = take n.places (symbol_of n z) in
    let long : length used ≡ n.places = used_long n w z in
    ⊎_elim
    (λ (h : a < n.places). slice_get-get_or used a 0 (omega arith) ∙ ap (λ (x : ℕ). some x) (used_at n w z a h) ∙ sym (cond-true (ltb a n.places) _ _ (lt-ltb _ _ h)))
    (λ (h : n.places ≤ a). slice_get_past used a (omega arith) ∙ sym (cond-false (ltb a n.places) _ _ (le-ltb _ _ h)))
    (cases_lt a n.places)
