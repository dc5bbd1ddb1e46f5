-- The laws of the mapper: the turning number, what turns with it, and that different labels have different phases.
use Rattle.std.proofs.Common.{◌≡◌, ℕ, zero, suc, ◌+◌, ◌%◌, ◌^◌, ◌<◌, Bool, true, cond, ◌&&◌, eqb, ltb, List, length, get_or, take, drop, sym, refl, ap, ◌∙◌, subst, one-mul, arith}
use native.Mathlib.Nat.{add_right_comm, mod-mod, mod-add-mod}
use Rattle.std.proofs.lemmas.List.{get_or-take, length-take-le}
use Rattle.std.proofs.lemmas.Bool.{and_parts, eqb-true, lt-ltb, cond-true}
use Rattle.trellis.specs.declared.Numbers.{Numbers}
use Rattle.trellis.specs.declared.Row.{Row}
use Rattle.trellis.specs.Label.{turns_by}
use Rattle.trellis.specs.Mapper.{turning_number, picked, entry_at, patterns, phase_at, symbol_of, turned_label, Turns}
use Rattle.trellis.specs.Rows.{signal_rows, label_rows}
use Rattle.trellis.proofs.Gather.{count, gather-below, gather-put, silent, picked-put, rising, picked-rising}
use Rattle.trellis.proofs.Sets.{Within, at_set, below, below_at, places_bound}

-- the rows of a signal set, by its three numbers
abbrev pub bits_of : ℕ → ℕ
bits_of m = cond (eqb m 4) 2 (cond (eqb m 8) 3 4)

abbrev pub set_rows : ℕ → ℕ → ℕ → List Row
set_rows l m q = drop q (signal_rows l (bits_of m))

abbrev pub turn : Row → ℕ
turn r = r.turn

-- every set: the turning rows turn by 1, 2, 4, .. up to half the phases, and have no patterns
abbrev turns_well : ℕ → ℕ → ℕ → Bool
turns_well l m q =
    rising (turns_by 1) turn 0 (set_rows l m q)
    && (eqb (2 ^ count (turns_by 1) (set_rows l m q)) m && below 4 (λ a. silent (turns_by 1) (entry_at a) (set_rows l m q)))

pub record TurnsWell (n : Numbers) : Type 0 where
  pub rises : rising (turns_by 1) turn 0 (label_rows n) ≡ true
  pub all : 2 ^ count (turns_by 1) (label_rows n) ≡ n.phases
  pub quiet : (a : ℕ) → a < 4 → silent (turns_by 1) (entry_at a) (label_rows n) ≡ true

pub turns_well_lem : (n : Numbers) → Within n → TurnsWell n
turns_well_lem n w =
    let first = and_parts _ _ (at_set turns_well refl n w) in
    let rest = and_parts _ _ first.1 in
    record { rises = first.0; all = eqb-true _ _ rest.0; quiet = below_at 4 (λ a. silent (turns_by 1) (entry_at a) (label_rows n)) rest.1 }

-- the exclusive or of the turns is the turning number
pub turn-picked : (n : Numbers) → Within n → (z : ℕ) → picked turn (label_rows n) z ≡ turning_number n z
turn-picked n w z = picked-rising (turns_by 1) turn 0 (label_rows n) (turns_well_lem n w).rises z ∙ one-mul (turning_number n z)

pub turning-below : (n : Numbers) → Within n → (z : ℕ) → turning_number n z < n.phases
turning-below n w z = subst (λ (m : ℕ). turning_number n z < m) (turns_well_lem n w).all (gather-below (turns_by 1) (label_rows n) z)

pub phases_some : (n : Numbers) → Within n → 0 < n.phases
phases_some n w = omega (arith, turning-below n w 0)

-- one place of a symbol
pub symbol_at : (n : Numbers) (z a : ℕ) → a < 4 → get_or (symbol_of n z) a 0 ≡ phase_at n z a
symbol_at n z zero h = refl
symbol_at n z (suc zero) h = refl
symbol_at n z (suc (suc zero)) h = refl
symbol_at n z (suc (suc (suc zero))) h = refl
symbol_at n z (suc (suc (suc (suc a)))) h = absurd (omega arith)

-- the used places of a symbol
pub used_long : (n : Numbers) → Within n → (z : ℕ) → length (take n.places (symbol_of n z)) ≡ n.places
used_long n w z = length-take-le n.places (symbol_of n z) (places_bound n w)

pub used_at : (n : Numbers) → Within n → (z a : ℕ) → a < n.places → get_or (take n.places (symbol_of n z)) a 0 ≡ phase_at n z a
used_at n w z a h = get_or-take n.places (symbol_of n z) a 0 h ∙ symbol_at n z a (omega (arith, places_bound n w))

-- the phase at a used place
pub phase_used : (n : Numbers) (z a : ℕ) → a < n.places → phase_at n z a ≡ (turning_number n z + patterns n z a) % n.phases
phase_used n z a h = cond-true (ltb a n.places) _ _ (lt-ltb a n.places h)

swap_mod : (t g r m : ℕ) → ((t + r) % m % m + g) % m ≡ ((t + g) % m + r) % m
swap_mod t g r m =
    ap (λ (x : ℕ). (x + g) % m) (mod-mod (t + r) m) ∙ mod-add-mod (t + r) m g ∙ ap (λ (x : ℕ). x % m) (add_right_comm t r g) ∙ sym (mod-add-mod (t + g) m r)

pub turns : (n : Numbers) → Within n → Turns n
turns n w r z a h =
    let well = turns_well_lem n w in
    let few = places_bound n w in
    let new = (turning_number n z + r) % n.phases in
    let number : turning_number n (turned_label n r z) ≡ new % n.phases = gather-put (turns_by 1) (label_rows n) new z ∙ ap (λ (x : ℕ). new % x) well.all in
    let same : patterns n (turned_label n r z) a ≡ patterns n z a = picked-put (turns_by 1) (entry_at a) (label_rows n) (well.quiet a (omega arith)) new z in
    phase_used n (turned_label n r z) a h ∙ (λ i. (number i + same i) % n.phases)
    ∙ swap_mod (turning_number n z) (patterns n z a) r n.phases ∙ ap (λ (x : ℕ). (x + r) % n.phases) (sym (phase_used n z a h))
