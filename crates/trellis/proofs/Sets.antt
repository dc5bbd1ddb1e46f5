-- What the limits say, and how a test at each of the 21 signal sets holds of every code.
use Rattle.std.proofs.Common.{◌≡◌, ℕ, zero, suc, ◌<◌, ◌≤◌, Bool, true, false, ◌&&◌, ◌||◌, eqb, ltb, ◌⊎◌, sym, refl, subst, inl, inr, ⊎_elim, arith}
use Rattle.std.proofs.lemmas.Bool.{and_parts, or_cases, eqb-true, ltb-true, cases_eq}
use Rattle.trellis.specs.declared.Numbers.{Numbers}
use Rattle.trellis.specs.Limits.{unless, is_places, is_phases, is_checked, is_memory, limit_fault}
use Rattle.trellis.specs.Numbers.{word_bits}

-- no fault at a column, nor at those after it
pub unless-none : (within : Bool) (column rest : ℕ) → 0 < column → unless within column rest ≡ 0 → (within ≡ true) × (rest ≡ 0)
unless-none true column rest some e = (refl, e)
unless-none false column rest some e = absurd (omega arith)

pub record Within (n : Numbers) : Type 0 where
  pub places : is_places n.places ≡ true
  pub phases : is_phases n.phases ≡ true
  pub offset : n.offset < n.places
  pub checked : is_checked (word_bits n) n.checked ≡ true
  pub memory : is_memory n.memory ≡ true

pub within : (n : Numbers) → limit_fault n ≡ 0 → Within n
within n e =
    let l = unless-none (is_places n.places) 1 _ (omega arith) e in
    let m = unless-none (is_phases n.phases) 2 _ (omega arith) l.1 in
    let q = unless-none (ltb n.offset n.places) 3 _ (omega arith) m.1 in
    let c = unless-none (is_checked (word_bits n) n.checked) 4 _ (omega arith) q.1 in
    let v = unless-none (is_memory n.memory) 5 _ (omega arith) c.1 in
    record { places = l.0; phases = m.0; offset = ltb-true _ _ q.0; checked = c.0; memory = v.0 }

-- one of three numbers
pub one_of : (x a b c : ℕ) → (eqb x a || (eqb x b || eqb x c)) ≡ true → (x ≡ a) ⊎ ((x ≡ b) ⊎ (x ≡ c))
one_of x a b c e =
    ⊎_elim (λ h. inl (eqb-true x a h))
    (λ h. inr (⊎_elim (λ k. inl (eqb-true x b k)) (λ k. inr (eqb-true x c k)) (or_cases _ _ h)))
    (or_cases _ _ e)

pub places_bound : (n : Numbers) → Within n → n.places ≤ 4
places_bound n w =
    ⊎_elim (λ (e : n.places ≡ 1). omega arith) (λ h. ⊎_elim (λ (e : n.places ≡ 2). omega arith) (λ (e : n.places ≡ 4). omega arith) h) (one_of _ 1 2 4 w.places)

-- the test at each number below k
abbrev pub below : ℕ → (ℕ → Bool) → Bool
below zero f = true
below (suc k) f = f k && below k f

pub below_at : (k : ℕ) (f : ℕ → Bool) → below k f ≡ true → (q : ℕ) → q < k → f q ≡ true
below_at zero f e q h = absurd (omega arith)
below_at (suc k) f e q h =
    let parts = and_parts (f k) (below k f) e in
    ⊎_elim (λ (same : q ≡ k). subst (λ (x : ℕ). f x ≡ true) (sym same) parts.0) (λ other. below_at k f parts.1 q (omega arith)) (cases_eq q k)

-- the test at each of three numbers
abbrev three : ℕ → ℕ → ℕ → (ℕ → Bool) → Bool
three a b c f = f a && (f b && f c)

three_at : (a b c : ℕ) (f : ℕ → Bool) → three a b c f ≡ true → (x : ℕ) → (eqb x a || (eqb x b || eqb x c)) ≡ true → f x ≡ true
three_at a b c f e x is =
    let first = and_parts (f a) (f b && f c) e in
    let rest = and_parts (f b) (f c) first.1 in
    let at : (y : ℕ) → x ≡ y → f y ≡ true → f x ≡ true = λ y same h. subst (λ (z : ℕ). f z ≡ true) (sym same) h in
    ⊎_elim (λ h. at a h first.0) (λ h. ⊎_elim (λ k. at b k rest.0) (λ k. at c k rest.1) h) (one_of x a b c is)

-- the test at each of the 21 signal sets: places, phases and offset
abbrev pub every_set : (ℕ → ℕ → ℕ → Bool) → Bool
every_set f = three 1 2 4 (λ l. three 4 8 16 (λ m. below l (λ q. f l m q)))

pub at_set : (f : ℕ → ℕ → ℕ → Bool) → every_set f ≡ true → (n : Numbers) → Within n → f n.places n.phases n.offset ≡ true
at_set f e n w =
    let l = three_at 1 2 4 (λ l. three 4 8 16 (λ m. below l (λ q. f l m q))) e n.places w.places in
    let m = three_at 4 8 16 (λ m. below n.places (λ q. f n.places m q)) l n.phases w.phases in
    below_at n.places (λ q. f n.places n.phases q) m n.offset w.offset
