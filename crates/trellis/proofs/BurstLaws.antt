-- The labels that are sent for a list of words are the one burst of those words.
use Rattle.std.proofs.Common.{◌≡◌, ℕ, zero, suc, ◌-◌, ◌*◌, ◌/◌, ◌%◌, ◌^◌, ◌<◌, ◌≤◌, Bool, true, false, ◌&&◌, ◌||◌, eqb, leb, List, [], ◌∷◌, length, drop, sym, refl, ap, ◌∙◌, subst, ⊎_elim, suc-le-suc, arith}
use native.Mathlib.Nat.{mod-mod}
use Rattle.std.proofs.lemmas.Bool.{and_parts, or_cases, eqb-true, eqb-false, leb-true, both_ways, cond_both}
use Rattle.trellis.specs.declared.Numbers.{Numbers}
use Rattle.trellis.specs.Burst.{labels_from, Carry, Rises, BurstLaw}
use Rattle.trellis.specs.Label.{turns_by}
use Rattle.trellis.specs.Limits.{limit_fault, is_first, polynomial_fault, parity_turns}
use Rattle.trellis.specs.Numbers.{phase_bits, label_bits, polynomials}
use Rattle.trellis.specs.Parity.{next_state}
use Rattle.trellis.specs.Path.{Leads}
use Rattle.trellis.specs.Precoder.{differential, label_of, risen}
use Rattle.trellis.specs.Rows.{label_rows}
use Rattle.trellis.specs.Step.{turning_row, turning_bit, checked_turns, exponent_at, step_exponent, step, differential_bits}
use Rattle.trellis.proofs.Distinct.{label_length}
use Rattle.trellis.proofs.Gather.{count}
use Rattle.trellis.proofs.MapperLaws.{bits_of, set_rows}
use Rattle.trellis.proofs.OneLabel.{head_free, Carries, carries, carries_sole}
use Rattle.trellis.proofs.Sets.{within, unless-none, at_set, below, below_at}

-- every set, at every exponent of a step: the differential rows are as many as the levels left, and the first row is
-- one of them only where the parity bit turns
abbrev differential_well : ℕ → ℕ → ℕ → Bool
differential_well l m q =
    (leb 2 (bits_of m * l - q) && leb (bits_of m * l - q) 16) && below (suc (bits_of m)) (λ d.
    ((eqb (turning_row l (bits_of m) 0 - q) 0 && eqb d 0) || head_free (turns_by (2 ^ d)) (set_rows l m q))
    && (eqb (count (turns_by (2 ^ d)) (set_rows l m q)) (bits_of m - d) && (eqb (m / 2 ^ d) (2 ^ (bits_of m - d)) && (leb (2 ^ d) m && leb (2 ^ (bits_of m - d)) 16))))

pub turns_below : (n : Numbers) (c k : ℕ) → checked_turns n c k ≤ k
turns_below n c zero = omega arith
turns_below n c (suc k) =
    let less = turns_below n c k in
    cond_both (leb (turning_bit n k) c) (suc k) (checked_turns n c k) (λ x. x ≤ suc k) (λ _. omega arith) (λ _. omega arith)

pub exponent_bound : (n : Numbers) → step_exponent n ≤ phase_bits n
exponent_bound n =
    let turns = checked_turns n n.checked (phase_bits n) in
    let few = turns_below n n.checked (phase_bits n) in
    cond_both (eqb turns 0) 0 (exponent_at n (turns - 1)) (λ x. x ≤ phase_bits n) (λ _. omega arith)
    (λ e. let some : (turns ≡ 0 → ⊥) = eqb-false turns 0 e in omega arith)

pub record Sends (n : Numbers) : Type 0 where
  pub free : head_free (turns_by (step n)) (label_rows n) ≡ true
  pub wide : count (turns_by (step n)) (label_rows n) ≡ differential_bits n
  pub modulus : n.phases / step n ≡ 2 ^ differential_bits n
  pub within_phases : step n ≤ n.phases
  pub small : 2 ^ differential_bits n ≤ 16
  pub long : length (label_rows n) ≡ label_bits n
  pub least : 2 ≤ label_bits n
  pub most : label_bits n ≤ 16
  pub odd : n.h0 % 2 ≡ 1

pub sends : (n : Numbers) → limit_fault n ≡ 0 → polynomial_fault n ≡ 0 → parity_turns n ≡ false → Sends n
sends n limits polys parity =
    let w = within n limits in
    let sized = and_parts _ _ (at_set differential_well refl n w) in
    let few = and_parts _ _ sized.0 in
    let all = below_at (suc (phase_bits n)) (λ d.
    ((eqb (turning_row n.places (phase_bits n) 0 - n.offset) 0 && eqb d 0) || head_free (turns_by (2 ^ d)) (label_rows n))
    && (eqb (count (turns_by (2 ^ d)) (label_rows n)) (phase_bits n - d) && (eqb (n.phases / 2 ^ d) (2 ^ (phase_bits n - d)) && (leb (2 ^ d) n.phases && leb (2 ^ (phase_bits n - d)) 16)))) sized.1 in
    let bound : step_exponent n < suc (phase_bits n) = suc-le-suc (exponent_bound n) in
    let here = and_parts _ _ (all (step_exponent n) bound) in
    let there = and_parts _ _ here.1 in
    let last = and_parts _ _ there.1 in
    let ends = and_parts _ _ last.1 in
    record {
      free = ⊎_elim (λ t. absurd (both_ways _ parity t)) (λ f. f) (or_cases _ _ here.0);
      wide = eqb-true _ _ there.0;
      modulus = eqb-true _ _ last.0;
      within_phases = leb-true _ _ ends.0;
      small = leb-true _ _ ends.1;
      long = label_length n w;
      least = leb-true _ _ few.0;
      most = leb-true _ _ few.1;
      odd = eqb-true _ _ (and_parts _ _ (unless-none (is_first n.memory n.h0) 6 _ (omega arith) polys).0).0;
    }

module _ (n : Numbers) (s : Sends n) where
  -- the label of one word carries it
  one : (S V w : ℕ) → Carries (turns_by (step n)) (label_rows n) (polynomials n) S (risen n V w) w (label_of n S V w)
  one S V w = carries n.h0 (drop 1 (polynomials n)) s.odd (turns_by (step n)) (label_rows n) S (risen n V w) w s.free

  rise : (S V w : ℕ) → differential n (label_of n S V w) ≡ risen n V w
  rise S V w = (one S V w).reads ∙ ap (λ (k : ℕ). risen n V w % 2 ^ k) s.wide ∙ mod-mod _ (2 ^ differential_bits n)

  path : (S V : ℕ) (ws : List ℕ) → (E : ℕ) × Leads (polynomials n) S (labels_from n S V ws) E
  path S V [] = (S, refl)
  path S V (w ∷ ws) =
      let rest = path (next_state (polynomials n) S (label_of n S V w)) (risen n V w) ws in (rest.0, ((one S V w).allowed, rest.1))

  carry : (S V : ℕ) (ws : List ℕ) → Carry n ws (labels_from n S V ws)
  carry S V [] = tt
  carry S V (w ∷ ws) = (
    subst (λ (k : ℕ). label_of n S V w < 2 ^ k) s.long (one S V w).bound,
    (one S V w).agrees,
    carry (next_state (polynomials n) S (label_of n S V w)) (risen n V w) ws,
  )

  rises : (S V : ℕ) (ws : List ℕ) → Rises n V ws (labels_from n S V ws)
  rises S V [] = tt
  rises S V (w ∷ ws) =
      let next = next_state (polynomials n) S (label_of n S V w) in (
        rise S V w,
        subst (λ (v : ℕ). Rises n v ws (labels_from n next (risen n V w) ws)) (sym (rise S V w)) (rises next (risen n V w) ws),
      )

  -- no other labels do
  sole : (S V : ℕ) (ws zs : List ℕ) (E : ℕ) → Leads (polynomials n) S zs E → Carry n ws zs → Rises n V ws zs → zs ≡ labels_from n S V ws
  sole S V [] [] E p c r = refl
  sole S V [] (z ∷ zs) E p c r = absurd c
  sole S V (w ∷ ws) [] E p c r = absurd c
  sole S V (w ∷ ws) (z ∷ zs) E p c r =
      let here : z ≡ label_of n S V w =
      carries_sole n.h0 (drop 1 (polynomials n)) s.odd (turns_by (step n)) (label_rows n) S (risen n V w) w z s.free
      (subst (λ (k : ℕ). z < 2 ^ k) (sym s.long) c.0) p.0 r.0 c.1 in
      let rest = sole (next_state (polynomials n) S z) (differential n z) ws zs E p.1 c.2 r.1 in
      (λ i. here i ∷ rest i) ∙ (λ i. label_of n S V w ∷ labels_from n (next_state (polynomials n) S (here i)) (r.0 i) ws)

pub burst_law : (n : Numbers) → Sends n → BurstLaw n
burst_law n s ws = (
  record { path = path n s 0 0 ws; carry = carry n s 0 0 ws; rises = rises n s 0 0 ws },
  λ zs b. sole n s 0 0 ws zs b.path.0 b.path.1 b.carry b.rises,
)
