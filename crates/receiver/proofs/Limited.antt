-- What the limits of a code give the receiver.
use Rattle.std.proofs.Common.{◌≡◌, ℕ, ◌+◌, ◌^◌, ◌≤◌, true, ◌&&◌, ◌||◌, eqb, leb, ⊎_elim, arith}
use native.Mathlib.Nat.{pow-le-pow_right}
use Rattle.std.proofs.lemmas.Bool.{and_parts, eqb-true, leb-true, or_cases}
use Rattle.code.specs.declared.record.Code.{Code}
use Rattle.trellis.specs.Limits.{is_phases}
use Rattle.trellis.specs.Numbers.{label_bits, word_bits}
use Rattle.trellis.proofs.BurstLaws.{Sends, sends}
use Rattle.trellis.proofs.Polynomials.{memory_bound}
use Rattle.trellis.proofs.Sets.{within, places_bound}

pub places_most : (k : Code) → k.numbers.places ≤ 4
places_most k = places_bound k.numbers (within k.numbers k.limits)

is_phases_most : (m : ℕ) → is_phases m ≡ true → m ≤ 16
is_phases_most m e =
    ⊎_elim (λ h. omega (arith, eqb-true m 4 h))
    (λ h. ⊎_elim (λ q. omega (arith, eqb-true m 8 q)) (λ q. omega (arith, eqb-true m 16 q)) (or_cases (eqb m 8) (eqb m 16) h))
    (or_cases (eqb m 4) (eqb m 8 || eqb m 16) e)

pub phases_most : (k : Code) → k.numbers.phases ≤ 16
phases_most k = is_phases_most k.numbers.phases (within k.numbers k.limits).phases

accepted : (k : Code) → Sends k.numbers
accepted k = sends k.numbers k.limits k.polynomials k.parity

power_up : (i j : ℕ) → i ≤ j → 2 ^ i ≤ 2 ^ j
power_up i j h = pow-le-pow_right {n = 2} (omega arith) {i = i} {j = j} h

-- There are at most 65,536 labels.
pub labels_most : (k : Code) → 2 ^ label_bits k.numbers ≤ 65536
labels_most k = power_up (label_bits k.numbers) 16 (accepted k).most

checked_parts : (k : Code) → (1 ≤ k.numbers.checked) × (k.numbers.checked ≤ 3) × (k.numbers.checked ≤ word_bits k.numbers)
checked_parts k =
    let c = k.numbers.checked in
    let first = and_parts (leb 1 c) (leb c 3 && leb c (word_bits k.numbers)) (within k.numbers k.limits).checked in
    let rest = and_parts (leb c 3) (leb c (word_bits k.numbers)) first.1 in
    (leb-true 1 c first.0, leb-true c 3 rest.0, leb-true c (word_bits k.numbers) rest.1)

pub checked_most : (k : Code) → k.numbers.checked ≤ 3
checked_most k = (checked_parts k).1

-- There are at most 16 groups, and no more than labels.
pub groups_most : (k : Code) → 2 ^ (k.numbers.checked + 1) ≤ 16
groups_most k = let few = checked_most k in power_up (k.numbers.checked + 1) 4 (omega arith)

pub groups_labels : (k : Code) → 2 ^ (k.numbers.checked + 1) ≤ 2 ^ label_bits k.numbers
groups_labels k =
    let few = (checked_parts k).2 in
    let least = (accepted k).least in
    power_up (k.numbers.checked + 1) (label_bits k.numbers) (omega arith)

pub memory_most : (k : Code) → k.numbers.memory ≤ 8
memory_most k = memory_bound k.numbers k.limits

pub memory_least : (k : Code) → 1 ≤ k.numbers.memory
memory_least k = leb-true 1 k.numbers.memory (and_parts (leb 1 k.numbers.memory) (leb k.numbers.memory 8) (within k.numbers k.limits).memory).0

-- There are 2 to 256 states.
pub states_least : (k : Code) → 2 ≤ 2 ^ k.numbers.memory
states_least k = power_up 1 k.numbers.memory (memory_least k)

pub states_most : (k : Code) → 2 ^ k.numbers.memory ≤ 256
states_most k = power_up k.numbers.memory 8 (memory_most k)

pub checked_least : (k : Code) → 1 ≤ k.numbers.checked
checked_least k = (checked_parts k).0
