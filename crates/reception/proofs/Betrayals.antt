-- Clean readings by which two receivers whose turnings are not equal for a code are told apart.
use Rattle.std.proofs.Common.{◌≡◌, ℕ, ◌+◌, ◌-◌, ◌*◌, ◌/◌, ◌%◌, ◌^◌, ◌<◌, ◌≤◌, min, Bool, ltb, leb, List, [], ◌∷◌, length, sym, ap, ◌∙◌, subst, mul_comm, le-div_iff_mul-le, arith, pow_pos}
use native.Mathlib.Nat.{mul-mod_right}
use Rattle.std.proofs.lemmas.Bool.{and_parts, leb-true, ltb-false}
use Rattle.reception.specs.Accepted.{IsCode}
use Rattle.reception.specs.Answer.{told, TellAnswers}
use Rattle.reception.specs.Block.{Block, block, capacity, open_refusal}
use Rattle.reception.specs.Front.{FrontMeaning}
use Rattle.reception.specs.Least.{PathOver, LeastWorth}
use Rattle.reception.specs.Turnings.{ToldApart}
use Rattle.reception.specs.Worth.{Scores, path_worth}
use Rattle.reception.proofs.CleanReadings.{shifted_readings, shifted_reads, all_clean}
use Rattle.reception.proofs.CleanRuns.{takes_clean}
use Rattle.reception.proofs.Codes.{accepted, some_phases, betrayed}
use Rattle.reception.proofs.Differences.{complement, whole}
use Rattle.reception.proofs.Refusals.{miss}
use Rattle.reception.proofs.SharpScores.{sharp_long, turned_self, path_nought, nought_turned}
use Rattle.trellis.specs.declared.Numbers.{Numbers}
use Rattle.trellis.specs.Step.{step}
use Rattle.trellis.specs.Transparency.{IsPath}

-- A block that is opened has room for v + 1 symbols.
opened_room : (cells : ℕ) (n : Numbers) → IsCode n → open_refusal cells n ≡ 0 → n.memory + 1 ≤ capacity cells n
opened_room cells n c e =
    let v = n.memory in
    let enough = ltb-false cells (2 ^ v * (v + 2)) (miss (ltb cells (2 ^ v * (v + 2))) 20 0 (omega arith) e).0 in
    let rows : v + 2 ≤ cells / 2 ^ v = (le-div_iff_mul-le (pow_pos v)).1 (subst (λ (x : ℕ). x ≤ cells) (mul_comm (2 ^ v) (v + 2)) enough) in
    let few = leb-true v 8 (and_parts (leb 1 v) (leb v 8) (accepted n c).sets.memory).1 in
    room (cells / 2 ^ v) v few rows
  where
    room : (k v : ℕ) → v ≤ 8 → v + 2 ≤ k → v + 1 ≤ min 256 (k - 1)
    room k v few rows = omega arith

-- What is told is the least worth.
told_least : (n : Numbers) (ss : List Scores) (j x : ℕ) (p : Bool) → 0 < length ss → TellAnswers (block n ss) (told j x p) → LeastWorth n ss x
told_least n [] j x p some t = absurd (omega arith)
told_least n (s ∷ ss) j x p some t =
    let says = t.says in
    let same : t.worth ≡ x = cc in
    subst (LeastWorth n (s ∷ ss)) same t.least

pub told-apart : (cells t u : ℕ) (n : Numbers) (f : FrontMeaning) → IsCode n → open_refusal cells n ≡ 0 → (t % step n ≡ u % step n → ⊥) → ToldApart cells t u (block n []) (block n []) n f
told-apart cells t u n f c opens ne =
    let M = n.phases in
    let b = betrayed n c t u ne in
    let zs = b.labels in
    let d = complement M t in
    let wss = shifted_readings f n d zs in
    let reads = shifted_reads n c f d zs in
    let long = b.path.long in
    let room : 0 + length zs ≤ capacity cells n = omega (arith, opened_room cells n c opens) in
    let one = takes_clean n c f d t cells zs wss [] reads room in
    let two = takes_clean n c f d u cells zs wss [] reads room in
    let one_long = sharp_long n (d + t) zs one.scores one.sharp in
    let two-long = sharp_long n (d + u) zs two.scores two.sharp in
    let turn : (d + t) % M ≡ 0 = ap (λ (x : ℕ). x % M) (whole M t (some_phases n c)) ∙ mul-mod_right M t in
    record {
      readings = wss;
      clean = all_clean f n d zs wss reads;
      first = one.accepted;
      second = two.accepted;
      differ = λ j k x y p q tells-one tells-two same.
          let first = told_least n one.scores j x p (omega arith) (subst (λ (l : Block). TellAnswers l (told j x p)) one.holds tells-one) in
          let second = told_least n two.scores k y q (omega arith) (subst (λ (l : Block). TellAnswers l (told k y q)) two.holds tells-two) in
          let over : PathOver n one.scores b.start zs = subst (λ (i : ℕ). IsPath n i b.start zs) (sym (one_long ∙ long)) b.path in
          let nought = path_nought n c (d + t) one.scores zs zs one.sharp (turned_self n c (d + t) turn zs) in
          let least = first.is_least.least b.start zs over in
          let has = first.has in
          let other = second.has in
          let none : path_worth n two.scores second.labels ≡ 0 = omega arith in
          let path = second.is_least.path in
          b.none second.start second.labels (subst (λ (i : ℕ). IsPath n i second.start second.labels) (two-long ∙ long) path)
          (nought_turned n c (d + u) two.scores zs second.labels two.sharp path.long none);
    }
