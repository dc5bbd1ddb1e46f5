-- The numbers of the differential bits: what they are, and that they fit.
use Rattle.std.proofs.Common.{◌≡◌, ℕ, ◌+◌, ◌-◌, ◌/◌, ◌%◌, ◌^◌, ◌<◌, ◌≤◌, List, length, ap, ◌∙◌, subst, arith}
use native.Mathlib.Nat.{pow-le-pow_right}
use Rattle.code.specs.declared.record.Code.{Code}
use Rattle.trellis.specs.declared.Row.{Row}
use Rattle.trellis.specs.Label.{gather, put, turns_by}
use Rattle.trellis.specs.Precoder.{differential}
use Rattle.trellis.specs.Rows.{label_rows}
use Rattle.trellis.specs.Step.{step, differential_bits}
use Rattle.trellis.specs.Words.{rise, word_between}
use Rattle.trellis.proofs.BurstLaws.{Sends, sends}
use Rattle.trellis.proofs.Gather.{gather-below, put-below}

module _ (k : Code) where
  accepted : Sends k.numbers
  accepted = sends k.numbers k.limits k.polynomials k.parity

  -- the differential number of a label, below 2 to the count of its bits
  pub number_below : (z : ℕ) → differential k.numbers z < 2 ^ differential_bits k.numbers
  number_below z =
      subst (λ (x : ℕ). differential k.numbers z < 2 ^ x) accepted.wide (gather-below (turns_by (step k.numbers)) (label_rows k.numbers) z)

  pub modulus_few : 2 ^ differential_bits k.numbers ≤ 16
  modulus_few = accepted.small

  pub modulus_is : (s : ℕ) → s ≡ step k.numbers → k.numbers.phases / s ≡ 2 ^ differential_bits k.numbers
  modulus_is s e = ap (λ (x : ℕ). k.numbers.phases / x) e ∙ accepted.modulus

  module _ (s : ℕ) (s-is : s ≡ step k.numbers) (rows : List Row) (rows_are : rows ≡ label_rows k.numbers) where
    pub number_is : (g z : ℕ) → g ≡ gather (turns_by s) rows z → g ≡ differential k.numbers z
    number_is g z e = e ∙ (λ i. gather (turns_by (s-is i)) (rows_are i) z)

    pub label_is : (x t z : ℕ) → x ≡ put (turns_by s) rows t z → x ≡ put (turns_by (step k.numbers)) (label_rows k.numbers) t z
    label_is x t z e = e ∙ (λ i. put (turns_by (s-is i)) (rows_are i) t z)

    pub label-fits : (x t z : ℕ) → x ≡ put (turns_by s) rows t z → x < 65536
    label-fits x t z e =
        let is = label_is x t z e in
        let few = accepted.most in
        let long = accepted.long in
        let below = put-below (turns_by (step k.numbers)) (label_rows k.numbers) t z in
        let up = pow-le-pow_right {n = 2} (omega arith) {i = length (label_rows k.numbers)} {j = 16} (omega arith) in
        omega arith

  -- the difference of two differential numbers, and the word that holds it
  module _ (s : ℕ) (s-is : s ≡ step k.numbers) (y z V W : ℕ) (V-is : V ≡ differential k.numbers y) (W-is : W ≡ differential k.numbers z) where
    pub before-below : V < k.numbers.phases / s
    before-below = let is = modulus_is s s-is in let below = number_below y in omega arith

    pub after-below : W < k.numbers.phases / s
    after-below = let is = modulus_is s s-is in let below = number_below z in omega arith

    rise-is : (d : ℕ) → d ≡ (W + (k.numbers.phases / s - V)) % (k.numbers.phases / s) → d ≡ rise k.numbers y z
    rise-is d e = e ∙ (λ i. (W-is i + (modulus_is s s-is i - V-is i)) % modulus_is s s-is i)

    pub word-is : (d x : ℕ) → d ≡ (W + (k.numbers.phases / s - V)) % (k.numbers.phases / s) → x ≡ put (turns_by (step k.numbers)) (label_rows k.numbers) d z → x / 2 ≡ word_between k.numbers y z
    word-is d x e f =
        ap (λ (v : ℕ). v / 2) (f ∙ ap (λ (v : ℕ). put (turns_by (step k.numbers)) (label_rows k.numbers) v z) (rise-is d e))
