-- The steps of the judgment, and what numbers keep that are judged to be a code.
use Rattle.std.proofs.Common.{◌≡◌, ℕ, Bool, true, false, cond, eqb, Ok, Err, Result, sym, ap, ◌∙◌, refl}
use Rattle.std.specs.Result.{result_err}
use Rattle.std.proofs.lemmas.Bool.{cond-true, eq-eqb, eqb-true}
use Rattle.code.specs.declared.flaw.Flaw.{Flaw}
use Rattle.code.specs.declared.flaw.Flaw.TheVariants.{Limit, Polynomial, Parity}
use Rattle.code.specs.Flaw.{judged, found, flaw_in, passed}
use Rattle.trellis.specs.declared.Numbers.{Numbers}
use Rattle.trellis.specs.Limits.{limit_fault, polynomial_fault, parity_turns}
use Rattle.trellis.specs.Sums.{parity_by_sum}
use Rattle.trellis.proofs.Sets.{within}
use Rattle.trellis.proofs.Turns.{parity_sum}

abbrev pub step-taken : Result Unit Flaw
step-taken = Ok tt

abbrev pub step-refused : Flaw → Result Unit Flaw
step-refused f = Err f

abbrev pub taken : Numbers → Result Numbers Flaw
taken n = Ok n

abbrev pub refused : Flaw → Result Numbers Flaw
refused f = Err f

none_by : (b : Bool) (g : Flaw) → step-taken ≡ cond b step-taken (step-refused g) → b ≡ true
none_by true g e = cc
none_by false g e = cc

-- a step that is passed, and one that is not
pub passed_none : (flaw : ℕ → Flaw) (k : ℕ) → step-taken ≡ passed flaw k → k ≡ 0
passed_none flaw k e = eqb-true k 0 (none_by (eqb k 0) (flaw k) e)

passed_some : (b : Bool) (g f : Flaw) (rest : Result Numbers Flaw) → step-refused f ≡ cond b step-taken (step-refused g) → step-refused f ≡ found (cond b rest (refused g))
passed_some true g f rest e = cc
passed_some false g f rest e = e

-- the three steps of a judgment that finds nothing
passed_all : (a b t : Bool) (f g : Flaw) (n : Numbers) → step-taken ≡ found (cond a (cond b (cond t (refused Parity) (taken n)) (refused g)) (refused f)) → (a ≡ true) × (b ≡ true) × (t ≡ false)
passed_all true true false f g n e = (refl, refl, refl)
passed_all true true true f g n e = cc
passed_all true false t f g n e = cc
passed_all false b t f g n e = cc

module _ (n : Numbers) where
  pub accepted : step-taken ≡ found (judged n) → (limit_fault n ≡ 0) × (polynomial_fault n ≡ 0) × (parity_turns n ≡ false)
  accepted e =
      let all = passed_all (eqb (limit_fault n) 0) (eqb (polynomial_fault n) 0) (parity_turns n) (Limit (limit_fault n)) (Polynomial (polynomial_fault n)) n e in
      (eqb-true _ _ all.0, eqb-true _ _ all.1, all.2)

  module _ (limits : limit_fault n ≡ 0) where
    pub by_polynomials : (f : Flaw) → step-refused f ≡ passed Polynomial (polynomial_fault n) → step-refused f ≡ found (judged n)
    by_polynomials f e =
        passed_some (eqb (polynomial_fault n) 0) (Polynomial (polynomial_fault n)) f (cond (parity_turns n) (refused Parity) (taken n)) e
        ∙ sym (ap found (cond-true (eqb (limit_fault n) 0) _ _ (eq-eqb _ _ limits)))

    pub by_parity : polynomial_fault n ≡ 0 → (t : Bool) → t ≡ parity_by_sum n → found (cond t (refused Parity) (taken n)) ≡ found (judged n)
    by_parity polynomials t t-is =
        ap (λ (b : Bool). found (cond b (refused Parity) (taken n))) (t-is ∙ sym (parity_sum n (within n limits)))
        ∙ sym (ap found (cond-true (eqb (limit_fault n) 0) _ _ (eq-eqb _ _ limits) ∙ cond-true (eqb (polynomial_fault n) 0) _ _ (eq-eqb _ _ polynomials)))

pub found-err : (r : Result Numbers Flaw) → result_err (found r) ≡ flaw_in r
found-err (Ok n) = refl
found-err (Err f) = refl

pub found_refused : (r : Result Numbers Flaw) (f : Flaw) → step-refused f ≡ found r → refused f ≡ r
found_refused (Ok n) f e = cc
found_refused (Err g) f e = cc
