-- An open of C, whose cells are judged before.
use Rattle.std.proofs.Common.{◌≡◌, ℕ, ◌+◌, ◌*◌, ◌^◌, ◌≤◌, false, cond, eqb, ltb, List, [], sym, ap, ◌∙◌, subst, arith}
use Rattle.receiver.proofs.Opened.{opens_refused, opened_block}
use Rattle.receiver.specs.declared.record.Progress.{Progress}
use Rattle.receiver.specs.Stands.{StandsBy, Holds}
use Rattle.reception.specs.Answer.{opened, refused, unless_refused}
use Rattle.reception.specs.Block.{no_block, opens, capacity, open_refusal, after}
use Rattle.survivors.specs.Best.{Survivor}
use Rattle.trellis.specs.declared.Numbers.{Numbers}

-- The one side of a choice.
pub at_zero : (R : ℕ) (A B : Type 0) → R ≡ 0 → A → cond (eqb R 0) A B
at_zero R A B e x = let T : ℕ → Type 0 = λ (k : ℕ). cond (eqb k 0) A B in subst T (sym e) x

module _ (cells : ℕ) (n : Numbers) (enough : false ≡ ltb cells (2 ^ n.memory * (n.memory + 2))) where
  pub open_refusal-zero : open_refusal cells n ≡ 0
  open_refusal-zero = opens_refused cells n (sym enough)

  open_zero : unless_refused (open_refusal cells n) (opened (capacity cells n)) ≡ opened (capacity cells n)
  open_zero = ap (λ (r : ℕ). unless_refused r (opened (capacity cells n))) open_refusal-zero

  pub held_is : (k : ℕ) → opened k ≡ unless_refused (open_refusal cells n) (opened (capacity cells n)) → k ≡ capacity cells n
  held_is k e = let p : opened k ≡ opened (capacity cells n) = e ∙ open_zero in cc

  pub held_small : (k : ℕ) → opened k ≡ unless_refused (open_refusal cells n) (opened (capacity cells n)) → k ≤ 256
  held_small k e = omega (arith, held_is k e)

  pub not_refused : {P : Type 0} (k : ℕ) → refused k ≡ unless_refused (open_refusal cells n) (opened (capacity cells n)) → P
  not_refused k e = let p : refused k ≡ opened (capacity cells n) = e ∙ open_zero in let o : ◌≡◌ {A = ℕ} 0 1 = cc in absurd (omega arith)

  pub begun : {K : Type 0} (says : K → Survivor) (cs : List K) (p : Progress) → StandsBy says cs p (after cells no_block (opens n)) → Holds says cs n []
  begun says cs p s = (rw (opened_block cells n (sym enough) no_block) at s).2
