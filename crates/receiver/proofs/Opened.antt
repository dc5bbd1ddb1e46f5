-- A block that was just opened.
use Rattle.std.proofs.Common.{◌≡◌, ℕ, zero, suc, ◌+◌, ◌*◌, ◌^◌, ◌<◌, ◌≤◌, Bool, false, cond, eqb, ltb, List, [], get_or, ap, ◌∙◌, zero-add, zero-mul, arith}
use Rattle.reception.specs.Block.{Block, block, opens, open_refusal, after}
use Rattle.receiver.specs.Cells.{survivors, no_survivor, empty_path}
use Rattle.receiver.specs.Stands.{rows_in, RowMost, Holds}
use Rattle.survivors.specs.Best.{Survivor}
use Rattle.trellis.specs.declared.Numbers.{Numbers}

module _ (cells : ℕ) (n : Numbers) (enough : ltb cells (2 ^ n.memory * (n.memory + 2)) ≡ false) where
  pub opens_refused : open_refusal cells n ≡ 0
  opens_refused = ap (λ (b : Bool). cond b 20 0) enough

  pub opened_block : (b : Block) → after cells b (opens n) ≡ block n []
  opened_block b = ap (λ (r : ℕ). cond (eqb r 0) (block n []) b) opens_refused

module _ {K : Type 0} (says : K → Survivor) (cs : List K) (n : Numbers) (first : (E : ℕ) → E < 2 ^ n.memory → get_or (survivors says cs) E no_survivor ≡ empty_path) where
  first_row : (E : ℕ) → E < 2 ^ n.memory → rows_in says cs n 0 E ≡ empty_path
  first_row E l =
      ap (λ (i : ℕ). get_or (survivors says cs) i no_survivor) (ap (λ (k : ℕ). k + E) (zero-mul (2 ^ n.memory)) ∙ zero-add E) ∙ first E l

  none : (t : ℕ) → t < 0 → ⊥
  none t l = omega arith

  start_small : (t : ℕ) → t ≤ 0 → RowMost n (rows_in says cs n t) (t * 4194300)
  start_small zero h E l = let e = ap (λ (s : Survivor). s.worth) (first_row E l) in omega arith
  start_small (suc t) h E l = absurd (none t h)

  pub opened_holds : Holds says cs n []
  opened_holds =
      record {
        rows = record {
          begins = λ E l. (ap (λ (s : Survivor). s.worth) (first_row E l), ap (λ (s : Survivor). s.sole) (first_row E l));
          follows = λ t l. absurd (none t l);
        };
        few = omega arith;
        small = start_small;
      }
