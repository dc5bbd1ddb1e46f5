-- Turnings are equal for a code exactly where its step divides their difference: a receiver answers alike, or is told
-- apart by clean readings.
use Rattle.std.proofs.Common.{eqb, [], sym, subst₂}
use Rattle.std.proofs.lemmas.Bool.{cond-true, eq-eqb}
use Rattle.reception.specs.Block.{Block, no_block, block, open_refusal}
use Rattle.reception.specs.Turnings.{block_after, ToldApart, Turnings}
use Rattle.reception.proofs.Betrayals.{told-apart}
use Rattle.reception.proofs.TurnedRuns.{alike}

pub turnings : Turnings
turnings =
    record {
      alike = alike;
      apart = λ cells t u cs n f codes c opens ne.
          let at = eq-eqb (open_refusal cells n) 0 opens in
          subst₂ (λ (b d : Block). ToldApart cells t u b d n f)
          (sym (cond-true (eqb (open_refusal cells n) 0) (block n []) (block_after cells t no_block cs) at))
          (sym (cond-true (eqb (open_refusal cells n) 0) (block n []) (block_after cells u no_block cs) at))
          (told-apart cells t u n f c opens ne);
    }
