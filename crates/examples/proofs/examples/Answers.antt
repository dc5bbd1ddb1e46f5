use Rattle.std.proofs.Common.{refl, inl}
use lib.Count.{ones, ones_in}
use Rattle.examples.proofs.Received.{none-betrayed, told-turned, delivered-turned}
use Rattle.examples.proofs.examples.Goals as goal

pub returns-clause-hold : goal.returns-clause-hold
unfolding ones ones_in
returns-clause-hold c =
    record {
      one_place = record { accepted = refl; is = refl };
      odd_top = record { accepted = refl; is = refl };
      even_top = record { accepted = refl; is = refl };
      four_places = record { accepted = refl; is = refl };
      two_places = record { accepted = refl; is = refl };
      parity = refl;
      parity_number = refl;
      one_place_burst = refl;
      four_place_burst = refl;
      goes = refl;
      too_wide = refl;
      too_wide_number = refl;
      takes_turned = (refl, (refl, (refl, (refl, (refl, tt)))));
      holds_turned = refl;
      tells_turned = told-turned;
      delivers_turned = inl delivered-turned;
      takes_betrayed = (refl, (refl, (refl, (refl, (refl, tt)))));
      holds_betrayed = refl;
      least_betrayed = none-betrayed;
      no_strike = refl;
      one_strike = refl;
      enough_cells = refl;
      too_few_cells = refl;
    }
