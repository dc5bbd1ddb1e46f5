-- Of 8 phases phase 7 was read: phase 0 is one away, and phase 1 two, a strike.
use Rattle.std.proofs.Common.{◌≡◌, [], ◌∷◌, refl}
use Rattle.fronts.specs.StrikeLaws.{strike_meaning}

pub seven_of_eight : (strike_meaning.worth 8 (7 ∷ []) 0 ≡ 1) × (strike_meaning.worth 8 (7 ∷ []) 1 ≡ 65538)
seven_of_eight = (refl, refl)
