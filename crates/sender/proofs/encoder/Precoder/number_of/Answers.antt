use Rattle.sender.proofs.Fits.{number_is, number_small}
use Rattle.sender.proofs.encoder.Precoder.number_of.Goals as goal

pub returns : goal.returns
returns c =
    record {
      value = number_is c.args.self.code c.args.self.exponent c.args.self.exponent_is c.turning_number.result _ c.turning_number.ensures;
      small = number_small c.args.self.code c.args.self.exponent c.args.self.exponent_is c.turning_number.result _ c.turning_number.ensures;
    }
