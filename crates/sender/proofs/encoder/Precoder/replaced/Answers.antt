use Rattle.sender.proofs.Fits.{replaced_is}
use Rattle.sender.proofs.encoder.Precoder.replaced.Goals as goal

pub returns : goal.returns
returns c =
    replaced_is c.args.self.code c.args.self.exponent c.args.self.exponent_is c.args.self.few c.args.number c.args.risen c.args.label.0 c.requires.number c.requires.small c.requires.risen c.requires.label
    c.turning_label.result.0 c.turning_label.ensures
