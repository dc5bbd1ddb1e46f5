use Rattle.sender.proofs.Fits.{placed_fits, even-placed}
use Rattle.sender.proofs.encoder.Precoder.precoded.Goals as goal

pub returns-clause-even : goal.returns-clause-even
returns-clause-even c = even-placed c.args.self.code c.risen-risen.result c.args.word.0 c.replaced.result c.replaced.ensures

pub replaced-requires-clause-label : goal.replaced-requires-clause-label
replaced-requires-clause-label c = placed_fits c.args.self.code c.args.word.0 c.requires.word
