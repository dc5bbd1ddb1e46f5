use Rattle.std.proofs.Common.{arith}
use Rattle.listing.proofs.Digits.{then, restated, one_digit, two_digits, three_digits}
use Rattle.listing.proofs.lines.Lines.decimal.Goals as goal

pub returns-in-0-to-9 : goal.returns-in-0-to-9
returns-in-0-to-9 c = restated c.digit.ensures (one_digit c.args.n (omega arith)) (omega arith)

pub returns-in-10-to-99 : goal.returns-in-10-to-99
returns-in-10-to-99 c = restated (then c.digit-in-10-to-99.ensures c.digit-in-10-to-99-2.ensures) (two_digits c.args.n (omega arith) (omega arith)) (omega arith)

pub returns-in_default : goal.returns-in_default
returns-in_default c = restated (then c.digit-in_default.ensures (then c.digit-in_default-2.ensures c.digit-in_default-3.ensures)) (three_digits c.args.n (omega arith) (omega arith)) (omega arith)
