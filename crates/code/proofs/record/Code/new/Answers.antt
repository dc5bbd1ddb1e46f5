use Rattle.std.proofs.Common.{rules}
use Rattle.code.specs.Flaw.{judged}
use Rattle.code.proofs.Judged.{accepted, found_refused}
use Rattle.code.proofs.record.Code.new.Goals as goal

pub returns-in_err-judge : goal.returns-in_err-judge
returns-in_err-judge c = let is = found_refused (judged c.args.numbers) _ c.in_err-judge.ensures in search rules

pub invariant_of-result : goal.invariant_of-result
invariant_of-result c = let none = accepted c.args.numbers c.in_ok-judge.ensures in record { limits = none.0; polynomials = none.1; parity = none.2 }
