use Rattle.std.proofs.Common.{rules}
use Rattle.code.specs.declared.flaw.Flaw.TheVariants.{Limit, Polynomial}
use Rattle.code.proofs.Judged.{passed_none, by_polynomials, by_parity}
use Rattle.code.proofs.make.judge.Goals as goal

pub returns-in_err-judge_polynomials : goal.returns-in_err-judge_polynomials
returns-in_err-judge_polynomials c =
    let limits = passed_none Limit _ c.in_ok-judge_limits.ensures.value in
    let is = by_polynomials c.args.numbers limits _ c.in_err-judge_polynomials.ensures in search rules

pub returns-then-parity_turns : goal.returns-then-parity_turns
returns-then-parity_turns c =
    let limits = passed_none Limit _ c.in_ok-judge_limits.ensures.value in
    let polynomials = passed_none Polynomial _ c.in_ok-judge_polynomials.ensures in
    by_parity c.args.numbers limits polynomials _ c.if-parity_turns.ensures

pub returns : goal.returns
returns c =
    let limits = passed_none Limit _ c.in_ok-judge_limits.ensures.value in
    let polynomials = passed_none Polynomial _ c.in_ok-judge_polynomials.ensures in
    by_parity c.args.numbers limits polynomials _ c.if-parity_turns.ensures
