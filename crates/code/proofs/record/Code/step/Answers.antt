use Rattle.std.proofs.Common.{◌≡◌, ℕ, ◌*◌, ◌%◌, ◌^◌, ap, ◌∙◌, arith}
use Rattle.std.proofs.lemmas.Nat.{one_shl}
use Rattle.reception.proofs.TurningsHold.{turnings}
use Rattle.trellis.proofs.BurstLaws.{sends}
use Rattle.trellis.proofs.StepLaws.{transparency}
use Rattle.trellis.proofs.Turned.{accept}
use Rattle.trellis.specs.Step.{step}
use Rattle.code.proofs.record.Code.step.Goals as goal

pub returns-clause-transparency : goal.returns-clause-transparency
returns-clause-transparency c =
    let k = c.args.self in transparency k.numbers (accept k.numbers k.limits k.polynomials k.parity)

pub returns-clause-turnings : goal.returns-clause-turnings
returns-clause-turnings c = turnings

pub returns-clause-most : goal.returns-clause-most
returns-clause-most c =
    let k = c.args.self in
    let few = c.exponent.ensures.high in
    let is : (1 * 2 ^ c.exponent.result) % 256 ≡ step k.numbers = one_shl c.exponent.result 8 (omega arith) ∙ ap (λ (e : ℕ). 2 ^ e) c.exponent.ensures.value in
    let most = (sends k.numbers k.limits k.polynomials k.parity).within_phases in
    omega arith
