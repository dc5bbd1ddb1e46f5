use Rattle.std.proofs.Common.{cond, eqb, length, sym, refl, ap, ◌∙◌, arith}
use Rattle.receiver.specs.Refusal.{refusal_number}
use Rattle.reception.specs.Block.{no_block, capacity}
use Rattle.kamzhules.proofs.Opening.{at_zero, open_refusal-zero, held_is, held_small, not_refused, begun}
use Rattle.kamzhules.proofs.receivers.CReceiver.open.Goals as goal

pub returns-in_err-held : goal.returns-in_err-held
returns-in_err-held g c =
    not_refused (length c.args.cells.now) c.in_ok-accepted.accepted.numbers c.if-too_few.ensures
    (refusal_number c.in_err-held.field-0.0) (c.in_err-held.ensures.answer no_block refl)

pub overflow_cast-result : goal.overflow_cast-result
overflow_cast-result g c =
    let small = held_small (length c.args.cells.now) c.in_ok-accepted.accepted.numbers c.if-too_few.ensures c.in_ok-held.held (c.in_ok-held.ensures.answer no_block refl) in
    omega (arith, small)

pub returns-clause-symbols : goal.returns-clause-symbols
returns-clause-symbols g c = λ old.
    let n = c.in_ok-accepted.accepted.numbers in
    let cells = length c.args.cells.now in
    let enough = c.if-too_few.ensures in
    rw (sym c.in_ok-accepted.ensures) (
    held_is cells n enough c.in_ok-held.held (c.in_ok-held.ensures.answer no_block refl)
    ∙ sym (ap (λ R. cond (eqb R 0) (capacity cells n) old) (open_refusal-zero cells n enough))
    )

pub returns-clause-cells : goal.returns-clause-cells
returns-clause-cells g c =
    let n = c.in_ok-accepted.accepted.numbers in
    let cells = length c.args.cells.now in
    let enough = c.if-too_few.ensures in
    rw (sym c.in_ok-accepted.ensures) (
    at_zero _ _ _ (open_refusal-zero cells n enough)
    (refl, sym c.in_ok-accepted.ensures, refl, begun cells n enough g.K.Kept.says c.open.new.cells c.open.new.progress (c.in_ok-held.ensures.stands no_block refl))
    )
