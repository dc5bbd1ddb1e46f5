use Rattle.std.proofs.Common.{◌≡◌, ℕ, ◌+◌, ◌*◌, ◌^◌, ◌<◌, false, ltb, length, get_or, sym, refl, ◌∙◌, arith}
use Rattle.receiver.specs.Cells.{survivors, no_survivor, empty_path}
use Rattle.receiver.proofs.Opened.{opened_block, opened_holds}
use Rattle.receiver.proofs.calls.open.Goals as goal

pub returns-clause-stands : goal.returns-clause-stands
returns-clause-stands g c b s =
    let n = c.args.code.numbers in
    let cells = length c.args.cells.now in
    let enough : ltb cells (2 ^ n.memory * (n.memory + 2)) ≡ false = sym c.too_few.ensures ∙ c.if-too_few.false in
    let first : (E : ℕ) → E < 2 ^ n.memory → get_or (survivors g.K.Kept.says c.begin_row.new.cells) E no_survivor ≡ empty_path =
    λ E l. c.begin_row.ensures E (omega (arith, c.states_of.ensures.value)) in
    rw (opened_block cells n enough b) ((c.args.code, refl, refl), refl, opened_holds g.K.Kept.says c.begin_row.new.cells n first)
