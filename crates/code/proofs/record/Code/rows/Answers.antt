use Rattle.std.proofs.Common.{drop, length, ap, ◌∙◌, arith}
use Rattle.std.proofs.lemmas.List.{take_rest}
use Rattle.trellis.proofs.BurstLaws.{sends}
use Rattle.code.proofs.record.Code.rows.Goals as goal

pub returns-clause-bits : goal.returns-clause-bits
returns-clause-bits c =
    let k = c.args.self in
    ap length (take_rest c.signal_rows-all.result.now k.numbers.offset ∙ ap (drop k.numbers.offset) c.signal_rows-all.ensures.value)
    ∙ (sends k.numbers k.limits k.polynomials k.parity).long

pub returns-clause-least : goal.returns-clause-least
returns-clause-least c =
    let k = c.args.self in
    let long = returns-clause-bits c in
    let least = (sends k.numbers k.limits k.polynomials k.parity).least in
    omega arith
