use Rattle.std.proofs.lemmas.Result.{err_from_is_err_and}
use Rattle.book.proofs.Lines.{number_fault, line_code}
use Rattle.book.proofs.reader.Reader.code.Goals as goal

pub returns-in_err-code-clause-value : goal.returns-in_err-code-clause-value
returns-in_err-code-clause-value c =
    let p = err_from_is_err_and c.from_residual-in_err-code.result c.from_residual-in_err-code.ensures.1 in
    let judged_at = rw c.numbers.ensures.line at c.in_err-code.ensures in
    rw (p.1, p.2) (number_fault _ _ _ _ _ c.in_ok-numbers.ensures.value judged_at)

pub returns-clause-value : goal.returns-clause-value
returns-clause-value c =
    let judged_at = rw c.numbers.ensures.line at c.in_ok-code.ensures in
    line_code _ _ _ _ _ c.in_ok-numbers.ensures.value judged_at
