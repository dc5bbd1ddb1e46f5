use Rattle.std.proofs.Common.{sym, arith}
use Rattle.script.proofs.Scan.{empty_here, empty_more, empty_all}
use Rattle.script.proofs.lines.book_size.Goals as goal

pub returns-then-is_empty_line : goal.returns-then-is_empty_line
returns-then-is_empty_line c =
    record { value = empty_here c.args.text.now c.loop-at.at c.loop-at-test.true c.loop-at.begins c.loop-at.invariant (sym c.if-is_empty_line.ensures); within = omega arith }

pub loop-at-preserved : goal.loop-at-preserved
loop-at-preserved c = empty_more c.args.text.now c.loop-at.at c.loop-at-test.true c.loop-at.begins c.loop-at.invariant (sym c.if-is_empty_line.ensures)

pub returns : goal.returns
returns c =
    record { value = empty_all c.args.text.now c.loop-at.at c.loop-at.begins (omega arith) (omega arith) c.loop-at.invariant; within = omega arith }
