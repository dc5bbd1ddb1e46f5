use Rattle.std.proofs.Common.{◌≡◌, ◌-◌, ◌^◌, ◌<◌, ◌≤◌, drop}
use Rattle.receiver.specs.Cells.{survivors, row_of}
use Rattle.receiver.proofs.Wayback.{Left}
use Rattle.receiver.proofs.trace.deliver_words.Given as goal

abbrev pub invariant-loop-t : goal.invariant-loop-t
invariant-loop-t g l =
    let row = row_of (survivors g.K.Kept.says l.cells) (2 ^ l.code.numbers.memory) in
    (1 ≤ l.t)
    × (l.state < 2 ^ l.code.numbers.memory)
    × (l.label.0 ≡ (row l.t l.state).label)
    × Left l.code.numbers row l.count l.end l.initial.words l.t l.state l.words
    × (drop (l.count - 1) l.words ≡ drop (l.count - 1) l.initial.words)
