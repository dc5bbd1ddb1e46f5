use Rattle.std.proofs.Common.{◌≡◌, map}
use Rattle.receiver.specs.Scored.{places_sum}
use Rattle.trellis.specs.Mapper.{symbol_of}
use Rattle.receiver.proofs.table.Table.score.Given as goal

abbrev pub invariant-loop-place : goal.invariant-loop-place
invariant-loop-place g l = g.S.Score.worth l.sum ≡ places_sum (map g.S.Score.worth l.self.scores) (symbol_of l.fn.code.numbers l.label) l.place
