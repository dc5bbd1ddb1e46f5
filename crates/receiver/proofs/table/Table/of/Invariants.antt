use Rattle.std.proofs.Common.{map}
use Rattle.receiver.specs.Scored.{Holds, Small}
use Rattle.reception.specs.Worth.{scores_of}
use Rattle.receiver.proofs.table.Table.of.Given as goal

abbrev pub invariant-loop-place : goal.invariant-loop-place
invariant-loop-place g l =
    let n = l.reading.code.numbers in
    Holds (map g.S.Score.worth l.all) n.phases (scores_of (g.F.Front.meaning l.reading.front.now) n.phases l.reading.words.now) l.place
    × Small (map g.S.Score.worth l.all)
