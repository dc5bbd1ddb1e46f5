use Rattle.std.proofs.Common.{◌≡◌, ◌+◌, ◌*◌, ◌^◌, map, length, take, drop, ◌∙◌, arith, length-take-le}
use Rattle.receiver.specs.Cells.{survivor, survivors, row_in}
use Rattle.reception.specs.Worth.{scores_of}
use Rattle.receiver.proofs.Following.{row-follows, row-most}
use Rattle.receiver.proofs.Written.{row_written, row_room}
use Rattle.receiver.proofs.extend.extend.Goals as goal

pub returns : goal.returns
returns g c =
    let r = c.args.reading.now in
    let n = r.code.numbers in
    let worth = g.K.Score.Score.worth in
    let says = g.K.Kept.says in
    let count = c.args.count in
    let states = c.states_of-states.result in
    let are = c.states_of-states.ensures.value in
    let last = c.split_at_mut-last in
    let before = c.split_at_mut-before in
    let s = scores_of (g.F.Front.meaning r.front.now) n.phases r.words.now in
    let bs = survivors (survivor worth) c.best_labels-best.result in
    let row = row_in (survivors says before.result.0.now) in
    let next = row_in (survivors says c.next_row.new.row) in
    let room = row_room count states (2 ^ n.memory) (length c.args.cells.now) are c.requires.room in
    let behind = last.ensures.back_len in
    let free = before.ensures.back_len in
    let part : length (take states before.result.1.now) ≡ states = length-take-le states before.result.1.now (omega arith) in
    let table = c.of-table.result in
    let w = row_written says n count states are c.args.cells.now last.result.0.now last.result.1.now before.result.0.now before.result.1.now c.next_row.new.row (drop states before.result.1.now)
    last.ensures.value before.ensures.value last.ensures.front_len before.ensures.front_len (c.next_row.auto.row ∙ part) s (count * 4194300) ((count + 1) * 4194300)
    (λ bound. (
      row-follows r.code s (map worth table.scores) table.small c.of-table.ensures bs row next count c.requires.count c.best_labels-best.ensures bound c.next_row.ensures,
      row-most r.code s (map worth table.scores) table.small c.of-table.ensures bs row next count c.requires.count c.best_labels-best.ensures bound c.next_row.ensures,
    )) in
    record { kept = w.kept; row = w.follows; bound = w.small }
