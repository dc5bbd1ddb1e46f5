use Rattle.receiver.proofs.Places.{part_is}
use Rattle.receiver.proofs.reading.Reading.place.Goals as goal

pub returns : goal.returns
returns g c =
    let r = c.args.self.now in
    part_is ((g.F.Front.meaning r.front.now).width r.code.numbers.phases) r.width c.from.result c.args.place r.words.now r.wide c.from.ensures
