use Rattle.std.proofs.Common.{refl}
use Rattle.kamzhules.specs.declared.refused.Refused.TheVariants.{Receiver}
use Rattle.kamzhules.proofs.Standing.{not_barred, passed_up, take_done, take_left, refusal_some}
use Rattle.kamzhules.proofs.receivers.CReceiver.take_by.Goals as goal

pub returns-in_err-take : goal.returns-in_err-take
returns-in_err-take g c =
    let r = c.args.self.now in
    let p = c.in_ok-progress.progress in
    let i = c.in_ok-progress.ensures in
    let e = c.in_err-take.field-0.0 in
    let left = c.in_err-take.ensures in
    let all = take_left g.K.Kept.says (g.F.Front.meaning c.args.front.now) c.args.reading.now c.args.cells.now c.take.new.cells r p c.take.new.progress e i left.answer left.stands in
    rw (passed_up c.from_residual-in_err-take.result (Receiver e) c.from_residual-in_err-take.ensures)
    (record {
      sure = not_barred r p i;
      kept = not_barred r p i;
      answer = λ b s. (all b s).0;
      stands = λ b s. (all b s).1;
      struct = simp (refusal_some e);
    })

pub returns : goal.returns
returns g c =
    let r = c.args.self.now in
    let p = c.in_ok-progress.progress in
    let i = c.in_ok-progress.ensures in
    let taken = c.in_ok-take.ensures in
    let all = take_done g.K.Kept.says (g.F.Front.meaning c.args.front.now) c.args.reading.now c.args.cells.now c.take.new.cells r p c.take.new.progress i taken.answer taken.stands in
    simp c.saturating_add-self.ensures
    (record {
      sure = not_barred r p i;
      kept = not_barred r p i;
      answer = λ b s. (all b s).0;
      stands = λ b s. (all b s).1;
      struct = refl;
    })
