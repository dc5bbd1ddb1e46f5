use Rattle.std.proofs.Common.{length, refl}
use Rattle.kamzhules.specs.Refused.{refused_number}
use Rattle.reception.specs.Answer.{refused, DeliverAnswers}
use Rattle.kamzhules.proofs.Standing.{barred, passed_up}
use Rattle.kamzhules.proofs.receivers.CReceiver.deliver.Goals as goal

pub returns-in_err-progress : goal.returns-in_err-progress
returns-in_err-progress g c = λ old.
    let e = c.in_err-progress.field-0.0 in
    let i = c.in_err-progress.ensures in
    let due = DeliverAnswers (length c.args.buffer.now) in
    rw (passed_up c.from_residual.result e c.from_residual.ensures)
    (record {
      sure = λ _. i.0;
      kept = λ _. (refl, refl);
      answer = λ b s. (refused (refused_number e), barred g.K.Kept.says c.args.cells.now c.args.self.now b (refused_number e) due (λ a h. h) s i.0 i.1, (refl, refl, refl));
    })
