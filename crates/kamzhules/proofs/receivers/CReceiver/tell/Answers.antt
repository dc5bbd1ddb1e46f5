use Rattle.std.proofs.Common.{ap, refl}
use Rattle.receiver.specs.declared.record.Progress.{Progress}
use Rattle.receiver.specs.Refusal.{refusal_number}
use Rattle.reception.specs.Answer.{refused, told, TellAnswers}
use Rattle.kamzhules.specs.declared.refused.Refused.TheVariants.{Receiver}
use Rattle.kamzhules.specs.Refused.{refused_number}
use Rattle.kamzhules.proofs.Standing.{answered, barred, not_barred, passed_up, stands_by}
use Rattle.kamzhules.proofs.Telling.{told_again}
use Rattle.kamzhules.proofs.receivers.CReceiver.tell.Goals as goal

pub returns-in_err-progress : goal.returns-in_err-progress
returns-in_err-progress g c = λ old.
    let r = c.args.self.now in
    let e = c.in_err-progress.field-0.0 in
    let i = c.in_err-progress.ensures in
    rw (passed_up c.from_residual.result e c.from_residual.ensures)
    (record {
      sure = λ _. i.0;
      kept = λ _. refl;
      answer = λ b s. (refused (refused_number e), barred g.K.Kept.says c.args.cells.now r b (refused_number e) TellAnswers (λ a h. h) s i.0 i.1, (refl, refl));
    })

pub returns-in_err-score : goal.returns-in_err-score
returns-in_err-score g c = λ old.
    let r = c.args.self.now in
    let p = c.in_ok-progress.progress in
    let i = c.in_ok-progress.ensures in
    let e = c.in_err-score.field-0.0 in
    rw (passed_up c.from_residual-in_err-score.result (Receiver e) c.from_residual-in_err-score.ensures)
    (record {
      sure = not_barred r p i;
      kept = λ _. refl;
      answer = λ b s. (refused (refusal_number e), c.in_err-score.ensures b (stands_by r p i g.K.Kept.says c.args.cells.now b s), (refl, refl));
    })

pub returns : goal.returns
returns g c = λ old.
    let r = c.args.self.now in
    let p = c.in_ok-progress.progress in
    let i = c.in_ok-progress.ensures in
    let cells = c.args.cells.now in
    simp (c.worth.ensures, c.from.ensures)
    (record {
      sure = not_barred r p i;
      kept = answered;
      answer = λ b s.
          let by = stands_by r p i g.K.Kept.says cells b s in (
            told r.count (g.K.Score.Score.worth c.in_ok-score.score) c.in_ok-score.sole,
            told_again g.K.Kept.says cells p r.count b _ _ _ (ap (λ (x : Progress). x.count) i.3) by (c.in_ok-score.ensures b by),
            (refl, refl),
          );
    })
