use Rattle.std.proofs.Common.{◌≡◌, ℕ, ◌≤◌, List, ◌++◌, length, take, drop, refl, ap, ◌∙◌, arith}
use Rattle.std.proofs.lemmas.List.{length-take-le, take-map}
use Rattle.code.specs.declared.units.Word.{Word}
use Rattle.kamzhules.specs.declared.refused.Refused.TheVariants.{Receiver}
use Rattle.receiver.specs.Delivery.{numbers_in}
use Rattle.receiver.specs.Refusal.{refusal_number}
use Rattle.reception.specs.Answer.{delivered, refused}
use Rattle.kamzhules.proofs.Delivering.{any_room, delivered_fits}
use Rattle.kamzhules.proofs.Standing.{answered, not_barred, passed_up, stands_by}
use Rattle.kamzhules.proofs.receivers.CReceiver.deliver_through.Goals as goal

copied : (ws : List Word) (buffer : List ℕ) (k : ℕ) → k ≤ length ws → numbers_in (take k ws) ++ drop (length (take k ws)) buffer ≡ take k (numbers_in ws) ++ drop k buffer
copied ws buffer k h = simp (length-take-le k ws h, take-map (λ (x : Word). x.0) k ws) refl

pub returns-in_err-count : goal.returns-in_err-count
returns-in_err-count g c = λ old.
    let r = c.args.self.now in
    let p = c.args.progress in
    let i = c.requires.progress in
    let e = c.in_err-count.field-0.0 in
    let cells = c.args.cells.now in
    rw (passed_up c.from_residual.result (Receiver e) c.from_residual.ensures)
    (record {
      sure = not_barred r p i;
      kept = λ _. (refl, refl);
      answer = λ b s.
          let by = stands_by r p i g.K.Kept.says cells b s in (
            refused (refusal_number e),
            any_room g.K.Kept.says cells p b (length c.args.words.now) (length c.args.buffer.now) _ c.requires.words by (c.in_err-count.ensures.answer b by),
            (refl, refl, refl),
          );
    })

pub returns : goal.returns
returns g c = λ old.
    let r = c.args.self.now in
    let p = c.args.progress in
    let i = c.requires.progress in
    let cells = c.args.cells.now in
    let count = c.in_ok-count.count in
    let words = c.deliver.new.words in
    let buffer = c.args.buffer.now in
    record {
      sure = not_barred r p i;
      kept = answered;
      answer = λ b s.
          let by = stands_by r p i g.K.Kept.says cells b s in
          let given = c.in_ok-count.ensures.answer b by in
          let room : count ≤ length c.args.words.now = delivered_fits b (length c.args.words.now) count c.in_ok-count.sole (take count (numbers_in words)) given in
          let fits : count ≤ length words = omega (arith, room, c.deliver.auto.words) in
          let all : c.min-written.result ≡ count = omega (arith, c.min-written.ensures, fits) in (
            delivered count c.in_ok-count.sole (take count (numbers_in words)),
            any_room g.K.Kept.says cells p b (length c.args.words.now) (length buffer) _ c.requires.words by given,
            (
              refl,
              simp (all, c.from.ensures) refl,
              c.copy_words.ensures ∙ ap (λ k. numbers_in (take k words) ++ drop (length (take k words)) buffer) all ∙ copied words buffer count fits,
            ),
          );
    }
