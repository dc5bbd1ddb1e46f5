use Rattle.std.proofs.Common.{◌≡◌, ◌^◌, ◌<◌, ap, ◌∙◌, arith}
use Rattle.code.specs.declared.record.Code.{Code}
use Rattle.trellis.specs.Label.{put, turns_by}
use Rattle.trellis.specs.Numbers.{word_bits, polynomials}
use Rattle.trellis.specs.Precoder.{placed, risen, with_parity}
use Rattle.trellis.specs.Rows.{label_rows}
use Rattle.trellis.specs.Step.{step}
use Rattle.sender.specs.Sender.{standing}
use Rattle.sender.proofs.Fits.{label_is}
use Rattle.sender.proofs.Sent.{answer-is, after_is}
use Rattle.sender.proofs.states.Sending.send.Goals as goal

pub returns : goal.returns
returns c =
    let b = standing c.args.self.now in
    let w = c.args.word.0 in
    let z = c.with_parity-label.result.0 in
    let V = c.precoded-risen.result.0 in
    let room : b.sent < 255 = omega arith in
    let few = c.words.ensures.value in
    let fits : w < 2 ^ word_bits b.numbers = omega (arith, c.if-word-words.false) in
    let v-is : V ≡ risen b.numbers b.V w = c.precoded-risen.ensures.risen ∙ ap (λ (k : Code). risen k.numbers b.V w) c.new.ensures in
    let z-is = label_is b.numbers b.S c.precoded-risen.result.1 c.half_syndrome-sum.result z c.precoded-risen.ensures.even c.half_syndrome-sum.ensures c.with_parity-label.ensures
    ∙ ap (with_parity (polynomials b.numbers) b.S) (c.precoded-risen.ensures.label ∙ ap (λ (k : Code). put (turns_by (step k.numbers)) (label_rows k.numbers) V (placed w)) c.new.ensures) in
    record {
      answer = answer-is b w z c.next_state.result.0 V c.symbol.result room fits v-is z-is c.symbol.ensures.value;
      after = after_is b w z c.next_state.result.0 V c.symbol.result room fits v-is z-is c.next_state.ensures;
    }
