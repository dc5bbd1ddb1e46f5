-- A word that is not refused: the answer, and where the burst stands after it.
use Rattle.std.proofs.Common.{◌≡◌, ℕ, ◌+◌, ◌^◌, ◌<◌, leb, List, None, Ok, Option, Result, sym, ap, ◌∙◌}
use Rattle.std.proofs.lemmas.Bool.{cond-false, lt-leb}
use Rattle.sender.specs.declared.refusal.SendRefusal.{SendRefusal}
use Rattle.sender.specs.Sender.{Standing, refusal_of, next_label, answer_by, answer, after_by, after}
use Rattle.trellis.specs.Label.{put, turns_by}
use Rattle.trellis.specs.Mapper.{symbol_of}
use Rattle.trellis.specs.Numbers.{word_bits, polynomials}
use Rattle.trellis.specs.Parity.{next_state}
use Rattle.trellis.specs.Precoder.{placed, risen, with_parity}
use Rattle.trellis.specs.Rows.{label_rows}
use Rattle.trellis.specs.Step.{step}

abbrev none : Option SendRefusal
none = None

abbrev sent_symbol : List ℕ → Result (List ℕ) SendRefusal
sent_symbol r = Ok r

module _ (b : Standing) (w z S V : ℕ) (r : List ℕ) (room : b.sent < 255) (fits : w < 2 ^ word_bits b.numbers) where
  accepted : refusal_of b w ≡ none
  accepted = cond-false (leb 255 b.sent) _ _ (lt-leb _ _ room) ∙ cond-false (leb (2 ^ word_bits b.numbers) w) _ _ (lt-leb _ _ fits)

  module _ (v-is : V ≡ risen b.numbers b.V w) (z-is : z ≡ with_parity (polynomials b.numbers) b.S (put (turns_by (step b.numbers)) (label_rows b.numbers) V (placed w))) where
    label_is : z ≡ next_label b w
    label_is = z-is ∙ ap (λ (v : ℕ). with_parity (polynomials b.numbers) b.S (put (turns_by (step b.numbers)) (label_rows b.numbers) v (placed w))) v-is

    pub answer-is : r ≡ symbol_of b.numbers z → sent_symbol r ≡ answer b w
    answer-is e = ap sent_symbol (e ∙ ap (symbol_of b.numbers) label_is) ∙ sym (ap (λ (o : Option SendRefusal). answer_by o b w) accepted)

    pub after_is : S ≡ next_state (polynomials b.numbers) b.S z → record { numbers = b.numbers; S = S; V = V; sent = b.sent + 1 } ≡ after b w
    after_is e =
        (λ i. record { numbers = b.numbers; S = (e ∙ ap (next_state (polynomials b.numbers) b.S) label_is) i; V = v-is i; sent = b.sent + 1 })
        ∙ sym (ap (λ (o : Option SendRefusal). after_by o b w) accepted)
