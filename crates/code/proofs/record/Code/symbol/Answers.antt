use Rattle.std.proofs.Common.{ℕ, ◌+◌, ◌*◌, [], ◌∷◌, sym, ap, ◌∙◌, arith}
use lib.Bits.{bit_and}
use Rattle.trellis.proofs.Distinct.{distinct}
use Rattle.trellis.proofs.MapperLaws.{turns}
use Rattle.trellis.proofs.Positions.{one_symbol}
use Rattle.trellis.proofs.Sets.{within}
use Rattle.code.proofs.Packed.{phases-are, sum_fits}
use Rattle.code.proofs.record.Code.symbol.Goals as goal

pub returns-then-self-eq1 : goal.returns-then-self-eq1
returns-then-self-eq1 c =
    let n = c.args.self.numbers in
    let w = within n c.args.self.limits in
    record {
      value = c.alone.ensures ∙ ap (λ (x : ℕ). x ∷ 0 ∷ 0 ∷ 0 ∷ []) c.modulo.ensures ∙ sym (one_symbol n w c.if-self-eq1.true c.args.label.0);
      distinct = distinct n w;
      turns = turns n w;
    }

pub overflow_add-all : goal.overflow_add-all
overflow_add-all c =
    let n = c.args.self.numbers in
    let fits = sum_fits n (within n c.args.self.limits) _ c.rows.ensures.value c.args.label.0 _ _ c.joined-turn.ensures.turn c.joined-turn.ensures.patterns (omega arith) in record { fits = omega arith }

pub overflow_mul-all : goal.overflow_mul-all
overflow_mul-all c =
    let n = c.args.self.numbers in
    let fits = sum_fits n (within n c.args.self.limits) _ c.rows.ensures.value c.args.label.0 _ _ c.joined-turn.ensures.turn c.joined-turn.ensures.patterns (omega arith) in record { fits = omega arith }

pub returns : goal.returns
returns c =
    let n = c.args.self.numbers in
    let w = within n c.args.self.limits in
    let t = c.joined-turn.result.0 in
    let p = c.joined-turn.result.1 in
    let is = phases-are n w _ c.rows.ensures.value c.args.label.0 t p c.joined-turn.ensures.turn c.joined-turn.ensures.patterns (omega arith)
    (bit_and (t * 16843009 + p) c.used_bits.result) (ap (bit_and (t * 16843009 + p)) c.used_bits.ensures) in
    record { value = c.to_le_bytes.ensures ∙ is; distinct = distinct n w; turns = turns n w }
