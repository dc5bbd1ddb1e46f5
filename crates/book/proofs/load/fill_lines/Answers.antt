use Rattle.std.proofs.Common.{◌≡◌, suc, ◌-◌, length, sym, ◌∙◌, add-one, arith}
use Rattle.std.proofs.lemmas.Result.{err_from_is_err_and}
use Rattle.std.proofs.lemmas.Bool.{eqb-false}
use Rattle.std.proofs.lemmas.List.{map_push}
use Rattle.book.proofs.Lines.{after_none, refused, one_more}
use Rattle.book.proofs.load.fill_lines.Goals as goal

pub loop-reader-init : goal.loop-reader-init
loop-reader-init c = rw c.requires (record {
  most = omega arith;
  line = omega arith;
  codes = after_none _;
})

pub returns-in_err-code : goal.returns-in_err-code
returns-in_err-code c =
    let p = err_from_is_err_and c.from_residual.result c.from_residual.ensures.1 in
    let some = eqb-false _ _ (sym c.loop-reader-test.ensures) in
    let room = eqb-false _ _ (sym c.if-is_full.ensures.value) in
    rw (p.1, p.2) (sym (refused _ _ _ _ _ (omega arith) some c.in_err-code.ensures.value) ∙ c.loop-reader.invariant.codes)

pub loop-reader-preserved : goal.loop-reader-preserved
loop-reader-preserved c =
    let some = eqb-false _ _ (sym c.loop-reader-test.ensures) in
    let room = eqb-false _ _ (sym c.if-is_full.ensures.value) in
    let next : c.code.new.self.line ≡ suc c.loop-reader.reader.line = c.in_ok-code.ensures.line ∙ add-one _ in
    let left : 32 - length c.push.new.self.items ≡ 32 - length c.loop-reader.entries.items - 1 = omega (arith, c.push.ensures.len, room) in
    record {
      most = omega (arith, c.push.ensures.len, room);
      line = omega (arith, c.push.ensures.len, next);
      codes =
          rw (left, next, c.push.ensures.items, map_push)
          (one_more _ _ _ _ _ _ (omega arith) some c.in_ok-code.ensures.value ∙ c.loop-reader.invariant.codes);
    }
