use Rattle.std.proofs.Common.{ℕ, ◌+◌, ◌-◌, ◌*◌, ◌^◌, ◌<◌, ◌≤◌, length, sym, subst, arith}
use Rattle.receiver.specs.Cells.{survivors, row_of}
use Rattle.receiver.proofs.Wayback.{left_none, left_more, left_all, row_fits, label_by_lem, rest_none, rest_more}
use Rattle.receiver.proofs.trace.deliver_words.Goals as goal

pub loop-t-init : goal.loop-t-init
loop-t-init g c =
    let n = c.args.code.numbers in
    let cs = survivors g.K.Kept.says c.args.cells.now in (
      c.requires.count,
      c.requires.end,
      label_by_lem cs _ _ _ _ _ c.states_of-states.ensures.value c.label_at-label.ensures,
      left_none n (row_of cs (2 ^ n.memory)) c.args.count c.args.end c.args.words.now,
      rest_none (c.args.count - 1) c.args.words.now,
    )

pub label_at-earlier-requires : goal.label_at-earlier-requires
label_at-earlier-requires g c =
    let is = c.states_of-states.ensures.value in
    let t = c.loop-t.t - 1 in
    let most = c.loop-t.auto.t in
    let fits = row_fits t c.args.count (2 ^ c.args.code.numbers.memory) (length c.args.cells.now) (omega arith) c.requires.cells in
    record { state = c.state_before-before.ensures.within; row = subst (λ (k : ℕ). t * k + k ≤ length c.args.cells.now) (sym is) fits }

pub loop-t-preserved : goal.loop-t-preserved
loop-t-preserved g c =
    let n = c.args.code.numbers in
    let cs = survivors g.K.Kept.says c.args.cells.now in
    let i = c.loop-t.invariant in
    let is = c.states_of-states.ensures.value in
    let t = c.loop-t.t in
    let most = c.loop-t.auto.t in
    let some = c.loop-t-test.true in
    let room : c.args.count - 1 ≤ length c.loop-t.words = omega (arith, c.requires.words, c.loop-t.auto.words) in
    let low : c.state_before-before.result < 2 ^ n.memory = omega (arith, c.state_before-before.ensures.within) in
    let earlier = label_by_lem cs _ _ _ _ _ is c.label_at-earlier.ensures in (
      omega arith,
      low,
      earlier,
      left_more n (row_of cs (2 ^ n.memory)) c.args.count c.args.end c.args.words.now t _ _ _ _ _ c.loop-t.words c.word_between.result is some most room i.1 i.2
          c.state_before-before.ensures.value earlier c.word_between.ensures i.3,
      rest_more (c.args.count - 1) (t - 1 - 1) c.args.words.now c.loop-t.words c.word_between.result (omega arith) i.4,
    )

pub returns : goal.returns
returns g c =
    let n = c.args.code.numbers in
    let cs = survivors g.K.Kept.says c.args.cells.now in
    let i = c.loop-t.invariant in record {
      words = left_all n (row_of cs (2 ^ n.memory)) c.args.count c.args.end c.args.words.now c.loop-t.t _ c.loop-t.words i.0 c.loop-t-test.false i.3;
      rest = i.4;
    }
