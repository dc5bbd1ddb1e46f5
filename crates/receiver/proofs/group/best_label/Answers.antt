use Rattle.std.proofs.Common.{◌≡◌, ℕ, ◌+◌, ◌%◌, ◌^◌, ◌<◌, map, sym, ◌∙◌, subst, arith}
use Rattle.receiver.specs.Cells.{survivor}
use Rattle.receiver.specs.Scored.{label_sum}
use Rattle.receiver.proofs.Limited.{groups_labels}
use Rattle.receiver.proofs.Residues.{BestBefore, first_residue, next_residue, first_best, next_best, all_best}
use Rattle.receiver.proofs.group.best_label.Goals as goal

pub loop-label-init : goal.loop-label-init
loop-label-init g c =
    let n = c.args.code.numbers in
    let f = label_sum n (map g.S.Score.worth c.args.table.now.scores) in
    let many : c.from-groups.result ≡ 2 ^ (n.checked + 1) = c.from-groups.ensures ∙ c.groups_of.ensures.value in
    let is = c.from-first.ensures in
    let few = groups_labels c.args.code in
    let small : c.args.group < c.from-groups.result = omega (arith, c.requires) in
    subst (λ (k : ℕ). ((k + c.from-groups.result) % c.from-groups.result ≡ c.args.group) × BestBefore n f c.args.group (k + c.from-groups.result) (survivor g.S.Score.worth c.candidate-best.result)) (sym is) (
      first_residue c.args.group c.from-groups.result small,
      first_best n f c.args.group c.from-groups.result many _ small (omega arith) c.candidate-best.ensures,
    )

pub loop-label-preserved : goal.loop-label-preserved
loop-label-preserved g c =
    let n = c.args.code.numbers in
    let f = label_sum n (map g.S.Score.worth c.args.table.now.scores) in
    let many : c.from-groups.result ≡ 2 ^ (n.checked + 1) = c.from-groups.ensures ∙ c.groups_of.ensures.value in
    let few = c.labels_of-label-end.ensures.value in
    let more = c.loop-label-test.true in (
      next_residue c.loop-label.label c.from-groups.result c.args.group c.loop-label.invariant.0,
      next_best n f c.args.group c.from-groups.result many c.loop-label.label _ _ _ c.loop-label.invariant.0 (omega arith) c.candidate.ensures c.better-best.ensures c.loop-label.invariant.1,
    )

pub returns : goal.returns
returns g c =
    let n = c.args.code.numbers in
    let many : c.from-groups.result ≡ 2 ^ (n.checked + 1) = c.from-groups.ensures ∙ c.groups_of.ensures.value in
    let few = c.labels_of-label-end.ensures.value in
    let past = c.loop-label-test.false in
    all_best n (label_sum n (map g.S.Score.worth c.args.table.now.scores)) c.args.group c.from-groups.result many c.loop-label.label _ (omega arith) c.loop-label.invariant.1

pub returns-2 : goal.returns-2
returns-2 g c =
    let n = c.args.code.numbers in
    let f = label_sum n (map g.S.Score.worth c.args.table.now.scores) in
    let many : c.from-groups.result ≡ 2 ^ (n.checked + 1) = c.from-groups.ensures ∙ c.groups_of.ensures.value in
    let few = c.labels_of-label-end.ensures.value in
    let more = c.loop-label-test.true in
    let last = next_best n f c.args.group c.from-groups.result many c.loop-label.label _ _ _ c.loop-label.invariant.0 (omega arith) c.candidate.ensures c.better-best.ensures c.loop-label.invariant.1 in
    all_best n f c.args.group c.from-groups.result many (c.loop-label.label + c.from-groups.result) _ (omega arith) last
