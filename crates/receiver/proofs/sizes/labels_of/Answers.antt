use Rattle.std.proofs.Common.{ℕ, ◌^◌, ap, ◌∙◌, arith}
use Rattle.std.proofs.lemmas.Nat.{one_shl}
use Rattle.receiver.proofs.Limited.{labels_most}
use Rattle.receiver.proofs.sizes.labels_of.Goals as goal

pub returns : goal.returns
returns c =
    let few = c.rows.ensures.most in
    let is = one_shl _ 64 (omega arith) ∙ ap (λ (k : ℕ). 2 ^ k) c.rows.ensures.bits in
    let most = labels_most c.args.code in
    record { value = is; most = omega arith }
