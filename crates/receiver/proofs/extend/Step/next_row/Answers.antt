use Rattle.std.proofs.Common.{◌≡◌, arith}
use Rattle.receiver.proofs.Ways.{ways_eight}
use Rattle.receiver.proofs.extend.Step.next_row.Goals as goal

pub write_row-requires-in_default-clause-pairs : goal.write_row-requires-in_default-clause-pairs
write_row-requires-in_default-clause-pairs g c =
    let k = c.args.self.now.code in
    let checked = k.numbers.checked in
    ways_eight k (λ (e : checked ≡ 1). omega (arith, c.in_default)) (λ (e : checked ≡ 2). omega (arith, c.in_default))
