use Rattle.std.proofs.Common.{◌≡◌, ◌/◌, length, refl, subst, inl, inr, arith}
use Rattle.receiver.specs.Cells.{survivor, survivors, row_in}
use Rattle.receiver.specs.Ways.{HalfBest}
use Rattle.receiver.proofs.Following.{halves}
use Rattle.receiver.proofs.Ways.{states_even}
use Rattle.receiver.proofs.extend.Step.write_row.Goals as goal

pub write_half-requires : goal.write_half-requires
write_half-requires g c =
    let even = states_even c.args.self.now.code (length c.args.row.now) c.requires.row in
    let part = c.split_at_mut-low.ensures.front_len in
    let all = c.requires.row in
    record { pairs = c.requires.pairs; first = inl refl; half = omega arith }

pub write_half-requires-2 : goal.write_half-requires-2
write_half-requires-2 g c =
    let even = states_even c.args.self.now.code (length c.args.row.now) c.requires.row in
    let part = c.split_at_mut-low.ensures.back_len in
    let all = c.requires.row in
    record { pairs = c.requires.pairs; first = inr (omega arith); half = omega arith }

pub returns : goal.returns
returns g c =
    let n = c.args.self.now.code.numbers in
    let row = row_in (survivors g.K.Kept.says c.args.self.now.before.now) in
    let bs = survivors (survivor g.K.Score.Score.worth) c.args.self.now.best.now in
    let low = c.write_half.new.half in
    let high = c.write_half-2.new.half in
    let under = c.write_half.auto.half in
    let over = c.write_half-2.auto.half in
    let front = c.split_at_mut-low.ensures.front_len in
    let back = c.split_at_mut-low.ensures.back_len in
    let all = c.requires.row in
    let middle : length c.args.row.now / 2 ≡ length low = omega arith in
    halves g.K.Kept.says n row bs low high (omega arith) c.write_half.ensures (subst (HalfBest n row bs (survivors g.K.Kept.says high)) middle c.write_half-2.ensures)
