use Rattle.std.proofs.Common.{◌≡◌, ◌+◌, ◌*◌, sym, ap, ◌∙◌, arith}
use lib.Bits.{bit_xor}
use Rattle.receiver.specs.Cells.{survivor}
use Rattle.receiver.proofs.Limited.{states_most}
use Rattle.receiver.proofs.Pairs.{read_survivor}
use Rattle.receiver.proofs.Room.{cell_room}
use Rattle.receiver.proofs.Syndromes.{back_odd, odd_enters}
use Rattle.survivors.specs.Rows.{back}
use Rattle.receiver.proofs.entering.Way.by_pair.Goals as goal

pub overflow_mul-before : goal.overflow_mul-before
overflow_mul-before g c = let most = states_most c.args.code in let small = c.requires.first in record { fits = omega arith }

pub offset_bounds-best-even : goal.offset_bounds-best-even
offset_bounds-best-even g c = let light = g.met.S.Score.light in let room = cell_room (2 * c.args.pair) _ _ (omega (arith, c.requires.pair)) light.0 light.1 in record { fits = omega arith }

pub offset_bounds-best-even-else-before-states_of : goal.offset_bounds-best-even-else-before-states_of
offset_bounds-best-even-else-before-states_of g c = let light = g.met.S.Score.light in let room = cell_room (2 * c.args.pair + 1) _ _ (omega (arith, c.requires.pair)) light.0 light.1 in record { fits = omega arith }

pub returns-else-before-states_of : goal.returns-else-before-states_of
returns-else-before-states_of g c =
    let n = c.args.code.numbers in
    let E = c.args.first in
    let u = c.args.pair in
    let x = c.index-best-even-else-before-states_of in
    let are = c.states_of.ensures.value in
    let small = c.requires.first in
    let few = c.requires.pair in
    let even : bit_xor (2 * E) c.from.result ≡ back n E (2 * u) = ap (bit_xor (2 * E)) (c.from.ensures ∙ c.syndrome.ensures) in
    let past = c.if-before-states_of.false in
    let odd : bit_xor (bit_xor (2 * E) c.from.result) c.from-else-before-states_of.result ≡ back n E (2 * u + 1) =
    (λ i. bit_xor (even i) (c.from-else-before-states_of.ensures i)) ∙ sym (back_odd n E u) in
    let low = odd_enters c.args.code E u small (omega arith) in
    record {
      group = 2 * u + 1;
      pair = omega arith;
      before = odd;
      low = omega arith;
      last = ap (survivor g.S.Score.worth) (sym x.is) ∙ read_survivor g.S.Score.worth c.args.best.now (2 * u + 1) x.result (omega arith) x.is;
    }
