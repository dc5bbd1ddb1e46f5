use Rattle.std.proofs.Common.{◌≡◌, drop, bit_xor}
use Rattle.code.specs.Packed.{packed}
use Rattle.trellis.specs.Mapper.{picked}
use Rattle.code.proofs.mapper.joined.Given as goal

abbrev pub invariant-loop-row : goal.invariant-loop-row
invariant-loop-row l = record {
  turn : bit_xor l.turn (picked (λ x. x.turn) (drop l.row-index l.rows) l.rest) ≡ picked (λ x. x.turn) l.rows l.label;
  patterns : bit_xor l.patterns (picked packed (drop l.row-index l.rows) l.rest) ≡ picked packed l.rows l.label;
}
