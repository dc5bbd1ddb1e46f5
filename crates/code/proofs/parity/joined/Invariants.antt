use Rattle.std.proofs.Common.{◌≡◌, drop, bit_xor}
use Rattle.trellis.specs.Parity.{syndrome}
use Rattle.code.proofs.parity.joined.Given as goal

abbrev pub invariant-loop-polynomial : goal.invariant-loop-polynomial
invariant-loop-polynomial l = bit_xor l.sum (syndrome (drop l.polynomial-index l.polynomials) l.rest) ≡ syndrome l.polynomials l.bits
