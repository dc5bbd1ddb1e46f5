use Rattle.std.proofs.Common.{◌≡◌, ℕ, List, [], length, Some, None, subst, arith}
use Rattle.std.proofs.lemmas.Bool.Decides.{nat_tests}
use Rattle.std.proofs.lemmas.Grind.{common_steps}
use Rattle.std.proofs.lemmas.List.{append-nil, nil_from_length}
use Rattle.faults.specs.Escapes.{first_byte, StandsFor}
use Rattle.faults.proofs.FirstBytes.{behind_first, none_first}
use Rattle.faults.proofs.escapes.unescaped.Goals as goal

pub loop-byte-preserved : goal.loop-byte-preserved
loop-byte-preserved c =
    let rest : List ℕ = c.loop-byte.rest.now in
    let after : List ℕ = c.in-Some.after.now in
    let first : first_byte rest ≡ Some (c.in-Some.byte, after) = cc in
    record {
      joins = grind (arith, common_steps);
      stands = λ all h. let k = c.loop-byte.invariant.stands all h in behind_first rest after c.in-Some.byte first k.0 k.1;
    }

pub returns-then-is_empty : goal.returns-then-is_empty
returns-then-is_empty c =
    let none : length c.loop-byte.rest.now ≡ 0 = grind (arith, nat_tests) in
    subst (StandsFor c.args.escaped.now) (append-nil c.loop-byte.text.items) (c.loop-byte.invariant.joins [] (nil_from_length c.loop-byte.rest.now none))

pub returns-else-is_empty : goal.returns-else-is_empty
returns-else-is_empty c all h =
    let rest : List ℕ = c.loop-byte.rest.now in
    let none : first_byte rest ≡ None = cc in
    let k = c.loop-byte.invariant.stands all h in
    none_first rest none (λ (e : length rest ≡ 0). grind (arith, nat_tests)) k.0 k.1
