use Rattle.std.proofs.Common.{◌≡◌, ◌^◌, ◌<◌, drop}
use Rattle.script.specs.Call.{value_from}
use Rattle.script.proofs.call.value.Given as goal

-- What is read so far and what is left give the value.
abbrev pub invariant-loop-digit : goal.invariant-loop-digit
invariant-loop-digit l = (value_from l.value (drop l.digit-index l.digits) ≡ value_from 0 l.digits) × (l.value < 10 ^ l.digit-index)
