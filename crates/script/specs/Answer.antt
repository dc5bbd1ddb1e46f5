-- The line that tells an answer.
use Rattle.std.specs.Prelude.{ℕ, List, ◌∷◌, ◌++◌, take, codes}
use Rattle.std.specs.Fmt.{decimal}
use Rattle.std.specs.List.{flat_map}
use Rattle.sender.specs.Refusal.{refusal_number}
use Rattle.script.specs.declared.answer.Answer.{Answer}
use Rattle.script.specs.declared.answer.Answer.TheVariants.{Phases, Busy, Nothing, Refused, Quiet, Sent, Unread}
use Rattle.script.specs.declared.answer.Symbol.{Symbol}

-- The phases of the used places, each behind a space.
abbrev pub told_phases : Symbol → List ℕ
told_phases s = flat_map (λ p. 32 ∷ decimal p) (take s.places s.phases)

-- The line, without its line feed.
abbrev pub line_of : Answer → List ℕ
line_of (Phases s) = codes "phases" ++ told_phases s
line_of Busy = codes "busy"
line_of Nothing = codes "nothing"
line_of (Refused r) = codes "refused " ++ decimal (refusal_number r)
line_of Quiet = codes "quiet"
line_of (Sent n) = codes "sent " ++ decimal n
line_of Unread = codes "unread"
