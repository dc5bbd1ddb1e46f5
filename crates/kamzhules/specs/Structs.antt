-- What the structs of C stand for.
use Rattle.std.specs.Prelude.{ℕ, cond, List, Some, None, Option, Result, ◌==◌}
use Rattle.std.specs.Option.{unwrap_or}
use Rattle.code.specs.declared.flaw.Flaw.{Flaw}
use Rattle.code.specs.Flaw.{judged}
use Rattle.kamzhules.specs.declared.codes.CCode.{CCode}
use Rattle.kamzhules.specs.declared.refused.CFault.{CFault}
use Rattle.kamzhules.specs.declared.senders.CSender.{CSender}
use Rattle.kamzhules.specs.declared.codes.CSymbol.{CSymbol}
use Rattle.sender.specs.Sender.{Standing}
use Rattle.trellis.specs.declared.Numbers.{Numbers}

-- A polynomial that may be absent: 0 is none.
abbrev pub present : ℕ → Option ℕ
present h = cond (h == 0) None (Some h)

abbrev pub numbers_in : CCode → Numbers
numbers_in k =
    record {
      places = k.places;
      phases = k.phases;
      offset = k.offset;
      checked = k.checked;
      memory = k.memory;
      h0 = k.h0;
      h1 = k.h1;
      h2 = present k.h2;
      h3 = present k.h3;
    }

-- The numbers of a code from C, if they are a code.
abbrev pub code_in : CCode → Result Numbers Flaw
code_in k = judged (numbers_in k)

-- A code as C is told of it.
abbrev pub code_out : Numbers → CCode
code_out n =
    record {
      places = n.places;
      phases = n.phases;
      offset = n.offset;
      checked = n.checked;
      memory = n.memory;
      h0 = n.h0;
      h1 = n.h1;
      h2 = unwrap_or n.h2 0;
      h3 = unwrap_or n.h3 0;
    }

abbrev pub fault : ℕ → ℕ → ℕ → CFault
fault number line column = record { number = number; line = line; column = column }

-- The symbol of these phases.
abbrev pub symbol_out : Numbers → List ℕ → CSymbol
symbol_out n phases = record { places = n.places; phases = phases }

-- Where the burst of a sender stands; its code is given as numbers.
abbrev pub standing_of : CSender → Numbers → Standing
standing_of s n = record { numbers = n; S = s.state; V = s.differential; sent = s.sent }

-- A sender within a burst that stands there.
abbrev pub sender_within : CCode → Standing → CSender
sender_within code b = record { code = code; state = b.S; differential = b.V; sent = b.sent; sending = 1 }

-- The sender at that place.
abbrev pub sender_at : CSender → Standing → CSender
sender_at s b = record { code = s.code; state = b.S; differential = b.V; sent = b.sent; sending = s.sending }
