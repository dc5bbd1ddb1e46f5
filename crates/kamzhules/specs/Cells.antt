-- What the cells of C say, whatever bytes are in them.
use Rattle.std.specs.Prelude.{◌+◌, ◌*◌, ◌==◌}
use Rattle.kamzhules.specs.declared.plain.CPlainCell.{CPlainCell}
use Rattle.kamzhules.specs.declared.strike.CStrikeCell.{CStrikeCell}
use Rattle.survivors.specs.Best.{Survivor}

-- A plain score is worth itself; the survivor is sole where the byte is 1.
abbrev pub plain_says : CPlainCell → Survivor
plain_says c = record { worth = c.score; label = c.label; sole = (c.sole == 1) }

-- A strike is worth 65,536.
abbrev pub strike_says : CStrikeCell → Survivor
strike_says c = record { worth = c.strikes * 65536 + c.distance; label = c.label; sole = (c.sole == 1) }
