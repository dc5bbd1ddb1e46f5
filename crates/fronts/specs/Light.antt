-- Types that take little memory.
use Rattle.std.specs.Prelude.{◌^◌, ◌<◌, ◌≤◌}
use denote.Param.{layout}
use Rattle.std.specs.Borrow.{RattleType}
use prog.Memory.{size, align}

-- A value takes less than 4 GiB, so that a table of a few dozen of them fits in memory.
abbrev pub Light : RattleType → Type 0
Light R = (size (layout R) < 2 ^ 32) × (align (layout R) ≤ 16)
