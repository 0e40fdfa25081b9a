-- A clock in memory.
use Rattle.std.specs.Prelude.{ℕ, List, ℤ, pos, ◌+ℤ◌}
use Rattle.std.specs.Int.{int_min}
use Rattle.wy_device.specs.declared.deed.Deed.{Deed}

-- its start, the deeds, the numbers of the calls that are to fail, how many calls were made, and the faults
pub record MemClockState : Type 0 where
  pub start : ℤ
  pub deeds : List Deed
  pub fails : List ℕ
  pub calls : ℕ
  pub faults : ℕ

-- what a clock gives after so many calls that succeeded: its start and as many seconds, at most the greatest Int
abbrev pub time_after : ℕ → ℤ → ℤ
time_after earlier start = int_min (start +ℤ pos earlier) (pos 9223372036854775807)
