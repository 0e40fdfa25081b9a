-- A random source in memory.
use Rattle.std.specs.Prelude.{ℕ, ◌%◌, List, ℤ, pos, length, slice_index_or}
use Rattle.wy_device.specs.declared.deed.Deed.{Deed}

-- its numbers, the deeds, the numbers of the calls that are to fail, how many calls were made, and the faults
pub record MemRandomState : Type 0 where
  pub numbers : List ℤ
  pub deeds : List Deed
  pub fails : List ℕ
  pub calls : ℕ
  pub faults : ℕ

-- what a source gives after so many calls that succeeded: its numbers round and round, and 0 where it has none
abbrev pub word_after : ℕ → List ℤ → ℤ
word_after earlier numbers = slice_index_or numbers (earlier % length numbers) (pos 0)
