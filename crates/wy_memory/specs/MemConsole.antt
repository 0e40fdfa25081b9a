-- A console in memory.
use Rattle.std.specs.Prelude.{ℕ, ◌+◌, ◌==◌, List, Option, Some, None, length, take, min, position}
use Rattle.wy_device.specs.declared.deed.Deed.{Deed}

-- the input that is left, the bytes written, the deeds, the numbers of the calls that are to fail, how many
-- calls were made, and the faults
pub record MemConsoleState : Type 0 where
  pub input : List ℕ
  pub written : List ℕ
  pub deeds : List Deed
  pub fails : List ℕ
  pub calls : ℕ
  pub faults : ℕ

-- where a line ends, by the place of its newline, or else by the size of the input
abbrev pub line_end : Option ℕ → ℕ → ℕ
line_end None size = size
line_end (Some at) size = at + 1

-- the size of one line with its newline, or of its first piece of 65,536 bytes
abbrev pub line_size : List ℕ → ℕ
line_size input = min (line_end (position (λ b. b == 10) input) (length input)) 65536

abbrev pub next_line : List ℕ → List ℕ
next_line input = take (line_size input) input
