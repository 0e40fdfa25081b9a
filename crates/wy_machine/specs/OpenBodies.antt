-- The bodies that are open while code runs.
use Rattle.std.specs.Prelude.{ℕ, List}
use Rattle.wy_code.specs.Stores.{Word}
use Rattle.wy_machine.specs.declared.stack.Limits.{Limits}

-- a body that is open: its number and its instance's, the address of the instruction that comes next, its slots, and
-- its operands, the topmost first
pub record OpenBody : Type 0 where
  pub instance : ℕ
  pub body : ℕ
  pub at : ℕ
  pub slots : List Word
  pub operands : List Word

-- the body that runs, those that wait for it, the latest first, and the room that there is for them
pub record StackState : Type 0 where
  pub running : OpenBody
  pub callers : List OpenBody
  pub limits : Limits
