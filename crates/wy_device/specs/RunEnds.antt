-- How a run of a whole program ends. (docs/LANGUAGE.md, "How a run ends")
use Rattle.std.specs.Prelude.{ℕ, List}
use Rattle.wy_text.specs.declared.fault.Place.{Place}
use Rattle.wy_device.specs.declared.operation.OpName.{OpName}
use Rattle.wy_device.specs.Traps.{TrapKind}

pub data RunEnd : Type 0 where
  -- it came to its end
  Ended : RunEnd
  -- it trapped at a place
  Trap : TrapKind → Place → RunEnd
  -- a call on an object was one too many that are open at once
  TooDeep : RunEnd
  -- an operation on a grant failed
  DeviceFailed : List ℕ → OpName → RunEnd
  -- it waits for an answer that its tapes do not have
  Waiting : RunEnd
  -- it took all the steps that it may take
  Spent : RunEnd
  -- something is missing or of a wrong kind; no accepted program comes to this
  Wrong : RunEnd
