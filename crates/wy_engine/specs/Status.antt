-- The statuses: their numbers, and how they go with how a run ends.
use Rattle.std.specs.Prelude.{◌≡◌, ⊤}
use Rattle.wy_device.specs.RunEnds as ends
use Rattle.wy_device.specs.RunEnds.{RunEnd}
use Rattle.wy_machine.specs.TrapKinds.{trap_meant}
use Rattle.wy_engine.specs.declared.status.Status.{Status}
use Rattle.wy_engine.specs.declared.status.Status.TheVariants as status

-- the status is that of a run which ended so
abbrev pub IsOfEnd : Status → RunEnd → Type 0
IsOfEnd status.Ended end = end ≡ ends.Ended
IsOfEnd status.Usage end = ⊥
IsOfEnd (status.Unread file) end = ⊥
IsOfEnd (status.Syntax place kind) end = ⊥
IsOfEnd (status.Refused fault) end = ⊥
IsOfEnd (status.Limit name) end = ⊥
IsOfEnd (status.Trap kind place) end = end ≡ ends.Trap (trap_meant kind) place
IsOfEnd status.TooDeep end = end ≡ ends.TooDeep
IsOfEnd status.Spent end = end ≡ ends.Spent
IsOfEnd (status.DeviceFailed grant op) end = end ≡ ends.DeviceFailed grant op
IsOfEnd status.Unwritten end = ⊥
IsOfEnd status.Memory end = ⊥
IsOfEnd (status.BadCert at) end = ⊥
IsOfEnd (status.Unproved scope test index) end = ⊥
IsOfEnd (status.Denied line instance atom) end = ⊥
IsOfEnd (status.BadPolicy line) end = ⊥

-- a status that a call may have which ran a program, or began to
abbrev pub IsOfRun : Status → Type 0
IsOfRun status.Ended = ⊤
IsOfRun status.Usage = ⊥
IsOfRun (status.Unread file) = ⊥
IsOfRun (status.Syntax place kind) = ⊥
IsOfRun (status.Refused fault) = ⊥
IsOfRun (status.Limit name) = ⊥
IsOfRun (status.Trap kind place) = ⊤
IsOfRun status.TooDeep = ⊤
IsOfRun status.Spent = ⊤
IsOfRun (status.DeviceFailed grant op) = ⊤
IsOfRun status.Unwritten = ⊤
IsOfRun status.Memory = ⊤
IsOfRun (status.BadCert at) = ⊥
IsOfRun (status.Unproved scope test index) = ⊥
IsOfRun (status.Denied line instance atom) = ⊥
IsOfRun (status.BadPolicy line) = ⊥

-- a status that a call may have which wrote to `out`, or began to
abbrev pub IsOfOut : Status → Type 0
IsOfOut status.Ended = ⊤
IsOfOut status.Usage = ⊥
IsOfOut (status.Unread file) = ⊥
IsOfOut (status.Syntax place kind) = ⊥
IsOfOut (status.Refused fault) = ⊥
IsOfOut (status.Limit name) = ⊥
IsOfOut (status.Trap kind place) = ⊥
IsOfOut status.TooDeep = ⊥
IsOfOut status.Spent = ⊥
IsOfOut (status.DeviceFailed grant op) = ⊥
IsOfOut status.Unwritten = ⊤
IsOfOut status.Memory = ⊤
IsOfOut (status.BadCert at) = ⊥
IsOfOut (status.Unproved scope test index) = ⊥
IsOfOut (status.Denied line instance atom) = ⊥
IsOfOut (status.BadPolicy line) = ⊥

-- a status that texts may have, before anything is run or written to `out`
abbrev pub IsOfTexts : Status → Type 0
IsOfTexts status.Ended = ⊥
IsOfTexts status.Usage = ⊤
IsOfTexts (status.Unread file) = ⊥
IsOfTexts (status.Syntax place kind) = ⊤
IsOfTexts (status.Refused fault) = ⊤
IsOfTexts (status.Limit name) = ⊤
IsOfTexts (status.Trap kind place) = ⊥
IsOfTexts status.TooDeep = ⊥
IsOfTexts status.Spent = ⊥
IsOfTexts (status.DeviceFailed grant op) = ⊥
IsOfTexts status.Unwritten = ⊥
IsOfTexts status.Memory = ⊥
IsOfTexts (status.BadCert at) = ⊤
IsOfTexts (status.Unproved scope test index) = ⊤
IsOfTexts (status.Denied line instance atom) = ⊤
IsOfTexts (status.BadPolicy line) = ⊤
