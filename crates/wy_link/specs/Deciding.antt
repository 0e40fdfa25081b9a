-- Judging is decided: each core is accepted within the limits, or judging it has an end.
use Rattle.std.specs.Prelude.{◌⊎◌}
use Rattle.wy_text.specs.declared.fault.Fault.{Fault}
use Rattle.wy_types.specs.Program.{Program}
use Rattle.wy_types.specs.Core.{IsCore}
use Rattle.wy_rules.specs.Failing.{IsLineFault}
use Rattle.wy_rules.specs.Refusals.{plain_modules, scopes_of, LinesPassFrom}
use Rattle.wy_rules.specs.Ends.{End, IsEnd, AllGoOn, IsAccepted}

-- where the plain modules go on, the lines pass or have a fault
abbrev pub LinesAreDecided : Type 0
LinesAreDecided = (p : Program) → IsCore p → AllGoOn p (scopes_of plain_modules 0 p.scopes) → LinesPassFrom p 0 p.scopes ⊎ ((fault : Fault) × IsLineFault p fault)

-- a program that is not accepted within the limits has an end
abbrev pub JudgingIsDecided : Type 0
JudgingIsDecided = (p : Program) → IsCore p → IsAccepted p ⊎ ((end : End) × IsEnd p end)
