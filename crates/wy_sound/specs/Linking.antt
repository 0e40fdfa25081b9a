-- The laws of linking: in an accepted program each instance is one of its scope, and what it is handed has the types that are asked for.
-- (docs/LANGUAGE.md, "Start order and ground sets", "Types of a run")
use Rattle.wy_types.specs.Program.{Program}
use Rattle.wy_types.specs.Core.{IsCore}
use Rattle.wy_rules.specs.Acceptance.{Accepted}
use Rattle.wy_rules.specs.OwnNames.{LinesAreTyped, HavePlainNames}
use Rattle.wy_sound.specs.Arguments.{ArgumentsFit, InstancesFit}

-- each instance of an accepted program is one of its scope
abbrev pub AcceptedInstancesFit : Type 0
AcceptedInstancesFit = (p : Program) → IsCore p → LinesAreTyped p → HavePlainNames p → Accepted p → InstancesFit p

-- what it is handed for the scope's own names has their types, as it reads them
abbrev pub AcceptedArgumentsFit : Type 0
AcceptedArgumentsFit = (p : Program) → IsCore p → LinesAreTyped p → HavePlainNames p → Accepted p → ArgumentsFit p
