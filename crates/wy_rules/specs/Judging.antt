-- What judging comes to: a program of which every node passes is accepted, and in an accepted program no line
-- is at fault.
use Rattle.std.specs.Prelude.{◌≡◌, ℕ, List, [], Some, slice_get}
use Rattle.wy_text.specs.declared.fault.Fault.{Fault}
use Rattle.wy_types.specs.Program.{Program, Scope}
use Rattle.wy_rules.specs.Acceptance.{scope_reading, Accepted}
use Rattle.wy_rules.specs.Nodes.{scope_nodes, lines_nodes}
use Rattle.wy_rules.specs.Failing.{AllPass, IsLineFault}

-- in each scope, with types for its `val`s
pub record EveryNodePasses (p : Program) : Type 0 where
  pub bodies : (k : ℕ) (s : Scope) → slice_get p.scopes k ≡ Some s → (locals : List (scope_reading p k s).Kind) × AllPass p k s locals (scope_nodes s)
  pub lines : (k : ℕ) (s : Scope) → slice_get p.scopes k ≡ Some s → AllPass p k s [] (lines_nodes s.names)

abbrev pub PassingIsAccepted : Type 0
PassingIsAccepted = (p : Program) → EveryNodePasses p → Accepted p

abbrev pub AcceptedLinesHold : Type 0
AcceptedLinesHold = (p : Program) (fault : Fault) → Accepted p → IsLineFault p fault → ⊥
