-- What a scope's judgement says of the rules: a scope that passes keeps them all but for its lines, which are judged by themselves, and
-- a scope that fails does not.
use Rattle.std.proofs.Common.{ℕ, List, map}
use Rattle.wy_text.specs.declared.fault.Fault.{Fault}
use Rattle.wy_types.specs.declared.types.TypeRef.{TypeRef}
use Rattle.wy_types.specs.Program.{Program, Scope}
use Rattle.wy_rules.specs.Typing.{ScopeHolds}
use Rattle.wy_rules.specs.Acceptance.{scope_reading, PureHolds, AscriptionHolds}
use Rattle.wy_rules.proofs.Holding.{holding_scope_stands}
use Rattle.wy_rules.proofs.Passing.{scope_holds}
use Rattle.wy_judge.specs.declared.scopes.Judged.TheVariants.{Passes, Fails}
use Rattle.wy_judge.specs.Tables.{IsScopeOf}
use Rattle.wy_judge.specs.Walking.{IsJudged}
use Rattle.wy_judge.proofs.Contexts.{scope_fits}

module _ (p : Program) (k : ℕ) (s : Scope) where
  pub passing_holds : (types : List TypeRef) → IsJudged p k s (Passes types) → PureHolds s.kind s × ScopeHolds (scope_reading p k s) s × AscriptionHolds p k s
  passing_holds types h = scope_holds p k s (map (scope_reading p k s).read types) h.nodes

  pub failing_refutes : IsScopeOf p k s → (fault : Fault) → IsJudged p k s (Fails fault) → PureHolds s.kind s → ScopeHolds (scope_reading p k s) s → AscriptionHolds p k s → ⊥
  failing_refutes c fault h pure holds seal = holding_scope_stands p k s fault (scope_fits p k s c) pure holds seal h
