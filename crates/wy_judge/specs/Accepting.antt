-- What the judgement of a scope says of the rules: one that passes keeps them all but for its instance and import lines, which are
-- judged by themselves, and one that fails does not.
use Rattle.std.specs.Prelude.{◌≡◌, ℕ, List, ◌⊎◌, Some, slice_get}
use Rattle.wy_text.specs.declared.fault.Fault.{Fault}
use Rattle.wy_types.specs.declared.types.TypeRef.{TypeRef}
use Rattle.wy_types.specs.Program.{Program, Scope}
use Rattle.wy_rules.specs.Typing.{ScopeHolds}
use Rattle.wy_rules.specs.Acceptance.{scope_reading, PureHolds, AscriptionHolds}
use Rattle.wy_rules.specs.Ends.{End, IsEnd, IsAccepted}
use Rattle.wy_rules.specs.Failing.{IsScopeFault, IsLineFault}
use Rattle.wy_rules.specs.Refusals.{ScopePasses, LinesPassFrom}
use Rattle.wy_judge.specs.declared.scopes.Judged.TheVariants.{Passes, Fails}
use Rattle.wy_judge.specs.Tables.{IsScopeOf}
use Rattle.wy_judge.specs.Walking.{IsJudged}

-- the rules for a scope but for its lines
abbrev pub KeepsRules : Program → ℕ → Scope → Type 0
KeepsRules p k s = PureHolds s.kind s × ScopeHolds (scope_reading p k s) s × AscriptionHolds p k s

abbrev pub PassingKeepsRules : Type 0
PassingKeepsRules = (p : Program) (k : ℕ) (s : Scope) (types : List TypeRef) → IsJudged p k s (Passes types) → KeepsRules p k s

abbrev pub FailingBreaksRules : Type 0
FailingBreaksRules = (p : Program) (k : ℕ) (s : Scope) (fault : Fault) → IsScopeOf p k s → IsJudged p k s (Fails fault) → KeepsRules p k s → ⊥

-- it is known of a scope whether it passes or has a fault
abbrev pub IsScopeDecided : Program → ℕ → Scope → Type 0
IsScopeDecided p k s = ScopePasses p k s ⊎ ((fault : Fault) × IsScopeFault p k s fault)

-- .. of each scope, and of the lines
pub record IsDecided (p : Program) : Type 0 where
  pub nodes : (k : ℕ) (s : Scope) → slice_get p.scopes k ≡ Some s → IsScopeDecided p k s
  pub lines : LinesPassFrom p 0 p.scopes ⊎ ((fault : Fault) × IsLineFault p fault)

-- then the program is accepted within the limits, or judging it has an end
abbrev pub DecidedHasAnEnd : Type 0
DecidedHasAnEnd = (p : Program) → IsDecided p → IsAccepted p ⊎ ((end : End) × IsEnd p end)
