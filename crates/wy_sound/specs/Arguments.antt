-- What instances are handed has the types that are asked for, over the types of a run, and each instance is one of its scope.
-- (docs/LANGUAGE.md, "Types of a run")
use Rattle.std.specs.Prelude.{◌≡◌, ℕ, ◌<◌, ◌≤◌, List, length, ◌⊎◌, ◌↔◌, Some, None, slice_get}
use Rattle.wy_text.specs.Members.{Within}
use Rattle.wy_types.specs.declared.linked.Actual.{Actual}
use Rattle.wy_types.specs.declared.linked.Actual.TheVariants as actual
use Rattle.wy_types.specs.declared.linked.Instance.{Instance}
use Rattle.wy_types.specs.declared.resolved.Origin.TheVariants as origin
use Rattle.wy_types.specs.declared.resolved.OwnName.{OwnName}
use Rattle.wy_types.specs.declared.resolved.ScopeKind.TheVariants as kind
use Rattle.wy_types.specs.Program.{Program, Scope}
use Rattle.wy_types.specs.Subtyping.{IsSubtype}
use Rattle.wy_types.specs.Ground.{names_of, type_of, program_number, program_sets, start_list}
use Rattle.wy_rules.specs.GroundTypes.{GroundType, Own, IsGroundObject, type_at, run_instances, read_by, ground_methods}
use Rattle.wy_rules.specs.GroundTyping.{IsInstanceOf}

-- equal, or a subtype over the types of the run
abbrev pub ground_below : Program → GroundType → GroundType → Type 0
ground_below p s t = (s ≡ t) ⊎ IsSubtype GroundType (ground_methods p) IsGroundObject Within s t

-- the own names of the program
abbrev pub program_names : Program → List OwnName
program_names p = names_of (slice_get p.scopes (program_number p))

-- the type of a run of what an own name stands for: an instance's own, or a grant's as the program has it
abbrev pub actual_type : Program → Actual → GroundType
actual_type p (actual.Instance y) = Own y 0
actual_type p (actual.Grant g) = type_at (length (start_list p)) (read_by None (program_sets p) (type_of (slice_get (program_names p) g)))

-- it is there for the instance of a number (or the program, which comes last): a grant of the program, or an instance that starts before
abbrev pub IsThere : Program → ℕ → Actual → Type 0
IsThere p x (actual.Instance y) = y < x
IsThere p x (actual.Grant g) = (n : OwnName) × (slice_get (program_names p) g ≡ Some n) × (n.origin ≡ origin.Grant)

-- what an instance is handed for an own name of its scope has the name's type, as the instance reads it
pub record ArgumentFits (p : Program) (x : ℕ) (i : Instance) (k : ℕ) (n : OwnName) : Type 0 where
  pub argument : Actual
  pub handed : slice_get i.arguments k ≡ Some argument
  pub there : IsThere p x argument
  pub below : ground_below p (actual_type p argument) (type_at x (read_by i.bound i.ground n.typ))

-- for each own name of each instance, and there are no more
pub record ArgumentsFit (p : Program) : Type 0 where
  pub each : (x : ℕ) (i : Instance) (s : Scope) (k : ℕ) (n : OwnName) →
      slice_get (run_instances p) x ≡ Some i → slice_get p.scopes i.scope ≡ Some s → slice_get s.names k ≡ Some n → ArgumentFits p x i k n
  pub count : (x : ℕ) (i : Instance) (s : Scope) → slice_get (run_instances p) x ≡ Some i → slice_get p.scopes i.scope ≡ Some s →
      length i.arguments ≤ length s.names

-- an instance has its scope, which is the program's exactly for the last one
pub record InstanceFits (p : Program) (x : ℕ) (i : Instance) : Type 0 where
  pub scope : Scope
  pub is : IsInstanceOf p x i scope
  pub kind : (scope.kind ≡ kind.Program) ↔ (x ≡ length (start_list p))

pub record InstancesFit (p : Program) : Type 0 where
  pub each : (x : ℕ) (i : Instance) → slice_get (run_instances p) x ≡ Some i → InstanceFits p x i
