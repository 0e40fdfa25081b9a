-- The law of ground typing: the bodies of an instance's module have derivations over the types of the run, with the instance's ground
-- sets put in for its atoms, or at the ground of its bound.
use Rattle.std.specs.Prelude.{◌≡◌, ℕ, List, [], Option, Some, None, Bool as Truth, true, false, slice_get}
use Rattle.wy_effects.specs.EffSet.{AreSets}
use Rattle.wy_effects.specs.Bounds.{Respects}
use Rattle.wy_types.specs.declared.linked.Instance.{Instance}
use Rattle.wy_types.specs.Program.{Program, Scope}
use Rattle.wy_types.specs.Bounds.{bounds_of}
use Rattle.wy_types.specs.Types.{is_plain}
use Rattle.wy_types.specs.Core.{IsCore}
use Rattle.wy_rules.specs.Acceptance.{scope_reading}
use Rattle.wy_rules.specs.Typing.{ScopeHolds}
use Rattle.wy_rules.specs.GroundTypes.{run_instances, ground_reading}

-- the instances of plain modules have a bound, and no others
abbrev pub BoundFits : Truth → Option (List ℕ) → Type 0
BoundFits true None = ⊥
BoundFits true (Some bound) = Unit {0}
BoundFits false None = Unit {0}
BoundFits false (Some bound) = ⊥

-- an instance of a run, of this scope; the ground sets of an annotated scope's atoms respect the bounds of these, and a plain one's are not read
pub record IsInstanceOf (p : Program) (x : ℕ) (i : Instance) (s : Scope) : Type 0 where
  pub there : slice_get (run_instances p) x ≡ Some i
  pub scope : slice_get p.scopes i.scope ≡ Some s
  pub bound : BoundFits (is_plain s.kind) i.bound
  pub sets : AreSets 512 i.ground
  pub respects : is_plain s.kind ≡ false → Respects (bounds_of p i.scope) [] i.ground

abbrev pub GroundTyping : Type 0
GroundTyping =
    (p : Program) → IsCore p → (x : ℕ) (i : Instance) (s : Scope) → IsInstanceOf p x i s → ScopeHolds (scope_reading p i.scope s) s → ScopeHolds (ground_reading p x i) s
