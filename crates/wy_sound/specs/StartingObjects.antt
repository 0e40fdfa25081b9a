-- The object of an instance whose `init` runs: what it is handed has its types, and so have its fields that are set. (docs/LANGUAGE.md, "Types of a run")
use Rattle.std.specs.Prelude.{◌≡◌, ℕ, ◌<◌, List, [], Some, slice_get, Option}
use Rattle.wy_types.specs.declared.code.Variable.{Variable}
use Rattle.wy_types.specs.declared.resolved.OwnName.{OwnName}
use Rattle.wy_types.specs.Code as code
use Rattle.wy_types.specs.Program.{Program}
use Rattle.wy_types.specs.Core.{ValueFits}
use Rattle.wy_rules.specs.Acceptance.{Accepted}
use Rattle.wy_rules.specs.Derivations.{Derivation}
use Rattle.wy_rules.specs.Typing.{Derives}
use Rattle.wy_rules.specs.GroundTypes.{GroundType, ground_reading}
use Rattle.wy_meaning.specs.Values.{Value, Thing, World}
use Rattle.wy_meaning.specs.Results.{Result}
use Rattle.wy_meaning.specs.Starts.{scope_of_instance}
use Rattle.wy_meaning.specs.Eval.{Sight, eval_value, open_calls}
use Rattle.wy_meaning.specs.Start.{run_start, start_of_scope}
use Rattle.wy_sound.specs.Arguments.{ArgumentFits}
use Rattle.wy_sound.specs.TypedHeaps.{instance_count, Placed, SightHas, Filling, PartlyFilled}
use Rattle.wy_sound.specs.Programs.{IsResolved, program_starts}

-- what the instance is handed for each own name of its scope has the name's type; the fields of its object that are set are the first ones, and
-- their values have their types. A field that is not yet set has no value
pub record IsStartingObject (p : Program) (x : ℕ) (place : Placed p x) (h : List Thing) : Type 0 where
  pub arguments : (k : ℕ) (n : OwnName) → slice_get place.scope.names k ≡ Some n → ArgumentFits p x place.instance k n
  pub fields : PartlyFilled p x place h

-- evaluation of a value while the instance starts sets none of these fields, whether it gives a value or ends: those that are set keep their types
abbrev pub StartingObjectStays : Type 0
StartingObjectStays =
    (p : Program) → IsResolved p → Accepted p → (x : ℕ) → x < instance_count p → (place : Placed p x) (done : List GroundType) →
    (sight : Sight) (other : Placed p sight.instance) (owner : Option ℕ) (seen : List Variable) →
    (d : Derivation GroundType) (v : code.Value) (t : GroundType) (e : List ℕ) →
    Derives (ground_reading p sight.instance other.instance) other.scope other.holds.derivation.locals owner d v t e →
    ValueFits p other.scope owner seen v →
    (n : ℕ) (w : World) → SightHas p x w.objects sight other owner seen → Filling p x place done w.objects →
    let r : Result Value = eval_value p (program_starts p) (open_calls p (program_starts p) n) sight v w in
    Filling p x place done r.world.objects

-- so the object is typed while the instance starts: at any heap in which its first fields are set, and wherever its start comes to
abbrev pub StartingObjectsAreTyped : Type 0
StartingObjectsAreTyped =
    (p : Program) → IsResolved p → Accepted p → (x : ℕ) → x < instance_count p → (place : Placed p x) →
    ((h : List Thing) → PartlyFilled p x place h → IsStartingObject p x place h) ×
    ((n : ℕ) (w : World) → Filling p x place [] w.objects →
    let r : Result Value = run_start p (program_starts p) (open_calls p (program_starts p) n) x w (start_of_scope (scope_of_instance p (program_starts p) x)) in
    IsStartingObject p x place r.world.objects)
