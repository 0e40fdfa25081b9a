-- The types of a run: declared types with sets of grant atoms, and the own types of instances. What an instance's scope calls a type
-- is read with the instance's ground sets put in; of a plain module's instance each declared type stands at the ground of the bound
-- (docs/LANGUAGE.md, "Types of a run").
use Rattle.std.specs.Prelude.{codes, ℕ, List, [], ◌∷◌, ◌++◌, Option, Some, None, false, map, slice_get}
use Rattle.wy_text.specs.Members.{Within}
use Rattle.wy_effects.specs.EffSet.{replace}
use Rattle.wy_effects.specs.Bounds.{IsOneOf}
use Rattle.wy_types.specs.declared.types.TypeRef.{TypeRef}
use Rattle.wy_types.specs.declared.types.TypeRef.TheVariants as of
use Rattle.wy_types.specs.declared.linked.Instance.{Instance}
use Rattle.wy_types.specs.Program.{Program}
use Rattle.wy_types.specs.Signature.{Signature, mapped_signature}
use Rattle.wy_types.specs.Types.{substituted, annotated, declared_methods, named_methods, bounded_methods, methods_of_owner, scope_bodies}
use Rattle.wy_types.specs.Ground.{instance_of, program_number, program_visited, program_sets, start_list}
use Rattle.wy_rules.specs.Readings.{Reading}

pub data GroundType : Type 0 where
  Int : GroundType
  Bool : GroundType
  Text : GroundType
  Nothing : GroundType
  Named : ℕ → List (List ℕ) → GroundType
  At : ℕ → List ℕ → GroundType
  -- the module of an instance, by 0, or a literal of it
  Own : (instance : ℕ) → (literal : ℕ) → GroundType

abbrev pub IsGroundObject : GroundType → Type 0
IsGroundObject Int = ⊥
IsGroundObject Bool = ⊥
IsGroundObject Text = ⊥
IsGroundObject Nothing = ⊥
IsGroundObject (Named d members) = Unit {0}
IsGroundObject (At d bound) = Unit {0}
IsGroundObject (Own x l) = Unit {0}

-- a type whose own types are those of an instance; those of declarations name none
abbrev pub type_at : ℕ → TypeRef → GroundType
type_at x of.Int = Int
type_at x of.Bool = Bool
type_at x of.Text = Text
type_at x of.Unit = Nothing
type_at x (of.Named d members) = Named d members
type_at x (of.At d bound) = At d bound
type_at x (of.Own l) = Own x l

-- the instances of a run, and last the program as one more
abbrev pub run_instances : Program → List Instance
run_instances p = start_list p ++ instance_of (codes "main") (program_number p) (program_visited p).actuals None (program_sets p) ∷ []

-- how an instance reads a type and an effect of its scope
abbrev pub read_by : Option (List ℕ) → List (List ℕ) → TypeRef → TypeRef
read_by None sets t = substituted sets t
read_by (Some bound) sets t = annotated bound t

abbrev pub effect_by : Option (List ℕ) → List (List ℕ) → List ℕ → List ℕ
effect_by None sets e = replace sets e
effect_by (Some bound) sets e = bound

abbrev pub own_methods : Program → ℕ → ℕ → Option Instance → List (Signature GroundType)
own_methods p x l None = []
own_methods p x l (Some i) =
    map (mapped_signature (λ t. type_at x (read_by i.bound i.ground t)) (effect_by i.bound i.ground)) (methods_of_owner l (scope_bodies (slice_get p.scopes i.scope)))

-- the methods of a type of a run
abbrev pub ground_methods : Program → GroundType → List (Signature GroundType)
ground_methods p Int = []
ground_methods p Bool = []
ground_methods p Text = []
ground_methods p Nothing = []
ground_methods p (Named d members) = map (mapped_signature (type_at 0) (λ e. e)) (named_methods false members (declared_methods (slice_get p.declarations d)))
ground_methods p (At d bound) = map (mapped_signature (type_at 0) (λ e. e)) (bounded_methods bound (declared_methods (slice_get p.declarations d)))
ground_methods p (Own x l) = own_methods p x l (slice_get (run_instances p) x)

-- typing of an instance's bodies over the types of the run
abbrev pub ground_reading : Program → ℕ → Instance → Reading
ground_reading p x i = record {
  Kind = GroundType;
  read = λ t. type_at x (read_by i.bound i.ground t);
  effect = effect_by i.bound i.ground;
  methods = ground_methods p;
  IsObject = IsGroundObject;
  Includes = Within;
  Allows = Within;
  Under = IsOneOf;
}
