-- The types that occur in a run: base types, declared types with sets of atoms or at a bound, and the own types of the modules and literals of
-- its instances. They are finitely many, so each subtyping over them rests on a finite list of pairs (docs/LANGUAGE.md, "Types of a run").
use Rattle.std.specs.Prelude.{ℕ, ◌+◌, ◌<◌, ◌≤◌, List, [], ◌∷◌, Option, Some, None, length, slice_get}
use Rattle.wy_text.specs.Members.{In, Within, Apart}
use Rattle.wy_types.specs.declared.types.TypeRef.TheVariants as of
use Rattle.wy_types.specs.declared.linked.Instance.{Instance}
use Rattle.wy_types.specs.Program.{Program}
use Rattle.wy_types.specs.Signature.{Signature}
use Rattle.wy_types.specs.Subtyping.{IsSubtype}
use Rattle.wy_types.specs.Fitting.{FitsType, own_count}
use Rattle.wy_types.specs.Few.{type_count}
use Rattle.wy_rules.specs.Acceptance.{Accepted}
use Rattle.wy_rules.specs.GroundTypes.{GroundType, Int, Bool, Text, Nothing, Named, At, Own, IsGroundObject, run_instances, ground_methods}
use Rattle.wy_sound.specs.Arguments.{ground_below}
use Rattle.wy_sound.specs.Programs.{IsResolved}

-- how many types of its own an instance has: that of its module and those of the module's literals
abbrev pub owns_of : Program → Option Instance → ℕ
owns_of p None = 0
owns_of p (Some i) = own_count p i.scope

-- .. and how many these have together
abbrev pub owns_among : Program → List Instance → ℕ
owns_among p [] = 0
owns_among p (i ∷ is) = own_count p i.scope + owns_among p is

-- a type of a run
abbrev pub IsOfRun : Program → GroundType → Type 0
IsOfRun p Int = Unit {0}
IsOfRun p Bool = Unit {0}
IsOfRun p Text = Unit {0}
IsOfRun p Nothing = Unit {0}
IsOfRun p (Named d members) = FitsType p 512 0 (of.Named d members)
IsOfRun p (At d bound) = FitsType p 512 0 (of.At d bound)
IsOfRun p (Own x l) = l < owns_of p (slice_get (run_instances p) x)

-- how many there are
abbrev pub ground_bound : Program → ℕ
ground_bound p = type_count p 512 (owns_among p (run_instances p))

-- no list of distinct types of a run is longer
abbrev pub GroundTypesAreFew : Type 0
GroundTypesAreFew = (p : Program) (us : List GroundType) → Apart us → ((u : GroundType) → In u us → IsOfRun p u) → length us ≤ ground_bound p

-- the methods of a type of a run name such types
abbrev pub GroundTypesStay : Type 0
GroundTypesStay =
    (p : Program) → IsResolved p → Accepted p → (t : GroundType) → IsOfRun p t → (m : Signature GroundType) → In m (ground_methods p t) →
    ((u : GroundType) → In u m.params → IsOfRun p u) × IsOfRun p m.result

-- each is a subtype of itself: so a type that is equal to another or a subtype of it is a subtype of it
abbrev pub GroundBelowIsSubtype : Type 0
GroundBelowIsSubtype =
    (p : Program) → IsResolved p → Accepted p → (s t : GroundType) → IsOfRun p s → ground_below p s t →
    IsSubtype GroundType (ground_methods p) IsGroundObject Within s t
