-- Whose atoms and whose own types an instance meets. The atoms of its ground sets, of its bound and of what its bodies
-- may do are of grants of the program. So are the atoms of the types that its scope reaches, and the own types among
-- these are its own.
-- (docs/LANGUAGE.md, "Start order and ground sets", "Types of a run")
use Rattle.std.specs.Prelude.{◌≡◌, ℕ, List, Some, length, slice_get}
use Rattle.wy_text.specs.Members.{In}
use Rattle.wy_effects.specs.EffSet.{IsSet, AreSets}
use Rattle.wy_types.specs.declared.linked.Instance.{Instance}
use Rattle.wy_types.specs.Program.{Program, Scope}
use Rattle.wy_types.specs.Signature.{Signature}
use Rattle.wy_rules.specs.GroundTypes.{GroundType, Int, Bool, Text, Nothing, Named, At, Own, run_instances, ground_methods, ground_reading}
use Rattle.wy_rules.specs.Reached.{IsReached}
use Rattle.wy_rules.specs.Resolved.{CoreKeeps}
use Rattle.wy_authority.specs.declared.rows.BodyRow.{BodyRow}
use Rattle.wy_authority.specs.declared.rows.InstanceRow.{InstanceRow}
use Rattle.wy_authority.specs.Authority.{body_set, authority_of}

-- how many atoms the program's grants have; they are those of the first numbers
abbrev pub granted_count : Program → ℕ
granted_count p = length (authority_of p).atoms

-- of an instance (or the program): each set is one of grants' atoms
pub record AtomsAreGranted (p : Program) (i : Instance) : Type 0 where
  pub ground : AreSets (granted_count p) i.ground
  pub bound : (set : List ℕ) → i.bound ≡ Some set → IsSet (granted_count p) set
  -- a declared effect at these
  pub effects : (effect : List ℕ) → IsSet (granted_count p) (body_set i.bound i.ground effect)

abbrev pub GroundAtomsAreGranted : Type 0
GroundAtomsAreGranted =
    (p : Program) → CoreKeeps p → (x : ℕ) (i : Instance) → slice_get (run_instances p) x ≡ Some i → AtomsAreGranted p i

-- the report names the atoms of grants
abbrev pub ReportedAtomsAreGranted : Type 0
ReportedAtomsAreGranted =
    (p : Program) → CoreKeeps p → (r : InstanceRow) → In r (authority_of p).rows → (b : BodyRow) → In b r.bodies →
    IsSet (granted_count p) b.set

------------------------------------------------------------
-- Types that an instance's scope reaches

-- a type whose atoms are below the number, and which is of no other instance
abbrev pub IsSeenIn : (x atoms : ℕ) → GroundType → Type 0
IsSeenIn x atoms Int = Unit {0}
IsSeenIn x atoms Bool = Unit {0}
IsSeenIn x atoms Text = Unit {0}
IsSeenIn x atoms Nothing = Unit {0}
IsSeenIn x atoms (Named d sets) = AreSets atoms sets
IsSeenIn x atoms (At d bound) = IsSet atoms bound
IsSeenIn x atoms (Own y l) = y ≡ x

-- a method that names such types, with an effect of such atoms
pub record SignatureSeenIn (x atoms : ℕ) (m : Signature GroundType) : Type 0 where
  pub params : (t : GroundType) → In t m.params → IsSeenIn x atoms t
  pub effect : IsSet atoms m.effect
  pub result : IsSeenIn x atoms m.result

-- so are all types that the scope of an instance (or of the program) reaches, as the instance reads types, and so are
-- their methods
abbrev pub ReachedTypesAreSeen : Type 0
ReachedTypesAreSeen =
    (p : Program) → CoreKeeps p → (x : ℕ) (i : Instance) (s : Scope) → slice_get (run_instances p) x ≡ Some i →
    (t : GroundType) → IsReached (ground_reading p x i) s t →
    IsSeenIn x (granted_count p) t ×
    ((m : Signature GroundType) → In m (ground_methods p t) → SignatureSeenIn x (granted_count p) m)
