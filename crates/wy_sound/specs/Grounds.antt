-- The ground sets of the atoms of an instance, as sentences on its own names: what an atom of a grant, of a used module or an instance, and
-- of a bare parameter stands for; and that no visit ends early. (docs/LANGUAGE.md, "Start order and ground sets")
use Rattle.std.specs.Prelude.{◌≡◌, ℕ, ◌+◌, List, [], ◌++◌, Some, length, map, slice_get}
use Rattle.wy_text.specs.Members.{Within}
use Rattle.wy_types.specs.declared.types.TypeRef.{TypeRef}
use Rattle.wy_types.specs.declared.types.TypeRef.TheVariants.{Int, Bool, Text, Unit as Nothing, Named, At, Own}
use Rattle.wy_types.specs.declared.linked.Actual.{Actual}
use Rattle.wy_types.specs.declared.linked.Actual.TheVariants as actual
use Rattle.wy_types.specs.declared.linked.Instance.{Instance as Started}
use Rattle.wy_types.specs.declared.resolved.Origin.{Origin}
use Rattle.wy_types.specs.declared.resolved.Origin.TheVariants.{Parameter, Grant, Use, Instance, Import}
use Rattle.wy_types.specs.declared.resolved.OwnName.{OwnName}
use Rattle.wy_types.specs.Program.{Program, Scope}
use Rattle.wy_types.specs.Core.{NoCycle}
use Rattle.wy_types.specs.Ground.{Visited, names_of, definitions_of, arguments_sets, visit}
use Rattle.wy_rules.specs.Acceptance.{Accepted}
use Rattle.wy_rules.specs.GroundTypes.{run_instances}
use Rattle.wy_authority.specs.Ground.{start_list, ground_of}
use Rattle.wy_sound.specs.Programs.{IsResolved}

-- the sets that a type has for the abstract members of its declaration; those of an own name's type are the name's atoms
abbrev pub member_sets : TypeRef → List (List ℕ)
member_sets Int = []
member_sets Bool = []
member_sets Text = []
member_sets Nothing = []
member_sets (Named d sets) = sets
member_sets (At d bound) = []
member_sets (Own l) = []

module _ (p : Program) where
  -- what an own name stands for is this instance, one of this module
  pub record StandsFor (a : Actual) (y : Started) (m : ℕ) : Type 0 where
    pub number : ℕ
    pub is : a ≡ actual.Instance number
    pub there : slice_get (start_list p) number ≡ Some y
    pub of_module : y.scope ≡ m

  -- the ground sets of the name's atoms are the grounds, in the instance that it stands for, of what the module defines
  abbrev pub GroundIsDefined : List (List ℕ) → OwnName → Started → Type 0
  GroundIsDefined sets n y = map (ground_of sets) (member_sets n.typ) ≡ map (ground_of y.ground) (definitions_of (slice_get p.scopes y.scope))

  -- the first ground sets of a line's instance, those of its bare parameters' atoms, are the grounds, in the instance or program that has the
  -- line, of the members of the arguments' types
  abbrev pub GroundIsHanded : List (List ℕ) → List OwnName → List ℕ → Started → Type 0
  GroundIsHanded sets outer arguments y =
      (others : List (List ℕ)) × (y.ground ≡ map (ground_of sets) (arguments_sets p outer (names_of (slice_get p.scopes y.scope)) arguments) ++ others)

  -- one own name of an instance (or of the program) with these ground sets and own names, by where it comes from and what stands for it
  abbrev pub IsGround : List (List ℕ) → List OwnName → OwnName → Origin → Actual → Type 0
  IsGround sets outer n (Parameter bare) a = Unit {0}
  -- a grant's atom is itself
  IsGround sets outer n Grant a = map (ground_of sets) (member_sets n.typ) ≡ member_sets n.typ
  IsGround sets outer n (Use m) a = (y : Started) × StandsFor a y m × GroundIsDefined sets n y
  IsGround sets outer n (Instance m arguments) a = (y : Started) × StandsFor a y m × GroundIsDefined sets n y × GroundIsHanded sets outer arguments y
  IsGround sets outer n (Import m arguments bound) a =
      (y : Started) × StandsFor a y m × GroundIsHanded sets outer arguments y × (y.bound ≡ Some (ground_of sets bound))

-- each own name of each instance of an accepted program, and of the program, which is the last, stands for something, and its atoms for the ground of it
abbrev pub GroundSetsAre : Type 0
GroundSetsAre =
    (p : Program) → IsResolved p → Accepted p → (x : ℕ) (i : Started) (s : Scope) (k : ℕ) (n : OwnName) →
    slice_get (run_instances p) x ≡ Some i → slice_get p.scopes i.scope ≡ Some s → slice_get s.names k ≡ Some n →
    (a : Actual) × (slice_get i.arguments k ≡ Some a) × IsGround p i.ground s.names n n.origin a

-- where no line leads back, a visit of own names of a scope that may go through as many scopes as there are may go through all
abbrev pub VisitsEnd : Type 0
VisitsEnd =
    (p : Program) → NoCycle p → (k m : ℕ) (prefix : List ℕ) (names : List OwnName) (v : Visited) → Within names (names_of (slice_get p.scopes m)) →
    visit p (k + length p.scopes) (names_of (slice_get p.scopes m)) prefix names v ≡ visit p (length p.scopes) (names_of (slice_get p.scopes m)) prefix names v
