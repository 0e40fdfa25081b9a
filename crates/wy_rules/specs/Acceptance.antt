-- When a program is accepted: what the rules for modules and for lines ask, premise by premise, and that every module, every line
-- and the program's body meet them (docs/LANGUAGE.md, "Modules and lines").
use Rattle.std.specs.Prelude.{◌≡◌, ℕ, List, [], ◌∷◌, Option, Some, None, Bool as Truth, true, false, length, slice_get}
use Rattle.wy_text.specs.Members.{In}
use Rattle.wy_effects.specs.Bounds.{Bounds, IsUnder, Respects}
use Rattle.wy_types.specs.declared.types.TypeRef.{TypeRef}
use Rattle.wy_types.specs.declared.types.TypeRef.TheVariants.{Named, Own}
use Rattle.wy_types.specs.declared.resolved.Field.{Field}
use Rattle.wy_types.specs.declared.resolved.ScopeKind.{ScopeKind}
use Rattle.wy_types.specs.declared.resolved.ScopeKind.TheVariants.{Pure, Resource, Plain, Program as Main}
use Rattle.wy_types.specs.declared.resolved.Origin.{Origin}
use Rattle.wy_types.specs.declared.resolved.Origin.TheVariants.{Parameter, Grant, Use, Instance, Import}
use Rattle.wy_types.specs.declared.resolved.OwnName.{OwnName}
use Rattle.wy_types.specs.Program.{Program, Scope}
use Rattle.wy_types.specs.Types.{substituted, erased, is_plain, methods_of}
use Rattle.wy_types.specs.Subtyping.{IsAnnotatedSubtype, IsPlainSubtype}
use Rattle.wy_types.specs.Paths.{EffectsWithin, IsSafe}
use Rattle.wy_types.specs.Bounds.{bounds_of, declared_bounds, type_bounds}
use Rattle.wy_types.specs.Ground.{member_set, members_of, type_of, names_of, argument_sets, arguments_sets}
use Rattle.wy_rules.specs.Readings.{Reading, IsBelow, annotated_reading, plain_reading}
use Rattle.wy_rules.specs.Typing.{fields_of, ScopeHolds}

------------------------------------------------------------
-- Modules

-- plain modules are typed with no regard to effects
abbrev pub reading_of : Program → ℕ → Truth → Reading
reading_of p k true = plain_reading p k
reading_of p k false = annotated_reading p k

abbrev pub scope_reading : Program → ℕ → Scope → Reading
scope_reading p k s = reading_of p k (is_plain s.kind)

abbrev pub IsLine : Origin → Type 0
IsLine (Parameter bare) = ⊥
IsLine Grant = ⊥
IsLine (Use m) = ⊥
IsLine (Instance m arguments) = Unit {0}
IsLine (Import m arguments bound) = Unit {0}

-- M-Pure: a pure module has no `var` field and no line
pub record IsPure (s : Scope) : Type 0 where
  pub no_var : (f : Field) → In f (fields_of s 0) → f.mutable ≡ false
  pub no_line : (n : OwnName) → In n s.names → IsLine n.origin → ⊥

abbrev pub PureHolds : ScopeKind → Scope → Type 0
PureHolds Pure s = IsPure s
PureHolds Resource s = Unit {0}
PureHolds Plain s = Unit {0}
PureHolds Main s = Unit {0}

-- M-Ascribe, premise 1: the module's own type is a subtype of the type that it is sealed at, with what it defines
abbrev pub SealHolds : (y : Reading) → Scope → Option ℕ → Type 0
SealHolds y s None = Unit {0}
SealHolds y s (Some d) = IsBelow y (y.read (Own 0)) (y.read (Named d s.definitions))

-- M-Ascribe, premise 2: what an annotated module defines for the members of the type that it is sealed at respects their bounds
abbrev pub DefinitionsRespect : Program → ℕ → Scope → Option ℕ → Type 0
DefinitionsRespect p k s None = Unit {0}
DefinitionsRespect p k s (Some d) = Respects (declared_bounds p d) (bounds_of p k) s.definitions

abbrev pub MembersHold : Program → ℕ → Scope → Truth → Type 0
MembersHold p k s true = Unit {0}
MembersHold p k s false = DefinitionsRespect p k s s.ascribed

-- M-Ascribe
abbrev pub AscriptionHolds : Program → ℕ → Scope → Type 0
AscriptionHolds p k s = SealHolds (scope_reading p k s) s s.ascribed × MembersHold p k s (is_plain s.kind)

------------------------------------------------------------
-- Lines

abbrev pub IsOfKind : Program → ScopeKind → ℕ → Type 0
IsOfKind p kind m = (s : Scope) × (slice_get p.scopes m ≡ Some s) × (s.kind ≡ kind)

abbrev pub is_parameter : Origin → Truth
is_parameter (Parameter bare) = true
is_parameter Grant = false
is_parameter (Use m) = false
is_parameter (Instance m arguments) = false
is_parameter (Import m arguments bound) = false

-- the parameters stand first among a module's own names
abbrev pub parameters_until : Truth → OwnName → List OwnName → List OwnName
parameters_until true n rest = n ∷ rest
parameters_until false n rest = []

abbrev pub parameters_among : List OwnName → List OwnName
parameters_among [] = []
parameters_among (n ∷ ns) = parameters_until (is_parameter n.origin) n (parameters_among ns)

abbrev pub parameters_of : Program → ℕ → List OwnName
parameters_of p m = parameters_among (names_of (slice_get p.scopes m))

-- a parameter with the number of the own name that is its argument
pub record Handed : Type 0 where
  pub parameter : OwnName
  pub argument : ℕ

abbrev pub handed_to : List OwnName → List ℕ → List Handed
handed_to (n ∷ ns) (a ∷ arguments) = record { parameter = n; argument = a } ∷ handed_to ns arguments
handed_to ns arguments = []

-- the members that a bare parameter opens
abbrev pub opened : Program → OwnName → Origin → List (List ℕ)
opened p n (Parameter true) = members_of p n.typ
opened p n origin = []

-- .. and their bounds
abbrev pub opened_members : Program → OwnName → Origin → Bounds
opened_members p n (Parameter true) = type_bounds p n.typ
opened_members p n origin = []

-- a line in the scope of this number, whose own names these are
module _ (p : Program) (k : ℕ) (outer : List OwnName) where
  abbrev pub argument_type : Handed → TypeRef
  argument_type h = type_of (slice_get outer h.argument)

  -- M-Inst, premise 3: the argument's type has the members that the parameter opens
  abbrev pub HasMembers : Handed → Type 0
  HasMembers h = (member : List ℕ) → In member (opened p h.parameter h.parameter.origin) → (set : List ℕ) × (member_set p (argument_type h) member ≡ Some set)

  -- M-Inst, premise 4: it is a subtype of the parameter's type, in which a parameter's member is read as its argument's
  abbrev pub IsArgument : List (List ℕ) → Handed → Type 0
  IsArgument sets h = IsAnnotatedSubtype p k (argument_type h) (substituted sets h.parameter.typ)

  -- M-Inst, premise 5: the argument's members respect the bounds of those that the parameter opens
  abbrev pub RespectsBounds : Handed → Type 0
  RespectsBounds h = Respects (opened_members p h.parameter h.parameter.origin) (bounds_of p k) (argument_sets p outer h.parameter.origin h.parameter h.argument)

  -- I-Import, premises 1 to 3: its effects are within the bound; the bound is higher-order safe for it; without effects it is a subtype of the parameter's type
  abbrev pub EffectsBounded : List ℕ → Handed → Type 0
  EffectsBounded bound h = EffectsWithin TypeRef (methods_of p k) (IsUnder (bounds_of p k)) (argument_type h) true bound

  abbrev pub IsHigherOrderSafe : List ℕ → Handed → Type 0
  IsHigherOrderSafe bound h = IsSafe TypeRef (methods_of p k) (IsUnder (bounds_of p k)) (argument_type h) false bound

  abbrev pub IsPlainArgument : Handed → Type 0
  IsPlainArgument h = IsPlainSubtype p k (erased (argument_type h)) (erased h.parameter.typ)

  abbrev pub NumbersAgree : ℕ → List ℕ → Type 0
  NumbersAgree m arguments = length arguments ≡ length (parameters_of p m)

  abbrev pub AllHanded : (Handed → Type 0) → ℕ → List ℕ → Type 0
  AllHanded Holds m arguments = (h : Handed) → In h (handed_to (parameters_of p m) arguments) → Holds h

  -- M-Inst
  pub record InstanceHolds (m : ℕ) (arguments : List ℕ) : Type 0 where
    pub resource : IsOfKind p Resource m
    pub numbers : NumbersAgree m arguments
    pub members : AllHanded HasMembers m arguments
    pub types : AllHanded (IsArgument (arguments_sets p outer (names_of (slice_get p.scopes m)) arguments)) m arguments
    pub bounds : AllHanded RespectsBounds m arguments

  -- M-Import
  pub record ImportFits (m : ℕ) (arguments : List ℕ) : Type 0 where
    pub plain : IsOfKind p Plain m
    pub numbers : NumbersAgree m arguments

  -- the module has a plain derivation
  abbrev pub PlainHolds : ℕ → Type 0
  PlainHolds m = (s : Scope) × (slice_get p.scopes m ≡ Some s) × ScopeHolds (plain_reading p m) s

  -- I-Import
  pub record ImportHolds (m : ℕ) (arguments : List ℕ) (bound : List ℕ) : Type 0 where
    pub effects : AllHanded (EffectsBounded bound) m arguments
    pub safe : AllHanded (IsHigherOrderSafe bound) m arguments
    pub types : AllHanded IsPlainArgument m arguments
    pub module_holds : PlainHolds m

  -- what is asked of a line or use
  abbrev pub LineHolds : Origin → Type 0
  LineHolds (Parameter bare) = Unit {0}
  LineHolds Grant = Unit {0}
  LineHolds (Use m) = IsOfKind p Pure m
  LineHolds (Instance m arguments) = InstanceHolds m arguments
  LineHolds (Import m arguments bound) = ImportFits m arguments × ImportHolds m arguments bound

------------------------------------------------------------
-- Programs

-- the scope of a number: its bodies have derivations, and what its kind, its seal and its lines ask for holds
pub record ScopeAccepted (p : Program) (k : ℕ) (s : Scope) : Type 0 where
  pub pure : PureHolds s.kind s
  pub bodies : ScopeHolds (scope_reading p k s) s
  pub seal : AscriptionHolds p k s
  pub lines : (n : OwnName) → In n s.names → LineHolds p k s.names n.origin

-- every module and the program
pub record Accepted (p : Program) : Type 0 where
  pub scopes : (k : ℕ) (s : Scope) → slice_get p.scopes k ≡ Some s → ScopeAccepted p k s
