-- What the own names of scopes are: parameters stand first, a name opens an atom for each abstract member of its type, and its type is
-- the one that it is declared with or its module is sealed at, of those atoms (docs/LANGUAGE.md, "Modules and lines").
use Rattle.std.specs.Prelude.{codes, ◌≡◌, ◌≤◌, ◌^◌, ℕ, ◌+◌, List, [], ◌∷◌, ◌++◌, map, Option, Some, None, true, false, length, slice_get, if◌then◌else◌}
use Rattle.std.specs.Option.{option_map}
use Rattle.wy_text.specs.Members.{In}
use Rattle.wy_effects.specs.EffSet.{IsSet}
use Rattle.wy_effects.specs.Bounds.{Bounds}
use Rattle.wy_types.specs.declared.types.TypeRef.{TypeRef}
use Rattle.wy_types.specs.declared.types.TypeRef.TheVariants.{Named, At}
use Rattle.wy_types.specs.declared.resolved.Origin.{Origin}
use Rattle.wy_types.specs.declared.resolved.Origin.TheVariants.{Parameter, Grant, Use, Instance, Import}
use Rattle.wy_types.specs.declared.resolved.OwnName.{OwnName}
use Rattle.wy_types.specs.declared.resolved.ScopeKind.{ScopeKind}
use Rattle.wy_types.specs.declared.resolved.ScopeKind.TheVariants.{Pure, Resource, Plain, Program as Main}
use Rattle.wy_types.specs.Program.{Program, Scope, Body}
use Rattle.wy_types.specs.Bounds.{type_bounds}
use Rattle.wy_types.specs.Vals.{literal_captures}
use Rattle.wy_types.specs.Fitting.{FitsType}
use Rattle.wy_types.specs.Ground.{members_of, abstract_names, single_sets}
use Rattle.wy_rules.specs.Acceptance.{is_parameter, parameters_among}

-- the members for which an own name opens atoms: those of its type, but for an import and for a parameter that is not bare
abbrev pub opens : Program → OwnName → Origin → List (List ℕ)
opens p n (Parameter true) = members_of p n.typ
opens p n (Parameter false) = []
opens p n Grant = members_of p n.typ
opens p n (Use m) = members_of p n.typ
opens p n (Instance m arguments) = members_of p n.typ
opens p n (Import m arguments bound) = []

-- the upper bounds of the members for which it opens atoms
abbrev pub opened_bounds : Program → OwnName → Origin → Bounds
opened_bounds p n (Parameter true) = type_bounds p n.typ
opened_bounds p n (Parameter false) = []
opened_bounds p n Grant = type_bounds p n.typ
opened_bounds p n (Use m) = type_bounds p n.typ
opened_bounds p n (Instance m arguments) = type_bounds p n.typ
opened_bounds p n (Import m arguments bound) = []

-- the bounds of members as those of the atoms from a number on
abbrev pub shifted_bounds : ℕ → Bounds → Bounds
shifted_bounds k bounds = map (option_map (map (λ m. k + m))) bounds

-- the bounds of the atoms from a number on that own names open, one name's after another's
abbrev pub names_bounds : Program → ℕ → List OwnName → Bounds
names_bounds p k [] = []
names_bounds p k (n ∷ ns) = shifted_bounds k (opened_bounds p n n.origin) ++ names_bounds p (k + length (opens p n n.origin)) ns

-- how many atoms own names open
abbrev pub opened_count : Program → List OwnName → ℕ
opened_count p [] = 0
opened_count p (n ∷ ns) = length (opens p n n.origin) + opened_count p ns

-- the own names from the first that is no parameter on
abbrev pub after_parameters : List OwnName → List OwnName
after_parameters [] = []
after_parameters (n ∷ ns) = if is_parameter n.origin then after_parameters ns else n ∷ ns

abbrev pub sealed_of : Option Scope → Option ℕ
sealed_of None = None
sealed_of (Some s) = s.ascribed

abbrev pub name_of : Option Scope → List ℕ
name_of None = []
name_of (Some s) = s.name

-- the declared type with the atoms from a number on for its abstract members
abbrev pub IsOpened : Program → ℕ → Option ℕ → TypeRef → Type 0
IsOpened p k None t = ⊥
IsOpened p k (Some d) t = t ≡ Named d (single_sets k (abstract_names (slice_get p.declarations d)))

-- the declared type at the bound
abbrev pub IsBounded : List ℕ → Option ℕ → TypeRef → Type 0
IsBounded bound None t = ⊥
IsBounded bound (Some d) t = t ≡ At d bound

-- an own name before which so many atoms are opened, and which is no parameter: a grant, a use by its module's name, an instance of a module,
-- each with the atoms that it opens; an import at its bound, which sees the atoms before it
abbrev pub HasItsType : Program → ℕ → OwnName → Origin → Type 0
HasItsType p k n (Parameter bare) = ⊥
HasItsType p k n Grant = (d : ℕ) × IsOpened p k (Some d) n.typ
HasItsType p k n (Use m) = (n.name ≡ name_of (slice_get p.scopes m)) × IsOpened p k (sealed_of (slice_get p.scopes m)) n.typ
HasItsType p k n (Instance m arguments) = IsOpened p k (sealed_of (slice_get p.scopes m)) n.typ
HasItsType p k n (Import m arguments bound) = IsSet k bound × IsBounded bound (sealed_of (slice_get p.scopes m)) n.typ

-- .. of own names one after the other
abbrev pub HaveTheirTypes : Program → ℕ → List OwnName → Type 0
HaveTheirTypes p k [] = Unit {0}
HaveTheirTypes p k (n ∷ ns) = HasItsType p k n n.origin × HaveTheirTypes p (k + length (opens p n n.origin)) ns

-- neither a pure module nor the program has parameters
abbrev pub MayHave : ScopeKind → List OwnName → Type 0
MayHave Pure parameters = parameters ≡ []
MayHave Resource parameters = Unit {0}
MayHave Plain parameters = Unit {0}
MayHave Main parameters = parameters ≡ []

-- the scope's own names: its parameters, whose types are of the parameters' atoms, and then the others; the bounds of the scope's atoms are
-- those of the members for which they are opened
pub record OwnNamesFit (p : Program) (s : Scope) : Type 0 where
  pub may_have : MayHave s.kind (parameters_among s.names)
  pub parameters : (n : OwnName) → In n (parameters_among s.names) → FitsType p (opened_count p (parameters_among s.names)) 0 n.typ
  pub others : HaveTheirTypes p (opened_count p (parameters_among s.names)) (after_parameters s.names)
  pub bounds : s.bounds ≡ names_bounds p 0 s.names

abbrev pub LinesAreTyped : Program → Type 0
LinesAreTyped p = (s : Scope) → In s p.scopes → OwnNamesFit p s

-- no own name has a space or a full stop in it: the instance of a used module is named with a space, those that a line brings with a full stop
abbrev pub IsPlainName : List ℕ → Type 0
IsPlainName name = (In 32 name → ⊥) × (In 46 name → ⊥)

abbrev pub HavePlainNames : Program → Type 0
HavePlainNames p = (s : Scope) → In s p.scopes → (n : OwnName) → In n s.names → IsPlainName n.name

abbrev pub IsMethodName : List ℕ → Type 0
IsMethodName name = (In 46 name → ⊥) × (name ≡ codes "init" → ⊥) × (name ≡ codes "run" → ⊥)

-- the words that a report has for what no name is given to are reserved, so no own name is the program's, and no method is called as what a scope starts
-- with; a method's name has no full stop, and literals have numbers that can be written out
pub record HasOrdinaryNames (p : Program) : Type 0 where
  pub own_names : (s : Scope) → In s p.scopes → (n : OwnName) → In n s.names → n.name ≡ codes "main" → ⊥
  pub methods : (s : Scope) → In s p.scopes → (b : Body) → In b s.bodies → IsMethodName b.signature.name
  pub literals : (s : Scope) → In s p.scopes → length s.literals ≤ 2 ^ 64

-- a name before a grant is a grant
abbrev pub GrantsStandFirst : List OwnName → Type 0
GrantsStandFirst [] = Unit {0}
GrantsStandFirst (n ∷ ns) = ((m : OwnName) → In m ns → m.origin ≡ Grant → n.origin ≡ Grant) × GrantsStandFirst ns

-- methods of a module see no variable but their parameters
abbrev pub ModulesCaptureNothing : Program → Type 0
ModulesCaptureNothing p = (s : Scope) → In s p.scopes → literal_captures (slice_get s.literals 0) ≡ []
