-- What a certificate has to keep to prove a program, test by test (docs/LANGUAGE.md, "Certificates").
use Rattle.std.specs.Prelude.{◌≡◌, ◌↔◌, ℕ, ◌+◌, ◌<◌, List, [], ◌∷◌, ◌++◌, Option, Some, None, Bool as Truth, true, false, length, map, slice_get, nat_eq, nat_lt, not, if◌then◌else◌}
use Rattle.wy_text.specs.Members.{In, Within}
use Rattle.wy_effects.specs.EffSet.{IsSet, AreSets}
use Rattle.wy_effects.specs.Bounds.{IsWithin}
use Rattle.wy_effects.specs.Widened.{includes, widened_set}
use Rattle.wy_types.specs.declared.types.TypeRef.{TypeRef}
use Rattle.wy_types.specs.declared.types.TypeRef.TheVariants.{Int, Bool, Text, Unit as Nothing, Named, At, Own}
use Rattle.wy_types.specs.declared.resolved.ScopeKind.{ScopeKind}
use Rattle.wy_types.specs.declared.resolved.ScopeKind.TheVariants.{Pure, Resource, Plain, Program as Main}
use Rattle.wy_types.specs.declared.resolved.Origin.{Origin}
use Rattle.wy_types.specs.declared.resolved.Origin.TheVariants.{Parameter, Grant, Use, Instance, Import}
use Rattle.wy_types.specs.declared.resolved.OwnName.{OwnName}
use Rattle.wy_types.specs.Program.{Program, Scope}
use Rattle.wy_types.specs.Types.{IsObject, is_plain, substituted, annotated, erased, methods_of}
use Rattle.wy_types.specs.Bounds.{bounds_of}
use Rattle.wy_types.specs.Subtyping.{IsClosed, AnyEffect}
use Rattle.wy_types.specs.MemberCount.{member_count}
use Rattle.wy_types.specs.Core.{IsCore}
use Rattle.wy_types.specs.Vals.{scope_vals}
use Rattle.wy_types.specs.Ground.{names_of, arguments_sets}
use Rattle.wy_rules.specs.PlainMethods.{erased_methods}
use Rattle.wy_rules.specs.Readings.{plain_reading, annotated_reading}
use Rattle.wy_rules.specs.Acceptance.{Accepted, PureHolds, MembersHold, IsOfKind, NumbersAgree, HasMembers, RespectsBounds, AllHanded, argument_type, ImportFits, scope_reading}
use Rattle.wy_rules.specs.Canonical.{same_type, both, canonical_scope, locals_of}
use Rattle.wy_rules.specs.Nodes.{scope_nodes}
use Rattle.wy_rules.specs.Failing.{AllPass}
use Rattle.wy_rules.specs.Reached.{EachReached}
use Rattle.wy_cert.specs.declared.certificate.CertPair.{CertPair}
use Rattle.wy_cert.specs.declared.certificate.CertScope.{CertScope}
use Rattle.wy_proving.specs.Certified.{types_of, Pair, annotated_pairs, plain_pairs, has_pair, named_types}
use Rattle.wy_proving.specs.Steps.{scope_steps}
use Rattle.wy_proving.specs.Reading.{Lists, SaySteps, AreDerived, Bodies, bodies_stand, bodies_fail, read_scope}

-- each element of a list has the property
abbrev pub AllStand : {X : Type 0} → (X → Type 0) → List X → Type 0
AllStand {X} P xs = (x : X) → In x xs → P x

------------------------------------------------------------
-- C-Types: the types that are listed can stand in the scope

-- how many sets the declared type of a number has: one for each abstract member, and none in a plain scope
abbrev pub sets_of : Program → ScopeKind → ℕ → ℕ
sets_of p Pure d = member_count (slice_get p.declarations d)
sets_of p Resource d = member_count (slice_get p.declarations d)
sets_of p Plain d = 0
sets_of p Main d = member_count (slice_get p.declarations d)

-- in a plain scope sets are empty
abbrev pub IsEmptyIn : ScopeKind → List ℕ → Type 0
IsEmptyIn Pure e = Unit {0}
IsEmptyIn Resource e = Unit {0}
IsEmptyIn Plain e = e ≡ []
IsEmptyIn Main e = Unit {0}

-- the program has no module of its own
abbrev pub IsOwn : ScopeKind → ℕ → Type 0
IsOwn Pure l = Unit {0}
IsOwn Resource l = Unit {0}
IsOwn Plain l = Unit {0}
IsOwn Main l = 0 < l

-- numbers are in range, and sets ascend and are of the scope's atoms
abbrev pub TypeStands : Program → Scope → TypeRef → Type 0
TypeStands p s Int = Unit {0}
TypeStands p s Bool = Unit {0}
TypeStands p s Text = Unit {0}
TypeStands p s Nothing = Unit {0}
TypeStands p s (Named d es) = (d < length p.declarations) × (length es ≡ sets_of p s.kind d) × AreSets (length s.atoms) es
TypeStands p s (At d e) = (d < length p.declarations) × IsSet (length s.atoms) e × IsEmptyIn s.kind e
TypeStands p s (Own l) = (l < length s.literals) × IsOwn s.kind l

------------------------------------------------------------
-- C-Lines: the rules of a scope but for those of its bodies

-- M-Pure, M-Ascribe, a use, M-Inst, M-Import and I-Import
pub data LineRule : Type 0 where
  purity : LineRule
  ascription : ℕ → LineRule
  use_of : ℕ → LineRule
  instance_of : ℕ → List ℕ → LineRule
  import_of : ℕ → List ℕ → LineRule
  bound_of : ℕ → List ℕ → List ℕ → LineRule

-- .. of a module of a kind
abbrev pub kind_rules : ScopeKind → List LineRule
kind_rules Pure = purity ∷ []
kind_rules Resource = []
kind_rules Plain = []
kind_rules Main = []

-- .. of one that is sealed at a type
abbrev pub ascription_rules : Option ℕ → List LineRule
ascription_rules None = []
ascription_rules (Some d) = ascription d ∷ []

-- .. of an own name: a use, a line, or none
abbrev pub line_rules : Origin → List LineRule
line_rules (Parameter bare) = []
line_rules Grant = []
line_rules (Use m) = use_of m ∷ []
line_rules (Instance m arguments) = instance_of m arguments ∷ []
line_rules (Import m arguments bound) = import_of m arguments ∷ bound_of m arguments bound ∷ []

-- .. of own names, in their order
abbrev pub names_rules : List OwnName → List LineRule
names_rules [] = []
names_rules (n ∷ ns) = line_rules n.origin ++ names_rules ns

-- the rules of the scope in their order, by which they are numbered
abbrev pub scope_rules : Scope → List LineRule
scope_rules s = kind_rules s.kind ++ (ascription_rules s.ascribed ++ names_rules s.names)

------------------------------------------------------------
-- C-Nodes: which sets a T-Sub may give

-- atoms from a number on and below another, in ascending order
abbrev pub ascends : ℕ → ℕ → List ℕ → Truth
ascends from n [] = true
ascends from n (a ∷ e) = both (not (nat_lt a from)) (both (nat_lt a n) (ascends (a + 1) n e))

-- no atoms
abbrev pub is_empty : List ℕ → Truth
is_empty [] = true
is_empty (a ∷ e) = false

-- the scope of a number in a program, and what a certificate says of it
module _ (p : Program) (k : ℕ) (s : Scope) (c : CertScope) where
  -- C-Types
  abbrev pub TypesHold : Type 0
  TypesHold = AllStand (TypeStands p s) (types_of c)

  ------------------------------------------------------------
  -- C-Pairs and C-Plain: each pair names types, and is closed in its list

  -- the numbers of a pair name types that have the property
  abbrev pub PairIs : (Pair → Type 0) → CertPair → Type 0
  PairIs P q = (a : TypeRef) × (b : TypeRef) × (slice_get (types_of c) q.left ≡ Some a) × (slice_get (types_of c) q.right ≡ Some b) × P (a, b)

  -- an annotated pair is closed in the list of these
  abbrev pub PairStands : CertPair → Type 0
  PairStands q = PairIs (IsClosed TypeRef (methods_of p k) IsObject (IsWithin (bounds_of p k)) (annotated_pairs c)) q

  -- a plain pair is closed in the list of these, compared by erasure
  abbrev pub PlainStands : CertPair → Type 0
  PlainStands q = PairIs (λ v. IsClosed TypeRef (erased_methods p k) IsObject AnyEffect (plain_pairs c) (erased v.0, erased v.1)) q

  -- C-Pairs
  abbrev pub PairsHold : Type 0
  PairsHold = AllStand PairStands c.pairs

  -- C-Plain
  abbrev pub PlainPairsHold : Type 0
  PlainPairsHold = AllStand PlainStands c.plain

  ------------------------------------------------------------
  -- C-Lines: the rules hold, each subtyping that they ask being a pair of a list

  -- the pair is an annotated one
  abbrev pub IsListed : TypeRef → TypeRef → Type 0
  IsListed a b = In {X = Pair} (a, b) (annotated_pairs c)

  -- .. a plain one, by erasure
  abbrev pub IsListedPlain : TypeRef → TypeRef → Type 0
  IsListedPlain a b = In {X = Pair} (erased a, erased b) (plain_pairs c)

  -- .. by the kind of the scope
  abbrev pub IsListedIn : Truth → TypeRef → TypeRef → Type 0
  IsListedIn true a b = IsListedPlain a b
  IsListedIn false a b = IsListed a b

  -- M-Inst, premise 4
  abbrev pub ArgumentsListed : ℕ → List ℕ → Type 0
  ArgumentsListed m arguments =
      AllHanded p k s.names (λ h. IsListed (argument_type p k s.names h) (substituted (arguments_sets p s.names (names_of (slice_get p.scopes m)) arguments) h.parameter.typ)) m arguments

  -- I-Import, premises 1 and 2: by the law of annotation they are one subtyping
  abbrev pub AnnotationsListed : ℕ → List ℕ → List ℕ → Type 0
  AnnotationsListed m arguments bound = AllHanded p k s.names (λ h. IsListed (argument_type p k s.names h) (annotated bound (erased (argument_type p k s.names h)))) m arguments

  -- I-Import, premise 3
  abbrev pub ErasuresListed : ℕ → List ℕ → Type 0
  ErasuresListed m arguments = AllHanded p k s.names (λ h. IsListedPlain (argument_type p k s.names h) h.parameter.typ) m arguments

  -- what each rule asks, premise by premise; the plain derivation of an imported module is for that module's own part
  abbrev pub RuleStands : LineRule → Type 0
  RuleStands purity = PureHolds s.kind s
  RuleStands (ascription d) = IsListedIn (is_plain s.kind) (Own 0) (Named d s.definitions) × MembersHold p k s (is_plain s.kind)
  RuleStands (use_of m) = IsOfKind p Pure m
  RuleStands (instance_of m arguments) =
      IsOfKind p Resource m × NumbersAgree p k s.names m arguments × AllHanded p k s.names (HasMembers p k s.names) m arguments × ArgumentsListed m arguments ×
      AllHanded p k s.names (RespectsBounds p k s.names) m arguments
  RuleStands (import_of m arguments) = ImportFits p k s.names m arguments
  RuleStands (bound_of m arguments bound) = AnnotationsListed m arguments bound × ErasuresListed m arguments

  -- C-Lines
  abbrev pub LinesHold : Type 0
  LinesHold = AllStand RuleStands (scope_rules s)

  ------------------------------------------------------------
  -- C-Nodes: the nodes are those of derivations of the scope's bodies

  -- what is listed, as nodes of an annotated scope are read
  abbrev pub annotated_lists : Lists TypeRef
  annotated_lists = record {
    named = slice_get (types_of c);
    listed = has_pair (annotated_pairs c);
    stands = ascends 0 (length s.atoms);
    includes = includes;
    allows = λ e f. includes e (widened_set (bounds_of p k) f);
  }

  -- .. of a plain module, where no set is looked at but that of a T-Sub, which is empty
  abbrev pub plain_lists : Lists TypeRef
  plain_lists = record {
    named = slice_get (types_of c);
    listed = λ a b. has_pair (plain_pairs c) (erased a) (erased b);
    stands = is_empty;
    includes = λ e f. true;
    allows = λ e f. true;
  }

  -- each test of what is listed says what it is to say
  pub record ListsSay : Type 0 where
    pub pair : (a b : TypeRef) → (annotated_lists.listed a b ≡ true) ↔ IsListed a b
    pub bare_pair : (a b : TypeRef) → (plain_lists.listed a b ≡ true) ↔ IsListedPlain a b
    pub set : (e : List ℕ) → (annotated_lists.stands e ≡ true) ↔ IsSet (length s.atoms) e
    pub no_set : (e : List ℕ) → (plain_lists.stands e ≡ true) ↔ (e ≡ [])
    pub inclusion : (e f : List ℕ) → (annotated_lists.includes e f ≡ true) ↔ Within e f
    pub allowance : (e f : List ℕ) → (annotated_lists.allows e f ≡ true) ↔ IsWithin (bounds_of p k) e f

  -- the nodes are those of derivations over these types of the `val`s, by the kind of the scope
  abbrev pub AreDerivedIn : Truth → List TypeRef → Type 0
  AreDerivedIn true locals = AreDerived (plain_reading p k) plain_lists s locals c.nodes
  AreDerivedIn false locals = AreDerived (annotated_reading p k) annotated_lists s locals c.nodes

  -- C-Nodes: there is a number for each `val`, which names its type, and the nodes are those of derivations over these
  pub record NodesHold : Type 0 where
    pub number : length c.locals ≡ length (scope_vals s)
    pub locals : List TypeRef
    pub named : named_types (types_of c) c.locals ≡ Some locals
    pub derived : AreDerivedIn (is_plain s.kind) locals

  -- the nodes are those of what is written for each form over these types of its `val`s, T-Sub only where the node above asks for another type
  abbrev pub AreWrittenIn : Truth → List TypeRef → Type 0
  AreWrittenIn true locals = SaySteps plain_lists c.nodes (scope_steps (plain_reading p k) s (canonical_scope (plain_reading p k) same_type s locals)) []
  AreWrittenIn false locals = SaySteps annotated_lists c.nodes (scope_steps (annotated_reading p k) s (canonical_scope (annotated_reading p k) same_type s locals)) []

  -- .. and its numbers name these types
  pub record IsWrittenOver (locals : List TypeRef) : Type 0 where
    pub named : named_types (types_of c) c.locals ≡ Some locals
    pub written : AreWrittenIn (is_plain s.kind) locals

  -- what is said of the scope keeps all tests
  pub record ScopeProof : Type 0 where
    pub types : TypesHold
    pub pairs : PairsHold
    pub plain : PlainPairsHold
    pub lines : LinesHold
    pub nodes : NodesHold

  ------------------------------------------------------------
  -- How far the nodes are read

  -- over these types of the `val`s, by the kind of the scope
  abbrev pub read_in : Truth → List TypeRef → Bodies
  read_in true locals = read_scope (plain_reading p k) same_type plain_lists s locals c.nodes
  read_in false locals = read_scope (annotated_reading p k) same_type annotated_lists s locals c.nodes

  -- with no type for each `val` the first node fails
  abbrev pub read_over : Option (List TypeRef) → Bodies
  read_over None = bodies_fail 0
  read_over (Some locals) = read_in (is_plain s.kind) locals

  -- .. so that it does where there are too many numbers of `val`s or too few
  abbrev pub nodes_read : Bodies
  nodes_read = if nat_eq (length c.locals) (length (scope_vals s)) then read_over (named_types (types_of c) c.locals) else bodies_fail 0

-- C-Scopes: there is one part for each scope
abbrev pub ScopesHold : Program → List CertScope → Type 0
ScopesHold p cert = length cert ≡ length p.scopes

-- the scope of a number keeps the tests, where it is there and something is said of it
abbrev pub ProvesScope : Program → List CertScope → ℕ → Type 0
ProvesScope p cert k = (s : Scope) (c : CertScope) → slice_get p.scopes k ≡ Some s → slice_get cert k ≡ Some c → ScopeProof p k s c

-- a certificate that proves a program
pub record IsProof (p : Program) (cert : List CertScope) : Type 0 where
  pub number : ScopesHold p cert
  pub scopes : (k : ℕ) → ProvesScope p cert k

------------------------------------------------------------
-- Laws

-- what is proved by a certificate is accepted
abbrev pub ProvedIsAccepted : Type 0
ProvedIsAccepted = (p : Program) (cert : List CertScope) → IsCore p → IsProof p cert → Accepted p

-- an accepted program has a certificate that proves it
abbrev pub AcceptedHasCertificate : Type 0
AcceptedHasCertificate = (p : Program) → IsCore p → Accepted p → (cert : List CertScope) × IsProof p cert

-- the nodes are those of the canonical derivation: of what is written over the types of its `val`s that are found one after the other
abbrev pub IsCanonical : Program → ℕ → Scope → CertScope → Type 0
IsCanonical p k s c = (types : List TypeRef) × (map (scope_reading p k s).read types ≡ locals_of p k s) × IsWrittenOver p k s c types

-- it has one in which the nodes of each scope are so
abbrev pub AcceptedHasCanonicalCertificate : Type 0
AcceptedHasCanonicalCertificate =
    (p : Program) → IsCore p → Accepted p →
    (cert : List CertScope) × IsProof p cert × ((k : ℕ) (s : Scope) (c : CertScope) → slice_get p.scopes k ≡ Some s → slice_get cert k ≡ Some c → IsCanonical p k s c)

-- the scope of a number passes over these types of its `val`s, one for each, and they can stand
pub record AreTypesOfVals (p : Program) (k : ℕ) (s : Scope) (types : List TypeRef) : Type 0 where
  pub nodes : AllPass p k s (map (scope_reading p k s).read types) (scope_nodes s)
  pub size : length types ≡ length (scope_vals s)
  pub stand : AllStand (TypeStands p s) types

-- .. and one in which they are those of what is written over given types of its `val`s, a list of them for each scope
abbrev pub AcceptedHasWrittenCertificate : Type 0
AcceptedHasWrittenCertificate =
    (p : Program) (lists : List (List TypeRef)) → IsCore p → Accepted p →
    ((k : ℕ) (s : Scope) → slice_get p.scopes k ≡ Some s → (types : List TypeRef) × (slice_get lists k ≡ Some types) × AreTypesOfVals p k s types) →
    (cert : List CertScope) × IsProof p cert ×
    ((k : ℕ) (s : Scope) (c : CertScope) (types : List TypeRef) → slice_get p.scopes k ≡ Some s → slice_get cert k ≡ Some c → slice_get lists k ≡ Some types → IsWrittenOver p k s c types)

-- in a scope of a core the tests by which nodes are read say which pairs are listed, which sets can stand, and which include or allow which
abbrev pub ListsAreExact : Type 0
ListsAreExact = (p : Program) (k : ℕ) (s : Scope) (c : CertScope) → IsCore p → slice_get p.scopes k ≡ Some s → ListsSay p k s c

-- where the tests before it hold, C-Nodes holds exactly where the nodes are read to the end
abbrev pub NodesAreRead : Type 0
NodesAreRead =
    (p : Program) (k : ℕ) (s : Scope) (c : CertScope) → IsCore p → slice_get p.scopes k ≡ Some s → PairsHold p k s c → PlainPairsHold p k s c →
    ((at : ℕ) × (nodes_read p k s c ≡ bodies_stand at [])) ↔ NodesHold p k s c

-- each type that a scope of a core reaches can stand, and with it all types of its canonical derivation
abbrev pub ReachedTypesStand : Type 0
ReachedTypesStand = (p : Program) (k : ℕ) (s : Scope) → IsCore p → slice_get p.scopes k ≡ Some s → EachReached (TypeStands p s) p k s (is_plain s.kind)
