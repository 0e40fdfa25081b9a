-- What every core keeps: numbers in range, names that differ, and the forms of each kind of scope.
use Rattle.std.specs.Prelude.{◌≡◌, ℕ, ◌+◌, ◌<◌, ◌≤◌, ◌↔◌, List, [], ◌∷◌, ◌++◌, Option, Some, None, Bool as Truth, true, false, length, map, take, slice_get}
use Rattle.std.specs.List.{range_with_len}
use Rattle.wy_text.specs.Members.{In, Within, Apart}
use Rattle.wy_effects.specs.EffSet.{IsSet, AreSets}
use Rattle.wy_effects.specs.Bounds.{BoundsFit}
use Rattle.wy_types.specs.declared.types.TypeRef.{TypeRef}
use Rattle.wy_types.specs.declared.types.TypeRef.TheVariants.{Int, Bool, Text, Unit as Nothing, Named, At, Own}
use Rattle.wy_types.specs.declared.code.Variable.{Variable}
use Rattle.wy_types.specs.declared.code.Variable.TheVariants.{Parameter as Param, Local}
use Rattle.wy_types.specs.declared.code.Binding.{Binding}
use Rattle.wy_types.specs.declared.code.Binding.TheVariants as to
use Rattle.wy_types.specs.declared.code.TextOperator.{TextOperator}
use Rattle.wy_types.specs.declared.code.TextOperator.TheVariants.{Size, Part, Code, Byte, Show}
use Rattle.wy_types.specs.declared.resolved.TypeDecl.{TypeDecl}
use Rattle.wy_types.specs.declared.resolved.DefinedMember.{DefinedMember}
use Rattle.wy_types.specs.declared.resolved.ScopeKind.{ScopeKind}
use Rattle.wy_types.specs.declared.resolved.ScopeKind.TheVariants.{Pure, Resource, Plain as Unannotated, Program as Main}
use Rattle.wy_types.specs.declared.resolved.Origin.{Origin}
use Rattle.wy_types.specs.declared.resolved.Origin.TheVariants.{Parameter, Grant, Use, Instance, Import}
use Rattle.wy_types.specs.declared.resolved.OwnName.{OwnName}
use Rattle.wy_types.specs.declared.resolved.Literal.{Literal}
use Rattle.wy_types.specs.declared.resolved.Field.{Field}
use Rattle.wy_types.specs.Code.{Expr, Number, Quoted, Truth as TruthOf, Nothing as NothingOf, This, Name, Unary, Binary, TextCall, Call, New, Ascribe, Assign, Value, Plain, If, Values, none, more, Block, Last, Then, Val}
use Rattle.wy_types.specs.Program.{Program, Scope, Body, Start, Init, Run}
use Rattle.wy_types.specs.Signature.{Signature}
use Rattle.wy_types.specs.Types.{signature, is_plain, methods_of_owner}
use Rattle.wy_types.specs.Fitting.{FitsType, FitsSignature}
use Rattle.wy_types.specs.MemberCount.{member_count}
use Rattle.wy_types.specs.Primitive.{primitive_types, first_declared, most_types}
use Rattle.wy_types.specs.Vals.{block_vals, literal_captures, literal_fields, scope_vals, start_vals, value_count}

------------------------------------------------------------
-- Types

-- a declared type has a set for each abstract member; in a plain module it has none and stands at no bound
abbrev pub HasSets : Program → Truth → TypeRef → Type 0
HasSets p plain Int = Unit {0}
HasSets p plain Bool = Unit {0}
HasSets p plain Text = Unit {0}
HasSets p plain Nothing = Unit {0}
HasSets p true (Named d members) = members ≡ []
HasSets p false (Named d members) = length members ≡ member_count (slice_get p.declarations d)
HasSets p true (At d bound) = ⊥
HasSets p false (At d bound) = Unit {0}
HasSets p plain (Own l) = ⊥

-- a type as it is written in a scope: its numbers are in range, its atoms are the scope's, and it names no own type
abbrev pub IsWritten : Program → Scope → TypeRef → Type 0
IsWritten p s t = FitsType p (length s.atoms) 0 t × HasSets p (is_plain s.kind) t

abbrev pub AllWritten : Program → Scope → List TypeRef → Type 0
AllWritten p s ts = (t : TypeRef) → In t ts → IsWritten p s t

------------------------------------------------------------
-- Bodies

abbrev pub text_arity : TextOperator → ℕ
text_arity Size = 1
text_arity Part = 3
text_arity Code = 2
text_arity Byte = 1
text_arity Show = 1

-- there is a current object, where a body is a method
abbrev pub HasThis : Option ℕ → Type 0
HasThis None = ⊥
HasThis (Some l) = Unit {0}

-- it has a field of this number
abbrev pub HasField : Scope → Option ℕ → ℕ → Type 0
HasField s None i = ⊥
HasField s (Some l) i = i < length (literal_fields (slice_get s.literals l))

module _ (p : Program) (s : Scope) (owner : Option ℕ) where
  -- what a name stands for is there: a variable in sight, a field of the current object, an own name of the scope
  abbrev pub BindingFits : List Variable → Binding → Type 0
  BindingFits seen (to.Variable v) = In v seen
  BindingFits seen (to.Field i) = HasField s owner i
  BindingFits seen (to.Own k) = k < length s.names

  abbrev mutual
    pub ExprFits : List Variable → Expr → Type 0
    ExprFits seen (Number place n) = Unit {0}
    ExprFits seen (Quoted place bytes) = Unit {0}
    ExprFits seen (TruthOf place b) = Unit {0}
    ExprFits seen (NothingOf place) = Unit {0}
    ExprFits seen (This place) = HasThis owner
    ExprFits seen (Name place name) = BindingFits seen name
    ExprFits seen (Unary place op x) = ExprFits seen x
    ExprFits seen (Binary place op x y) = ExprFits seen x × ExprFits seen y
    ExprFits seen (TextCall place op xs) = (value_count xs ≡ text_arity op) × ValuesFit seen xs
    ExprFits seen (Call place x name xs) = ExprFits seen x × ValuesFit seen xs
    ExprFits seen (New place l xs) =
        (0 < l) × (l < length s.literals) × (value_count xs ≡ length (literal_fields (slice_get s.literals l))) ×
        Within (literal_captures (slice_get s.literals l)) seen × ValuesFit seen xs
    ExprFits seen (Ascribe place x t) = ValueFits seen x × IsWritten p s t
    ExprFits seen (Assign place name x) = BindingFits seen name × ValueFits seen x

    pub ValueFits : List Variable → Value → Type 0
    ValueFits seen (Plain x) = ExprFits seen x
    ValueFits seen (If place test first second) = ExprFits seen test × BlockFits seen first × BlockFits seen second

    pub ValuesFit : List Variable → Values → Type 0
    ValuesFit seen none = Unit {0}
    ValuesFit seen (more x xs) = ValueFits seen x × ValuesFit seen xs

    -- a `val` is in sight in the statements after it
    pub BlockFits : List Variable → Block → Type 0
    BlockFits seen (Last x) = ValueFits seen x
    BlockFits seen (Then x b) = ValueFits seen x × BlockFits seen b
    BlockFits seen (Val place n typ x b) = ((t : TypeRef) → typ ≡ Some t → IsWritten p s t) × ValueFits seen x × BlockFits (Local n ∷ seen) b

-- the parameters of the scope's body of a number
abbrev pub body_parameters : ℕ → Body → List Variable
body_parameters k b = map (λ i. Param k i) (range_with_len 0 (length b.signature.params))

-- a method sees what its literal captures and its own parameters
abbrev pub BodyFits : Program → Scope → ℕ → Body → Type 0
BodyFits p s k b =
    (b.owner < length s.literals) ×
    BlockFits p s (Some b.owner) (literal_captures (slice_get s.literals b.owner) ++ body_parameters k b) b.block

-- the scope's body of a number has a parameter of a number
abbrev pub HasParameter : Scope → ℕ → ℕ → Type 0
HasParameter s k i = (b : Body) × (slice_get s.bodies k ≡ Some b) × (i < length b.signature.params)

-- what a scope does at its start sees no variable and no object
abbrev pub StartFits : Program → Scope → Start → Type 0
StartFits p s (Init values) = (value_count values ≡ length (literal_fields (slice_get s.literals 0))) × ValuesFit p s None [] values
StartFits p s (Run block) = BlockFits p s None [] block

-- the numbers 0, 1, .. in some order, where they differ: those below how many they are
abbrev pub AreNumbered : List ℕ → Type 0
AreNumbered ns = (n : ℕ) → In n ns ↔ (n < length ns)

-- of `val` statements the methods of a literal capture those alone that stand before them, in the scope's start or in an earlier body
abbrev pub CapturesBefore : Scope → List ℕ → List Body → Type 0
CapturesBefore s before [] = Unit {0}
CapturesBefore s before (b ∷ bs) =
    ((n : ℕ) → In (Local n) (literal_captures (slice_get s.literals b.owner)) → In n before) × CapturesBefore s (before ++ block_vals b.block) bs

------------------------------------------------------------
-- Own names and lines

-- the modules that an own name's line or use leads to
abbrev pub origin_modules : Origin → List ℕ
origin_modules (Parameter bare) = []
origin_modules Grant = []
origin_modules (Use m) = m ∷ []
origin_modules (Instance m arguments) = m ∷ []
origin_modules (Import m arguments bound) = m ∷ []

abbrev pub names_modules : List OwnName → List ℕ
names_modules [] = []
names_modules (n ∷ ns) = origin_modules n.origin ++ names_modules ns

-- a line or use of the scope of one number leads to the module of another
abbrev pub LeadsTo : Program → ℕ → ℕ → Type 0
LeadsTo p k m = (s : Scope) × (slice_get p.scopes k ≡ Some s) × In m (names_modules s.names)

-- by way of these modules
abbrev pub LeadsBy : Program → ℕ → List ℕ → ℕ → Type 0
LeadsBy p k [] m = LeadsTo p k m
LeadsBy p k (j ∷ path) m = LeadsTo p k j × LeadsBy p j path m

abbrev pub NoCycle : Program → Type 0
NoCycle p = (k : ℕ) (path : List ℕ) → LeadsBy p k path k → ⊥

-- the declaration of a type that has a number there
abbrev pub IsPrimitive : TypeRef → Type 0
IsPrimitive Int = ⊥
IsPrimitive Bool = ⊥
IsPrimitive Text = ⊥
IsPrimitive Nothing = ⊥
IsPrimitive (Named d members) = d < first_declared
IsPrimitive (At d bound) = ⊥
IsPrimitive (Own l) = ⊥

-- an own name of a kind of scope: its arguments are earlier own names, and only resource modules, pure ones and the program have uses and lines
abbrev pub OriginFits : Program → Scope → ℕ → OwnName → Origin → Type 0
OriginFits p s k n (Parameter bare) = Unit {0}
OriginFits p s k n Grant = (s.kind ≡ Main) × IsPrimitive n.typ
OriginFits p s k n (Use m) = (is_plain s.kind ≡ false) × (m + 1 < length p.scopes)
OriginFits p s k n (Instance m arguments) = (is_plain s.kind ≡ false) × (m + 1 < length p.scopes) × ((a : ℕ) → In a arguments → a < k)
OriginFits p s k n (Import m arguments bound) = (is_plain s.kind ≡ false) × (m + 1 < length p.scopes) × ((a : ℕ) → In a arguments → a < k) × IsSet (length s.atoms) bound

-- how many of some own names are grants, and how many are parameters
abbrev pub one_grant : Origin → ℕ
one_grant (Parameter bare) = 0
one_grant Grant = 1
one_grant (Use m) = 0
one_grant (Instance m arguments) = 0
one_grant (Import m arguments bound) = 0

abbrev pub one_parameter : Origin → ℕ
one_parameter (Parameter bare) = 1
one_parameter Grant = 0
one_parameter (Use m) = 0
one_parameter (Instance m arguments) = 0
one_parameter (Import m arguments bound) = 0

abbrev pub origins_count : (Origin → ℕ) → List OwnName → ℕ
origins_count one [] = 0
origins_count one (n ∷ ns) = one n.origin + origins_count one ns

------------------------------------------------------------
-- Scopes

abbrev pub IsAscribed : Program → Scope → ScopeKind → Option ℕ → Type 0
IsAscribed p s Main None = s.definitions ≡ []
IsAscribed p s Main (Some d) = ⊥
IsAscribed p s Unannotated None = ⊥
IsAscribed p s Unannotated (Some d) = (d < length p.declarations) × (s.definitions ≡ [])
IsAscribed p s Pure None = ⊥
IsAscribed p s Pure (Some d) = (d < length p.declarations) × (length s.definitions ≡ member_count (slice_get p.declarations d))
IsAscribed p s Resource None = ⊥
IsAscribed p s Resource (Some d) = (d < length p.declarations) × (length s.definitions ≡ member_count (slice_get p.declarations d))

-- what a scope starts with is that of its kind
abbrev pub StartIs : ScopeKind → Start → Type 0
StartIs Pure (Init values) = Unit {0}
StartIs Pure (Run block) = ⊥
StartIs Resource (Init values) = Unit {0}
StartIs Resource (Run block) = ⊥
StartIs Unannotated (Init values) = Unit {0}
StartIs Unannotated (Run block) = ⊥
StartIs Main (Init values) = ⊥
StartIs Main (Run block) = Unit {0}

-- in a plain module no body has an effect
abbrev pub BodiesHaveNoEffect : ScopeKind → List ℕ → List Body → Type 0
BodiesHaveNoEffect Pure effect bodies = Unit {0}
BodiesHaveNoEffect Resource effect bodies = Unit {0}
BodiesHaveNoEffect Main effect bodies = Unit {0}
BodiesHaveNoEffect Unannotated effect bodies = (effect ≡ []) × ((b : Body) → In b bodies → b.signature.effect ≡ [])

pub record ScopeFits (p : Program) (s : Scope) : Type 0 where
  pub ascribed : IsAscribed p s s.kind s.ascribed
  pub definitions : AreSets (length s.atoms) s.definitions
  pub bounds : BoundsFit (length s.atoms) s.bounds
  pub names : (k : ℕ) (n : OwnName) → slice_get s.names k ≡ Some n → IsWritten p s n.typ × OriginFits p s k n n.origin
  pub starts : StartIs s.kind s.start × StartFits p s s.start × IsSet (length s.atoms) s.start_effect
  pub bodies : (k : ℕ) (b : Body) → slice_get s.bodies k ≡ Some b → BodyFits p s k b
  pub written : (b : Body) → In b s.bodies → AllWritten p s (b.signature.params ++ b.signature.result ∷ []) × IsSet (length s.atoms) b.signature.effect
  pub fields : (l : Literal) → In l s.literals → AllWritten p s (map (λ (f : Field). f.typ) l.fields)
  pub no_effect : BodiesHaveNoEffect s.kind s.start_effect s.bodies
  pub own_literal : 0 < length s.literals
  -- the program's own body is its start, so none is a method of its own object
  pub no_own_body : s.kind ≡ Main → methods_of_owner 0 s.bodies ≡ []
  -- the `val`s are numbered from 0 on
  pub vals : Apart (scope_vals s)
  pub numbered : AreNumbered (scope_vals s)
  pub captured : CapturesBefore s (start_vals s.start) s.bodies
  pub captured_parameters : (l : Literal) → In l s.literals → (k i : ℕ) → In (Param k i) l.captures → HasParameter s k i
  -- names that differ
  pub own_names : Apart (map (λ (n : OwnName). n.name) s.names)
  pub field_names : (l : Literal) → In l s.literals → Apart (map (λ (f : Field). f.name) l.fields)
  pub method_names : (l : ℕ) → Apart (map (λ (m : Signature TypeRef). m.name) (methods_of_owner l s.bodies))
  -- counts within their limits
  pub atoms : length s.atoms ≤ 512
  pub few_fields : (l : Literal) → In l s.literals → length l.fields ≤ 128
  pub few_methods : (l : ℕ) → length (methods_of_owner l s.bodies) ≤ 128
  pub few_parameters : (b : Body) → In b s.bodies → length b.signature.params ≤ 16
  pub few_grants : origins_count one_grant s.names ≤ 64
  pub few_module_parameters : origins_count one_parameter s.names ≤ 16

pub record DeclarationFits (p : Program) (d : TypeDecl) : Type 0 where
  pub written : (m : Signature TypeRef) → In m (map signature d.methods) → FitsSignature p (length d.members) 0 m × ((t : TypeRef) → In t (m.params ++ m.result ∷ []) → HasSets p false t)
  pub defined : (m : DefinedMember) → In m d.defined → IsSet (length d.members) m.effects
  pub bounds : BoundsFit (length d.members) d.bounds
  pub member_names : Apart (d.members ++ map (λ (m : DefinedMember). m.name) d.defined)
  pub method_names : Apart (map (λ (m : Signature TypeRef). m.name) (map signature d.methods))
  pub few_members : length d.members ≤ 512
  pub few_methods : length d.methods ≤ 128
  pub few_parameters : (m : Signature TypeRef) → In m (map signature d.methods) → length m.params ≤ 16

-- the modules and then the program, which is the last scope and the only one of its kind
abbrev pub ProgramIsLast : List Scope → Type 0
ProgramIsLast [] = ⊥
ProgramIsLast (s ∷ []) = s.kind ≡ Main
ProgramIsLast (s ∷ t ∷ rest) = (s.kind ≡ Main → ⊥) × ProgramIsLast (t ∷ rest)

-- the names of modules; the program's is a reserved word
abbrev pub module_names : List Scope → List (List ℕ)
module_names [] = []
module_names (s ∷ []) = []
module_names (s ∷ t ∷ rest) = s.name ∷ module_names (t ∷ rest)

pub record IsCore (p : Program) : Type 0 where
  pub primitives : take first_declared p.declarations ≡ primitive_types
  pub declarations : (d : TypeDecl) → In d p.declarations → DeclarationFits p d
  pub scopes : (s : Scope) → In s p.scopes → ScopeFits p s
  pub program : ProgramIsLast p.scopes
  pub no_cycle : NoCycle p
  pub type_names : Apart (map (λ (d : TypeDecl). d.name) p.declarations)
  pub modules : Apart (module_names p.scopes)
  pub few_types : length p.declarations ≤ most_types
  pub few_scopes : length p.scopes ≤ 257
