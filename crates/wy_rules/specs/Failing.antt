-- The first failing node: the first in the list that has no derivation, an `if` at the type that its place expects. Its premise is the
-- first false one, its parts being at their least types (docs/LANGUAGE.md, "First failing node").
use Rattle.std.specs.Prelude.{◌≡◌, ℕ, zero, suc, ◌+◌, ◌<◌, ◌≤◌, List, [], ◌∷◌, ◌⊎◌, Option, Some, None, map, take, slice_get, slice_index_or, length, true, false}
use Rattle.wy_text.specs.declared.fault.AtomName.{AtomName}
use Rattle.wy_text.specs.declared.fault.Fault.{Fault}
use Rattle.wy_text.specs.Members.{In}
use Rattle.wy_effects.specs.EffSet.{replace}
use Rattle.wy_effects.specs.Bounds.{Bounds, IsUnder, IsWithin, IsLeastOutside, IsLeastMissing}
use Rattle.wy_types.specs.declared.types.TypeRef.{TypeRef}
use Rattle.wy_types.specs.declared.types.TypeRef.TheVariants.{Bool, Unit as Nothing}
use Rattle.wy_types.specs.declared.code.Binding.{Binding}
use Rattle.wy_types.specs.declared.resolved.Field.{Field}
use Rattle.wy_types.specs.declared.resolved.OwnName.{OwnName}
use Rattle.wy_types.specs.declared.resolved.ScopeKind.TheVariants as kind
use Rattle.wy_types.specs.Code.{Expr, Call, New, Ascribe, Assign, Value, Plain, If, Values, none, more, Block}
use Rattle.wy_types.specs.Program.{Program, Scope}
use Rattle.wy_types.specs.Signature.{Signature, find_method}
use Rattle.wy_types.specs.Types.{is_plain, methods_of}
use Rattle.wy_types.specs.Bounds.{bounds_of, declared_bounds}
use Rattle.wy_types.specs.Paths.{IsEffect, Reaches}
use Rattle.wy_types.specs.Vals.{value_count}
use Rattle.wy_types.specs.Ground.{names_of, argument_sets, arguments_sets}
use Rattle.wy_rules.specs.Readings.{Reading, IsBelow}
use Rattle.wy_rules.specs.Operators.{Row, Operation, operation_of}
use Rattle.wy_rules.specs.Typing.{field_types, var_field, Has, HasAt, HasSome, BlockHas, BlockHasAt, AllHave, AllHaveAt}
use Rattle.wy_rules.specs.Acceptance.{Handed, opened_members, argument_type, handed_to, parameters_of, scope_reading, IsOfKind, NumbersAgree, HasMembers, IsArgument, RespectsBounds, EffectsBounded, IsHigherOrderSafe, IsPlainArgument, AllHanded, PlainHolds, SealHolds, AscriptionHolds, InstanceHolds, ImportFits, ImportHolds}
use Rattle.wy_rules.specs.Nodes.{Spot, nothing, written, argument, Subject, part, statement, val, body, init, impure, seal, use_line, instance_line, import_line, bound_line, Node, scope_nodes, lines_nodes}

-- the first premise of several that is false, by its number from k on
abbrev pub FirstFalse : ℕ → Type 0 → Type 0 → ℕ → Type 0
FirstFalse k holds later premise = ((holds → ⊥) × (premise ≡ k)) ⊎ (holds × later)

------------------------------------------------------------
-- Nodes of bodies, over the types of the `val`s that stand before

module _ (y : Reading) (s : Scope) (locals : List y.Kind) (owner : Option ℕ) where
  -- a value's least type and effect, and the least effect of a block and of values at their types
  pub record IsLeast (x : Value) (t : y.Kind) (f : List ℕ) : Type 0 where
    pub has : Has y s locals owner x t f
    pub least : (u : y.Kind) (g : List ℕ) → Has y s locals owner x u g → IsBelow y t u × y.Allows f g

  pub record IsLeastAt (b : Block) (t : y.Kind) (f : List ℕ) : Type 0 where
    pub has : BlockHas y s locals owner b t f
    pub least : (g : List ℕ) → BlockHas y s locals owner b t g → y.Allows f g

  pub record AreLeastAt (xs : Values) (ts : List y.Kind) (f : List ℕ) : Type 0 where
    pub have : AllHave y s locals owner xs ts f
    pub least : (g : List ℕ) → AllHave y s locals owner xs ts g → y.Allows f g

  -- the method that a call names, where its first three premises are true
  pub record IsTarget (t : y.Kind) (name : List ℕ) (arity : ℕ) (m : Signature y.Kind) : Type 0 where
    pub object : y.IsObject t
    pub found : find_method name (y.methods t) ≡ Some m
    pub number : length m.params ≡ arity

  abbrev pub IsParameter : y.Kind → List ℕ → ℕ → ℕ → Option y.Kind → Type 0
  IsParameter t name arity i None = (m : Signature y.Kind) → IsTarget t name arity m → ⊥
  IsParameter t name arity i (Some u) = (m : Signature y.Kind) × IsTarget t name arity m × (slice_get m.params i ≡ Some u)

  -- the type that a place expects
  abbrev pub IsExpected : Spot → Option y.Kind → Type 0
  IsExpected nothing o = o ≡ None
  IsExpected (written t) o = o ≡ Some (y.read t)
  IsExpected (argument x name arity i) o = (t : y.Kind) × (f : List ℕ) × IsLeast (Plain x) t f × IsParameter t name arity i o

  -- the premises of a call at its receiver's least type
  abbrev pub HasMethod : y.Kind → List ℕ → Type 0
  HasMethod t name = (m : Signature y.Kind) × (find_method name (y.methods t) ≡ Some m)

  abbrev pub HasNumber : y.Kind → List ℕ → ℕ → Type 0
  HasNumber t name arity = (m : Signature y.Kind) → find_method name (y.methods t) ≡ Some m → length m.params ≡ arity

  abbrev pub HasArguments : y.Kind → List ℕ → Values → Type 0
  HasArguments t name xs = (m : Signature y.Kind) → find_method name (y.methods t) ≡ Some m → AllHaveAt y s locals owner xs m.params

  abbrev pub CallFails : y.Kind → List ℕ → Values → ℕ → Type 0
  CallFails t name xs k =
      FirstFalse 1 (y.IsObject t) (FirstFalse 2 (HasMethod t name) (FirstFalse 3 (HasNumber t name (value_count xs)) (FirstFalse 4 (HasArguments t name xs) ⊥ k) k) k) k

  abbrev pub IfFails : Expr → Block → Block → y.Kind → ℕ → Type 0
  IfFails test first second t k =
      FirstFalse 1 (HasAt y s locals owner (Plain test) (y.read Bool))
      (FirstFalse 2 (BlockHasAt y s locals owner first t) (FirstFalse 3 (BlockHasAt y s locals owner second t) ⊥ k) k) k

  abbrev pub IsVar : Binding → Type 0
  IsVar name = (v : Field) × (var_field s owner name ≡ Some v)

  abbrev pub IsFieldValue : Binding → Value → Type 0
  IsFieldValue name x = (v : Field) → var_field s owner name ≡ Some v → HasAt y s locals owner x (y.read v.typ)

  abbrev pub SetFails : Binding → Value → ℕ → Type 0
  SetFails name x k = FirstFalse 1 (IsVar name) (FirstFalse 2 (IsFieldValue name x) ⊥ k) k

  abbrev pub first_values : ℕ → Values → Values
  first_values zero xs = none
  first_values (suc n) none = none
  first_values (suc n) (more x xs) = more x (first_values n xs)

  -- the first operands have the types of one row of the table; the premise of a number is false where one operand less still has
  abbrev pub OperandsHave : Operation → ℕ → Type 0
  OperandsHave o n = (r : Row) × In r o.rows × AllHaveAt y s locals owner (first_values n o.operands) (map y.read (take n r.operands))

  abbrev pub OperationFails : Option Operation → ℕ → Type 0
  OperationFails None k = ⊥
  OperationFails (Some o) k = (n : ℕ) × (k ≡ n + 1) × OperandsHave o n × (OperandsHave o (n + 1) → ⊥)

  -- the first false premise of an expression
  abbrev pub ExprFails : Expr → ℕ → Type 0
  ExprFails (Call place x name xs) k = (t : y.Kind) × (f : List ℕ) × IsLeast (Plain x) t f × CallFails t name xs k
  ExprFails (New place l xs) k = FirstFalse 1 (AllHaveAt y s locals owner xs (map y.read (field_types s l))) ⊥ k
  ExprFails (Ascribe place x t) k = FirstFalse 1 (HasAt y s locals owner x (y.read t)) ⊥ k
  ExprFails (Assign place name x) k = SetFails name x k
  ExprFails x k = OperationFails (operation_of x) k

  abbrev pub ValueFails : Option y.Kind → Value → ℕ → Type 0
  ValueFails o (Plain x) k = ExprFails x k
  ValueFails None (If place test first second) k = ⊥
  ValueFails (Some t) (If place test first second) k = IfFails test first second t k

  -- an `if` where no type is expected is no failing node
  abbrev pub ValueStands : Option y.Kind → Value → Type 0
  ValueStands o (Plain x) = HasSome y s locals owner (Plain x)
  ValueStands None (If place test first second) = Unit {0}
  ValueStands (Some t) (If place test first second) = HasAt y s locals owner (If place test first second) t

  abbrev pub ValStands : Option TypeRef → Value → Type 0
  ValStands None (Plain x) = HasSome y s locals owner (Plain x)
  ValStands None (If place test first second) = ⊥
  ValStands (Some t) x = HasAt y s locals owner x (y.read t)

  abbrev pub ValFails : Option TypeRef → Value → ℕ → Type 0
  ValFails None (Plain x) k = ⊥
  ValFails None (If place test first second) k = k ≡ 1
  ValFails (Some t) x k = FirstFalse 1 (HasAt y s locals owner x (y.read t)) ⊥ k

  -- a `val` that stands has its written type, or else the least type of its initialiser
  abbrev pub ValSettles : ℕ → Option TypeRef → Value → Type 0
  ValSettles n None x = (t : y.Kind) × (f : List ℕ) × IsLeast x t f × (slice_get locals n ≡ Some t)
  ValSettles n (Some t) x = slice_get locals n ≡ Some (y.read t)

  -- T-Body
  abbrev pub BodyStands : Block → TypeRef → List ℕ → Type 0
  BodyStands b t e = (f : List ℕ) × BlockHas y s locals owner b (y.read t) f × y.Allows f (y.effect e)

  abbrev pub BodyFails : Block → TypeRef → List ℕ → ℕ → Option ℕ → Type 0
  BodyFails b t e k atom =
      (FirstFalse 1 (BlockHasAt y s locals owner b (y.read t)) ⊥ k × (atom ≡ None)) ⊎
      ((f : List ℕ) × (a : ℕ) × IsLeastAt b (y.read t) f × IsLeastMissing y.Under a f (y.effect e) × (k ≡ 2) × (atom ≡ Some a))

  abbrev pub InitStands : Values → List ℕ → Type 0
  InitStands xs e = (f : List ℕ) × AllHave y s locals owner xs (map y.read (field_types s 0)) f × y.Allows f (y.effect e)

  abbrev pub InitFails : Values → List ℕ → ℕ → Option ℕ → Type 0
  InitFails xs e k atom =
      (FirstFalse 1 (AllHaveAt y s locals owner xs (map y.read (field_types s 0))) ⊥ k × (atom ≡ None)) ⊎
      ((f : List ℕ) × (a : ℕ) × AreLeastAt xs (map y.read (field_types s 0)) f × IsLeastMissing y.Under a f (y.effect e) × (k ≡ 2) × (atom ≡ Some a))

------------------------------------------------------------
-- Sets that are to respect bounds

-- the first member whose set is not within the sets of its bound, and the least atom of its set that is not
pub record FirstOutside (bounds there : Bounds) (by : List (List ℕ)) (a : ℕ) : Type 0 where
  pub member : ℕ
  pub bound : List ℕ
  pub bounded : slice_get bounds member ≡ Some (Some bound)
  pub lacks : IsLeastMissing (IsUnder there) a (slice_index_or by member []) (replace by bound)
  pub first : (j : ℕ) (c : List ℕ) → j < member → slice_get bounds j ≡ Some (Some c) → IsWithin there (slice_index_or by j []) (replace by c)

abbrev pub LacksOutside : Bounds → Bounds → List (List ℕ) → Option ℕ → Type 0
LacksOutside bounds there by None = ⊥
LacksOutside bounds there by (Some a) = FirstOutside bounds there by a

-- M-Ascribe
abbrev pub MembersFail : Program → ℕ → Scope → Option ℕ → Option ℕ → Type 0
MembersFail p k s None atom = ⊥
MembersFail p k s (Some d) atom = LacksOutside (declared_bounds p d) (bounds_of p k) s.definitions atom

abbrev pub SealFails : Program → ℕ → Scope → ℕ → Option ℕ → Type 0
SealFails p k s n atom =
    ((SealHolds (scope_reading p k s) s s.ascribed → ⊥) × (n ≡ 1) × (atom ≡ None)) ⊎
    (SealHolds (scope_reading p k s) s s.ascribed × (is_plain s.kind ≡ false) × (n ≡ 2) × MembersFail p k s s.ascribed atom)

------------------------------------------------------------
-- Nodes of lines

-- the first of several arguments of which something is false, with the atom that is missing there
abbrev pub FirstOf : {X : Type 0} → (X → Type 0) → (X → Option ℕ → Type 0) → List X → Option ℕ → Type 0
FirstOf Holds Lacks [] atom = ⊥
FirstOf Holds Lacks (x ∷ xs) atom = ((Holds x → ⊥) × Lacks x atom) ⊎ (Holds x × FirstOf Holds Lacks xs atom)

module _ (p : Program) (k : ℕ) (outer : List OwnName) where
  -- the least effect of a type that is not within the bound
  abbrev pub LacksInBound : List ℕ → Handed → Option ℕ → Type 0
  LacksInBound bound h None = ⊥
  LacksInBound bound h (Some a) = IsLeastOutside (IsUnder (bounds_of p k)) (IsEffect TypeRef (methods_of p k) (argument_type p k outer h) true) a bound

  -- the atom is in the bound, and it is not within a method that the type reaches negatively
  abbrev pub LacksBelow : List ℕ → Handed → ℕ → Type 0
  LacksBelow bound h a =
      In a bound × ((u : TypeRef) × Reaches TypeRef (methods_of p k) (argument_type p k outer h) false u × ((m : Signature TypeRef) × In m (methods_of p k u) × (IsUnder (bounds_of p k) m.effect a → ⊥)))

  abbrev pub LacksInMethod : List ℕ → Handed → Option ℕ → Type 0
  LacksInMethod bound h None = ⊥
  LacksInMethod bound h (Some a) = LacksBelow bound h a × ((b : ℕ) → LacksBelow bound h b → a ≤ b)

  abbrev pub Arguments : ℕ → List ℕ → List Handed
  Arguments m arguments = handed_to (parameters_of p m) arguments

  -- an argument's set that is not within those of its member's bound
  abbrev pub LacksInMember : Handed → Option ℕ → Type 0
  LacksInMember h atom = LacksOutside (opened_members p h.parameter h.parameter.origin) (bounds_of p k) (argument_sets p outer h.parameter.origin h.parameter h.argument) atom

  -- premises 1 to 4; each premise is tried for all arguments before the next one
  abbrev pub InstanceMisfits : ℕ → List ℕ → ℕ → Type 0
  InstanceMisfits m arguments n =
      FirstFalse 1 (IsOfKind p kind.Resource m) (FirstFalse 2 (NumbersAgree p k outer m arguments) (FirstFalse 3 (AllHanded p k outer (HasMembers p k outer) m arguments)
      (FirstFalse 4 (AllHanded p k outer (IsArgument p k outer (arguments_sets p outer (names_of (slice_get p.scopes m)) arguments)) m arguments) ⊥ n) n) n) n

  -- .. which hold
  pub record InstanceFits (m : ℕ) (arguments : List ℕ) : Type 0 where
    pub resource : IsOfKind p kind.Resource m
    pub numbers : NumbersAgree p k outer m arguments
    pub members : AllHanded p k outer (HasMembers p k outer) m arguments
    pub types : AllHanded p k outer (IsArgument p k outer (arguments_sets p outer (names_of (slice_get p.scopes m)) arguments)) m arguments

  abbrev pub InstanceFails : ℕ → List ℕ → ℕ → Option ℕ → Type 0
  InstanceFails m arguments n atom =
      (InstanceMisfits m arguments n × (atom ≡ None)) ⊎
      (InstanceFits m arguments × (n ≡ 5) × FirstOf (RespectsBounds p k outer) LacksInMember (Arguments m arguments) atom)

  abbrev pub ImportMisfits : ℕ → List ℕ → ℕ → Option ℕ → Type 0
  ImportMisfits m arguments n atom = (atom ≡ None) × FirstFalse 1 (IsOfKind p kind.Plain m) (FirstFalse 2 (NumbersAgree p k outer m arguments) ⊥ n) n

  abbrev pub BoundFails : ℕ → List ℕ → List ℕ → ℕ → Option ℕ → Type 0
  BoundFails m arguments bound n atom =
      ((n ≡ 1) × FirstOf (EffectsBounded p k outer bound) (LacksInBound bound) (Arguments m arguments) atom) ⊎
      (AllHanded p k outer (EffectsBounded p k outer bound) m arguments ×
      (((n ≡ 2) × FirstOf (IsHigherOrderSafe p k outer bound) (LacksInMethod bound) (Arguments m arguments) atom) ⊎
      (AllHanded p k outer (IsHigherOrderSafe p k outer bound) m arguments ×
      ((atom ≡ None) × FirstFalse 3 (AllHanded p k outer (IsPlainArgument p k outer) m arguments) (FirstFalse 4 (PlainHolds p k outer m) ⊥ n) n))))

------------------------------------------------------------
-- Lists of nodes

abbrev pub named_atom : Scope → Option ℕ → Option AtomName
named_atom s None = None
named_atom s (Some a) = slice_get s.atoms a

-- in the scope of a number, with types for its `val`s
module _ (p : Program) (k : ℕ) (s : Scope) (locals : List (scope_reading p k s).Kind) where
  abbrev pub Stands : Option ℕ → Option (scope_reading p k s).Kind → Subject → Type 0
  Stands owner o (part x) = ValueStands (scope_reading p k s) s locals owner o x
  Stands owner o (statement x) = HasAt (scope_reading p k s) s locals owner x ((scope_reading p k s).read Nothing)
  Stands owner o (val n typ x) = ValStands (scope_reading p k s) s locals owner typ x
  Stands owner o (body b t e) = BodyStands (scope_reading p k s) s locals owner b t e
  Stands owner o (init xs e) = InitStands (scope_reading p k s) s locals owner xs e
  Stands owner o (impure premise) = ⊥
  Stands owner o seal = AscriptionHolds p k s
  Stands owner o (use_line m) = IsOfKind p kind.Pure m
  Stands owner o (instance_line m arguments) = InstanceHolds p k s.names m arguments
  Stands owner o (import_line m arguments) = ImportFits p k s.names m arguments
  Stands owner o (bound_line m arguments bound) = ImportHolds p k s.names m arguments bound

  -- the first false premise, and the missing atom where it is about effects
  abbrev pub Fails : Option ℕ → Option (scope_reading p k s).Kind → Subject → ℕ → Option ℕ → Type 0
  Fails owner o (part x) n atom = ValueFails (scope_reading p k s) s locals owner o x n × (atom ≡ None)
  Fails owner o (statement x) n atom = FirstFalse 1 (HasAt (scope_reading p k s) s locals owner x ((scope_reading p k s).read Nothing)) ⊥ n × (atom ≡ None)
  Fails owner o (val i typ x) n atom = ValFails (scope_reading p k s) s locals owner typ x n × (atom ≡ None)
  Fails owner o (body b t e) n atom = BodyFails (scope_reading p k s) s locals owner b t e n atom
  Fails owner o (init xs e) n atom = InitFails (scope_reading p k s) s locals owner xs e n atom
  Fails owner o (impure premise) n atom = (n ≡ premise) × (atom ≡ None)
  Fails owner o seal n atom = SealFails p k s n atom
  Fails owner o (use_line m) n atom = (n ≡ 1) × (atom ≡ None)
  Fails owner o (instance_line m arguments) n atom = InstanceFails p k s.names m arguments n atom
  Fails owner o (import_line m arguments) n atom = ImportMisfits p k s.names m arguments n atom
  Fails owner o (bound_line m arguments bound) n atom = BoundFails p k s.names m arguments bound n atom

  -- a node that stands settles the type of its `val`
  abbrev pub Settles : Option ℕ → Subject → Type 0
  Settles owner (val n typ x) = ValSettles (scope_reading p k s) s locals owner n typ x
  Settles owner subject = Unit {0}

  pub record Passes (n : Node) : Type 0 where
    pub expected : Option (scope_reading p k s).Kind
    pub spot : IsExpected (scope_reading p k s) s locals n.owner n.spot expected
    pub stands : Stands n.owner expected n.subject
    pub settles : Settles n.owner n.subject

  pub record FailsBy (n : Node) (fault : Fault) : Type 0 where
    pub expected : Option (scope_reading p k s).Kind
    pub atom : Option ℕ
    pub spot : IsExpected (scope_reading p k s) s locals n.owner n.spot expected
    pub stands_not : Stands n.owner expected n.subject → ⊥
    pub premise : Fails n.owner expected n.subject fault.premise atom
    pub place : fault.place ≡ n.place
    pub rule : fault.rule ≡ n.rule
    pub lacks : fault.atom ≡ named_atom s atom

  -- the first node of the list that fails, and how
  abbrev pub FirstFailing : List Node → Fault → Type 0
  FirstFailing [] fault = ⊥
  FirstFailing (n ∷ ns) fault = FailsBy n fault ⊎ (Passes n × FirstFailing ns fault)

  abbrev pub AllPass : List Node → Type 0
  AllPass [] = Unit {0}
  AllPass (n ∷ ns) = Passes n × AllPass ns

-- a module, or the program's body, is refused by this fault
pub record IsScopeFault (p : Program) (k : ℕ) (s : Scope) (fault : Fault) : Type 0 where
  pub locals : List (scope_reading p k s).Kind
  pub first : FirstFailing p k s locals (scope_nodes s) fault

-- the lines of the scopes from a number on, in their order, are refused by this fault
abbrev pub IsLineFaultFrom : Program → ℕ → List Scope → Fault → Type 0
IsLineFaultFrom p k [] fault = ⊥
IsLineFaultFrom p k (s ∷ ss) fault = FirstFailing p k s [] (lines_nodes s.names) fault ⊎ (AllPass p k s [] (lines_nodes s.names) × IsLineFaultFrom p (k + 1) ss fault)

abbrev pub IsLineFault : Program → Fault → Type 0
IsLineFault p fault = IsLineFaultFrom p 0 p.scopes fault
