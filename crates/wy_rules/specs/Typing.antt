-- Typing: which derivations a scope's bodies have, node by node, as its types are read. Effects are united in the order of
-- evaluation; T-Sub stands anywhere (docs/LANGUAGE.md, "Typing of bodies").
use Rattle.std.specs.Prelude.{◌≡◌, ℕ, List, [], ◌∷◌, Option, Some, None, map, slice_get, if◌then◌else◌}
use Rattle.std.specs.Option.{option_map}
use Rattle.wy_text.specs.Members.{In}
use Rattle.wy_effects.specs.EffSet.{union}
use Rattle.wy_types.specs.declared.types.TypeRef.{TypeRef}
use Rattle.wy_types.specs.declared.types.TypeRef.TheVariants.{Bool, Unit as Nothing, Own}
use Rattle.wy_types.specs.declared.code.Variable.{Variable}
use Rattle.wy_types.specs.declared.code.Variable.TheVariants.{Parameter, Local}
use Rattle.wy_types.specs.declared.code.Binding.{Binding}
use Rattle.wy_types.specs.declared.code.Binding.TheVariants as to
use Rattle.wy_types.specs.declared.resolved.Field.{Field}
use Rattle.wy_types.specs.declared.resolved.OwnName.{OwnName}
use Rattle.wy_types.specs.Code.{This, Name, Call, New, Ascribe, Assign, Value, Plain, If, Values, none, more, Block, Last, Then, Val}
use Rattle.wy_types.specs.Program.{Scope, Body, Start, Init, Run}
use Rattle.wy_types.specs.Signature.{Signature, find_method}
use Rattle.wy_types.specs.Vals.{literal_fields}
use Rattle.wy_rules.specs.Readings.{Reading, IsBelow}
use Rattle.wy_rules.specs.Operators.{Operation, operation_of, literal_type}
use Rattle.wy_rules.specs.Derivations.{Derivation, T-Lit, T-Var, T-This, T-Call, T-New, T-If, T-Set, T-Op, T-Asc, T-Sub, Derivations, none as no_derivations, more as one_more, BlockDerivation, Result, T-Seq, T-Val, Block-Sub, BodyDerivation, T-Body, T-Body-Init, ScopeDerivation, effects_of, expr_mark, mark, block_mark}

------------------------------------------------------------
-- What names stand for

-- the fields of the module (0) or of a literal
abbrev pub fields_of : Scope → ℕ → List Field
fields_of s l = literal_fields (slice_get s.literals l)

abbrev pub field_types : Scope → ℕ → List TypeRef
field_types s l = map (λ (f : Field). f.typ) (fields_of s l)

-- a field of the current object, and that field where it is a `var`
abbrev pub field_at : Scope → Option ℕ → ℕ → Option Field
field_at s None i = None
field_at s (Some l) i = slice_get (fields_of s l) i

abbrev pub if_mutable : Option Field → Option Field
if_mutable None = None
if_mutable (Some f) = if f.mutable then Some f else None

abbrev pub var_field : Scope → Option ℕ → Binding → Option Field
var_field s owner (to.Variable v) = None
var_field s owner (to.Field i) = if_mutable (field_at s owner i)
var_field s owner (to.Own k) = None

abbrev pub parameter_type : Option Body → ℕ → Option TypeRef
parameter_type None i = None
parameter_type (Some b) i = slice_get b.signature.params i

module _ (y : Reading) (s : Scope) (locals : List y.Kind) (owner : Option ℕ) where
  abbrev pub variable_type : Variable → Option y.Kind
  variable_type (Parameter k i) = option_map y.read (parameter_type (slice_get s.bodies k) i)
  variable_type (Local n) = slice_get locals n

  abbrev pub binding_type : Binding → Option y.Kind
  binding_type (to.Variable v) = variable_type v
  binding_type (to.Field i) = option_map (λ (f : Field). y.read f.typ) (field_at s owner i)
  binding_type (to.Own k) = option_map (λ (n : OwnName). y.read n.typ) (slice_get s.names k)

  -- a `val` has its written type, or else that of its initialiser, which is then no `if`
  abbrev pub IsValType : Option TypeRef → Value → y.Kind → Type 0
  IsValType None (Plain x) k = Unit {0}
  IsValType None (If place test first second) k = ⊥
  IsValType (Some u) x k = k ≡ y.read u

  ------------------------------------------------------------
  -- The rules

  abbrev mutual
    pub Derives : Derivation y.Kind → Value → y.Kind → List ℕ → Type 0
    Derives (T-Lit place) (Plain x) t f = (u : TypeRef) × (place ≡ expr_mark x) × (literal_type x ≡ Some u) × (t ≡ y.read u) × (f ≡ [])
    Derives (T-Var place) (Plain (Name q name)) t f = (place ≡ q) × (binding_type name ≡ Some t) × (f ≡ [])
    Derives (T-This place) (Plain (This q)) t f = (l : ℕ) × (place ≡ q) × (owner ≡ Some l) × (t ≡ y.read (Own l)) × (f ≡ [])
    Derives (T-Call place d k e ds) (Plain (Call q x name xs)) t f =
        (m : Signature y.Kind) × (place ≡ q) × Derives d (Plain x) k e × y.IsObject k × (find_method name (y.methods k) ≡ Some m) ×
        DerivesAll ds xs m.params × (t ≡ m.result) × (f ≡ union e (union (effects_of ds) m.effect))
    Derives (T-New place ds) (Plain (New q l xs)) t f =
        (place ≡ q) × DerivesAll ds xs (map y.read (field_types s l)) × (t ≡ y.read (Own l)) × (f ≡ effects_of ds)
    Derives (T-If place d e a g b h) (If q test first second) t f =
        (place ≡ q) × Derives d (Plain test) (y.read Bool) e × DerivesBlock a first t g × DerivesBlock b second t h × (f ≡ union e (union g h))
    Derives (T-Set place d) (Plain (Assign q name x)) t f =
        (v : Field) × (place ≡ q) × (var_field s owner name ≡ Some v) × Derives d x (y.read v.typ) f × (t ≡ y.read Nothing)
    Derives (T-Op place r ds) (Plain x) t f =
        (o : Operation) × (place ≡ expr_mark x) × (operation_of x ≡ Some o) × In r o.rows × DerivesAll ds o.operands (map y.read r.operands) × (t ≡ y.read r.result) × (f ≡ effects_of ds)
    Derives (T-Asc place d) (Plain (Ascribe q x u)) t f = (place ≡ q) × Derives d x (y.read u) f × (t ≡ y.read u)
    Derives (T-Sub place d k e) x t f = (place ≡ mark x) × Derives d x k e × IsBelow y k t × y.Includes e f
    Derives d x t f = ⊥

    -- each value has its type
    pub DerivesAll : Derivations y.Kind → Values → List y.Kind → Type 0
    DerivesAll no_derivations none [] = Unit {0}
    DerivesAll (one_more d e ds) (more x xs) (t ∷ ts) = Derives d x t e × DerivesAll ds xs ts
    DerivesAll ds xs ts = ⊥

    pub DerivesBlock : BlockDerivation y.Kind → Block → y.Kind → List ℕ → Type 0
    DerivesBlock (Result d) (Last x) t f = Derives d x t f
    DerivesBlock (T-Seq place d e ds g) (Then x b) t f = (place ≡ mark x) × Derives d x (y.read Nothing) e × DerivesBlock ds b t g × (f ≡ union e g)
    DerivesBlock (T-Val place d k e ds g) (Val q n typ x b) t f =
        (place ≡ q) × (slice_get locals n ≡ Some k) × IsValType typ x k × Derives d x k e × DerivesBlock ds b t g × (f ≡ union e g)
    DerivesBlock (Block-Sub place ds k e) b t f = (place ≡ block_mark b) × DerivesBlock ds b k e × IsBelow y k t × y.Includes e f
    DerivesBlock ds b t f = ⊥

  ------------------------------------------------------------
  -- There are derivations

  -- a value has the type and the effect
  pub record Has (x : Value) (t : y.Kind) (f : List ℕ) : Type 0 where
    pub derivation : Derivation y.Kind
    pub derives : Derives derivation x t f

  -- .. the type, with some effect
  pub record HasAt (x : Value) (t : y.Kind) : Type 0 where
    pub effect : List ℕ
    pub has : Has x t effect

  -- .. some type
  pub record HasSome (x : Value) : Type 0 where
    pub typ : y.Kind
    pub effect : List ℕ
    pub has : Has x typ effect

  pub record BlockHas (b : Block) (t : y.Kind) (f : List ℕ) : Type 0 where
    pub derivation : BlockDerivation y.Kind
    pub derives : DerivesBlock derivation b t f

  pub record BlockHasAt (b : Block) (t : y.Kind) : Type 0 where
    pub effect : List ℕ
    pub has : BlockHas b t effect

  -- values have their types, with the effect of all
  pub record AllHave (xs : Values) (ts : List y.Kind) (f : List ℕ) : Type 0 where
    pub derivations : Derivations y.Kind
    pub derives : DerivesAll derivations xs ts
    pub effects : f ≡ effects_of derivations

  pub record AllHaveAt (xs : Values) (ts : List y.Kind) : Type 0 where
    pub effect : List ℕ
    pub have : AllHave xs ts effect

-- T-Body: a block has the result type, and for `init` each field's initialiser its field's; the effect is in the declared one
module _ (y : Reading) (s : Scope) (locals : List y.Kind) where
  abbrev pub DerivesStart : BodyDerivation y.Kind → Start → Type 0
  DerivesStart (T-Body-Init place ds) (Init values) =
      (place ≡ s.start_place) × DerivesAll y s locals None ds values (map y.read (field_types s 0)) × y.Allows (effects_of ds) (y.effect s.start_effect)
  DerivesStart (T-Body place d f) (Run block) =
      (place ≡ s.start_place) × DerivesBlock y s locals None d block (y.read Nothing) f × y.Allows f (y.effect s.start_effect)
  DerivesStart d start = ⊥

  abbrev pub DerivesBody : BodyDerivation y.Kind → Body → Type 0
  DerivesBody (T-Body place d f) b =
      (place ≡ b.place) × DerivesBlock y s locals (Some b.owner) d b.block (y.read b.signature.result) f × y.Allows f (y.effect b.signature.effect)
  DerivesBody (T-Body-Init place ds) b = ⊥

  abbrev pub DerivesBodies : List (BodyDerivation y.Kind) → List Body → Type 0
  DerivesBodies [] [] = Unit {0}
  DerivesBodies (d ∷ ds) (b ∷ bs) = DerivesBody d b × DerivesBodies ds bs
  DerivesBodies ds bs = ⊥

-- each body of the scope, over one list of the types of its `val`s
abbrev pub DerivesScope : (y : Reading) → Scope → ScopeDerivation y.Kind → Type 0
DerivesScope y s d = DerivesStart y s d.locals d.start s.start × DerivesBodies y s d.locals d.bodies s.bodies

pub record ScopeHolds (y : Reading) (s : Scope) : Type 0 where
  pub derivation : ScopeDerivation y.Kind
  pub derives : DerivesScope y s derivation
