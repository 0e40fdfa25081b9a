-- Typed heaps: values, objects and sights that have their types, over the types of a run. They are said for the time in which an instance
-- starts, by its number `now`, or, where that is the number of all instances, in which `main` runs (docs/LANGUAGE.md, "Types of a run").
use Rattle.std.specs.Prelude.{◌≡◌, ℕ, suc, ◌<◌, ◌≤◌, List, [], ◌∷◌, ◌++◌, length, map, ◌⊎◌, Option, Some, None, slice_get}
use Rattle.wy_text.specs.Members.{In}
use Rattle.wy_types.specs.declared.code.Variable.{Variable}
use Rattle.wy_types.specs.declared.types.TypeRef.{TypeRef}
use Rattle.wy_types.specs.declared.linked.Actual.TheVariants as actual
use Rattle.wy_types.specs.declared.linked.Instance.{Instance}
use Rattle.wy_types.specs.Program.{Program, Scope}
use Rattle.wy_types.specs.Vals.{literal_captures}
use Rattle.wy_types.specs.Ground.{start_list}
use Rattle.wy_rules.specs.GroundTypes.{GroundType, Int, Bool as Truths, Text as Texts, Nothing as Nothings, Own, type_at, read_by, ground_reading}
use Rattle.wy_rules.specs.GroundTyping.{IsInstanceOf}
use Rattle.wy_rules.specs.Typing.{field_types, variable_type, ScopeHolds}
use Rattle.wy_meaning.specs.Values.{Value, Int as Number, Truth, Nothing, Text, Object, Grant, Named, value_named, Thing}
use Rattle.wy_meaning.specs.Eval.{Sight}
use Rattle.wy_sound.specs.Arguments.{IsThere, actual_type, ground_below}

abbrev pub instance_count : Program → ℕ
instance_count p = length (start_list p)

-- an instance of a number with its scope, and derivations of the scope's bodies over the types of the run
pub record Placed (p : Program) (x : ℕ) : Type 0 where
  pub instance : Instance
  pub scope : Scope
  pub is : IsInstanceOf p x instance scope
  pub holds : ScopeHolds (ground_reading p x instance) scope

module _ (p : Program) where
  -- what the scope calls a type, and what it calls a variable, over the types of the run
  abbrev pub kind_at : (x : ℕ) → Placed p x → TypeRef → GroundType
  kind_at x pl t = type_at x (read_by pl.instance.bound pl.instance.ground t)

  abbrev pub variable_at : (x : ℕ) → Placed p x → Variable → Option GroundType
  variable_at x pl v = variable_type (ground_reading p x pl.instance) pl.scope pl.holds.derivation.locals None v

  -- the types of the fields of the module (0) or of a literal
  abbrev pub fields_at : (x : ℕ) → Placed p x → ℕ → List GroundType
  fields_at x pl l = map (kind_at x pl) (field_types pl.scope l)

  module _ (now : ℕ) where
    -- the instances' objects are the first ones; those of instances that have started are ready, and those that `new` made
    abbrev pub Ready : ℕ → Type 0
    Ready a = (a < now) ⊎ (instance_count p ≤ a)

    -- a value of a base type has it; an object that is ready, or a grant, has each type that its own is below
    abbrev pub ValueHas : List Thing → Value → GroundType → Type 0
    ValueHas h (Number n) k = ground_below p Int k
    ValueHas h (Truth b) k = ground_below p Truths k
    ValueHas h Nothing k = ground_below p Nothings k
    ValueHas h (Text bytes) k = ground_below p Texts k
    ValueHas h (Object a) k = (t : Thing) × (slice_get h a ≡ Some t) × Ready a × ground_below p (Own t.instance t.literal) k
    ValueHas h (Grant g) k = IsThere p now (actual.Grant g) × ground_below p (actual_type p (actual.Grant g)) k

    -- values have their types, each its own
    abbrev pub AllHave : List Thing → List Value → List GroundType → Type 0
    AllHave h [] [] = Unit {0}
    AllHave h (v ∷ vs) (k ∷ ks) = ValueHas h v k × AllHave h vs ks
    AllHave h [] (k ∷ ks) = ⊥
    AllHave h (v ∷ vs) [] = ⊥

    -- a variable has a type in the instance's scope, and a value that has it
    pub record VariableHas (h : List Thing) (x : ℕ) (pl : Placed p x) (named : Named) (v : Variable) : Type 0 where
      pub kind : GroundType
      pub typed : variable_at x pl v ≡ Some kind
      pub value : Value
      pub here : value_named named v ≡ Some value
      pub has : ValueHas h value kind

    -- .. and so has each of these
    pub record NamesHave (h : List Thing) (x : ℕ) (pl : Placed p x) (seen : List Variable) (named : Named) : Type 0 where
      pub by : (v : Variable) → In v seen → VariableHas h x pl named v

    -- the fields of an object and what its literal captured have their types; it is of an instance that has begun to start
    pub record ThingHas (h : List Thing) (t : Thing) : Type 0 where
      pub place : Placed p t.instance
      pub early : t.instance ≤ now
      pub fields : AllHave h t.fields (fields_at t.instance place t.literal)
      pub captured : NamesHave h t.instance place (literal_captures (slice_get place.scope.literals t.literal)) t.captured

    -- the object of the instance of a number
    abbrev pub IsFirst : List Thing → ℕ → Type 0
    IsFirst h z = (t : Thing) × (slice_get h z ≡ Some t) × (t.instance ≡ z) × (t.literal ≡ 0)

    -- a typed heap: each object that is ready has its types. Of one that is not, nothing is said here; of the instance that starts, `Filling` says it
    pub record WellHeap (h : List Thing) : Type 0 where
      pub by : (a : ℕ) (t : Thing) → slice_get h a ≡ Some t → Ready a → ThingHas h t
      pub long : instance_count p ≤ length h
      pub first : (z : ℕ) → z < instance_count p → IsFirst h z

    -- the current object, where a body is a method of an owner: an object of that literal, and ready
    abbrev pub ThisHas : List Thing → ℕ → Option ℕ → Option ℕ → Type 0
    ThisHas h x this None = Unit {0}
    ThisHas h x this (Some l) = (a : ℕ) × (t : Thing) × (this ≡ Some a) × (slice_get h a ≡ Some t) × (t.instance ≡ x) × (t.literal ≡ l) × Ready a

    -- a sight of an instance that has begun to start, with the current object and the variables that are seen
    pub record SightHas (h : List Thing) (sight : Sight) (pl : Placed p sight.instance) (owner : Option ℕ) (seen : List Variable) : Type 0 where
      pub early : sight.instance ≤ now
      pub this : ThisHas h sight.instance sight.this owner
      pub names : NamesHave h sight.instance pl seen sight.variables

  ------------------------------------------------------------
  -- While an instance starts

  -- the object of an instance that has not begun to start
  abbrev pub unstarted_thing : ℕ → Thing
  unstarted_thing z = record { instance = z; literal = 0; captured = []; fields = [] }

  -- .. of all instances from a number on
  pub record AreUnstarted (x : ℕ) (h : List Thing) : Type 0 where
    pub by : (z : ℕ) → x ≤ z → z < instance_count p → slice_get h z ≡ Some (unstarted_thing z)

  -- the heap is typed while the instance of a number starts; of the fields of the instance's own object those of the first types are set, and
  -- their values have these
  pub record Filling (x : ℕ) (pl : Placed p x) (done : List GroundType) (h : List Thing) : Type 0 where
    pub heap : WellHeap x h
    pub values : List Value
    pub here : slice_get h x ≡ Some (record { instance = x; literal = 0; captured = []; fields = values })
    pub typed : AllHave x h values done
    pub rest : AreUnstarted (suc x) h

  -- .. those of some of the first types
  abbrev pub PartlyFilled : (x : ℕ) → Placed p x → List Thing → Type 0
  PartlyFilled x pl h = (done : List GroundType) × (left : List GroundType) × (done ++ left ≡ fields_at x pl 0) × Filling x pl done h
