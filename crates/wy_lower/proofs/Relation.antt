-- What the meaning's values, objects and worlds are to the machine, and that what was the same stays the same while
-- texts and objects are added.
use Rattle.std.proofs.Common.{◌≡◌, ℕ, ◌+◌, ◌<◌, ℤ, Bool, false, List, [], ◌∷◌, length, map, Option, Some, refl, ap, ◌∙◌, subst, if◌then◌else◌}
use Rattle.std.specs.Prelude.{slice_get}
use Rattle.wy_types.specs.declared.code.Variable.{Variable}
use Rattle.wy_types.specs.declared.linked.Actual.{Actual}
use Rattle.wy_types.specs.declared.linked.Actual.TheVariants as actual
use Rattle.wy_types.specs.Vals.{literal_captures, literal_fields}
use Rattle.wy_types.specs.Program.{Program, Scope}
use Rattle.wy_meaning.specs.Values.{Value, Int, Truth, Nothing, Text, Object, Grant, Thing, World}
use Rattle.wy_meaning.specs.Starts.{Starts, actual_of, scope_of_instance}
use Rattle.wy_meaning.specs.Operating.{operand}
use Rattle.wy_code.specs.Stores as word
use Rattle.wy_code.specs.Stores.{Word, Store, bytes_found}
use Rattle.wy_lower.specs.Lowering.{is_program, text_table}

-- a word of a value, over a list of texts
pub data Same (t : List (List ℕ)) : Value → Word → Type 0 where
  same_int : (n : ℤ) → Same t (Int n) (word.Int n)
  same_truth : (b : Bool) → Same t (Truth b) (word.Truth b)
  same_nothing : Same t Nothing word.Nothing
  same_text : (bytes : List ℕ) (k : ℕ) → slice_get t k ≡ Some bytes → Same t (Text bytes) (word.Text k)
  same_object : (a : ℕ) → Same t (Object a) (word.Object a)
  same_grant : (g : ℕ) → Same t (Grant g) (word.Grant g)

pub data SameAll (t : List (List ℕ)) : List Value → List Word → Type 0 where
  none_same : SameAll t [] []
  more_same : (v : Value) (z : Word) (vs : List Value) (zs : List Word) → Same t v z → SameAll t vs zs → SameAll t (v ∷ vs) (z ∷ zs)

-- a word of a value is there
pub record Found (t : List (List ℕ)) (v : Value) (o : Option Word) : Type 0 where
  pub word : Word
  pub is : o ≡ Some word
  pub same : Same t v word

-- texts stay at their numbers
pub record Grows (t u : List (List ℕ)) : Type 0 where
  pub by : (k : ℕ) (bytes : List ℕ) → slice_get t k ≡ Some bytes → slice_get u k ≡ Some bytes

pub grows_refl : (t : List (List ℕ)) → Grows t t
grows_refl t = record { by = λ k bytes e. e }

pub grows_trans : (t u v : List (List ℕ)) → Grows t u → Grows u v → Grows t v
grows_trans t u v p q = record { by = λ k bytes e. q.by k bytes (p.by k bytes e) }

module _ (t u : List (List ℕ)) (g : Grows t u) where
  pub same_stays : (v : Value) (z : Word) → Same t v z → Same u v z
  same_stays v z (same_int n) = same_int n
  same_stays v z (same_truth b) = same_truth b
  same_stays v z same_nothing = same_nothing
  same_stays v z (same_text bytes k e) = same_text bytes k (g.by k bytes e)
  same_stays v z (same_object a) = same_object a
  same_stays v z (same_grant a) = same_grant a

  pub all_stay : (vs : List Value) (zs : List Word) → SameAll t vs zs → SameAll u vs zs
  all_stay vs zs none_same = none_same
  all_stay vs zs (more_same x y xs ys h r) = more_same x y xs ys (same_stays x y h) (all_stay xs ys r)

  pub found_stays : (v : Value) (o : Option Word) → Found t v o → Found u v o
  found_stays v o f = record { word = f.word; is = f.is; same = same_stays v f.word f.same }

pub found_at : (t : List (List ℕ)) (v : Value) (o o' : Option Word) → o' ≡ o → Found t v o → Found t v o'
found_at t v o o' e f = record { word = f.word; is = e ∙ f.is; same = f.same }

pub all_count : (t : List (List ℕ)) (vs : List Value) (zs : List Word) → SameAll t vs zs → length vs ≡ length zs
all_count t vs zs none_same = refl
all_count t vs zs (more_same x y xs ys h r) = let e = all_count t xs ys r in ap ℕ.suc e

pub all_found : (t : List (List ℕ)) (vs : List Value) (zs : List Word) → SameAll t vs zs → (k : ℕ) (v : Value) → slice_get vs k ≡ Some v →
    Found t v (slice_get zs k)
all_found t vs zs none_same k v e = absurd cc
all_found t vs zs (more_same x y xs ys h r) ℕ.zero v e =
    record { word = y; is = refl; same = let z : x ≡ v = cc in subst (λ (a : Value). Same t a y) z h }
all_found t vs zs (more_same x y xs ys h r) (ℕ.suc k) v e = all_found t xs ys r k v e

-- what an instance is handed
abbrev pub word_handed : Actual → Word
word_handed (actual.Grant g) = word.Grant g
word_handed (actual.Instance x) = word.Object x

-- an object of a module begins with what the module's own names stand for
abbrev pub own_count : Scope → ℕ
own_count s = if is_program s.kind then 0 else length s.names

module _ (p : Program) (s : Starts) where
  -- an object: what its instance is handed, what it captured, and its fields, some of which are not set yet
  pub record SameThing (t : List (List ℕ)) (o : Thing) (x : word.Thing) : Type 0 where
    pub instance : x.instance ≡ o.instance
    pub literal : x.literal ≡ o.literal
    pub scope : Scope
    pub stands : scope_of_instance p s o.instance ≡ Some scope
    pub names : map (λ (c : Variable × Value). c.0) o.captured ≡ literal_captures (slice_get scope.literals o.literal)
    pub own : is_program scope.kind ≡ false → (k : ℕ) (a : Actual) → actual_of s o.instance k ≡ Some a → (k < own_count scope) ×
        (slice_get x.values k ≡ Some (word_handed a))
    pub caught : (k : ℕ) (c : Variable × Value) → slice_get o.captured k ≡ Some c → Found t c.1 (slice_get x.values (own_count scope + k))
    pub fields : (k : ℕ) (v : Value) → slice_get o.fields k ≡ Some v → Found t v (slice_get x.values (own_count scope + length o.captured + k))
    pub long : length x.values ≡ own_count scope + length o.captured + length (literal_fields (slice_get scope.literals o.literal))

  pub record FoundThing (t : List (List ℕ)) (o : Thing) (x : Option word.Thing) : Type 0 where
    pub thing : word.Thing
    pub is : x ≡ Some thing
    pub same : SameThing t o thing

  pub record SameWorld (w : World) (m : Store) : Type 0 where
    pub count : length m.objects ≡ length w.objects
    pub objects : (a : ℕ) (o : Thing) → slice_get w.objects a ≡ Some o → FoundThing m.texts o (slice_get m.objects a)
    pub made : w.made ≡ m.made
    pub built : w.built ≡ m.built
    pub tapes : w.tapes ≡ m.tapes
    -- the texts begin with those that the program writes out
    pub written : Grows (text_table p) m.texts

  pub thing_stays : (t u : List (List ℕ)) → Grows t u → (o : Thing) (x : word.Thing) → SameThing t o x → SameThing u o x
  thing_stays t u g o x h = record {
    instance = h.instance;
    literal = h.literal;
    scope = h.scope;
    stands = h.stands;
    names = h.names;
    own = h.own;
    caught = λ k c e. found_stays t u g c.1 _ (h.caught k c e);
    fields = λ k v e. found_stays t u g v _ (h.fields k v e);
    long = h.long;
  }

  pub found_thing_stays : (t u : List (List ℕ)) → Grows t u → (o : Thing) (x : Option word.Thing) → FoundThing t o x → FoundThing u o x
  found_thing_stays t u g o x h = record { thing = h.thing; is = h.is; same = thing_stays t u g o h.thing h.same }

-- an object is still there, with other fields at most
pub record Kept (w : World) (a : ℕ) (o : Thing) : Type 0 where
  pub thing : Thing
  pub is : slice_get w.objects a ≡ Some thing
  pub instance : thing.instance ≡ o.instance
  pub literal : thing.literal ≡ o.literal
  pub captured : thing.captured ≡ o.captured
  pub fields : length thing.fields ≡ length o.fields

-- the second world and store come later in a run than the first ones
pub record Later (w : World) (m : Store) (w' : World) (m' : Store) : Type 0 where
  pub texts : Grows m.texts m'.texts
  pub objects : (a : ℕ) (o : Thing) → slice_get w.objects a ≡ Some o → Kept w' a o
  pub next : m'.next ≡ m.next

pub kept_itself : (w : World) (a : ℕ) (o : Thing) → slice_get w.objects a ≡ Some o → Kept w a o
kept_itself w a o e = record { thing = o; is = e; instance = refl; literal = refl; captured = refl; fields = refl }

pub later_itself : (w : World) (m : Store) → Later w m w m
later_itself w m = record { texts = grows_refl m.texts; objects = kept_itself w; next = refl }

pub later_later : (w : World) (m : Store) (w' : World) (m' : Store) (w'' : World) (m'' : Store) → Later w m w' m' → Later w' m' w'' m'' →
    Later w m w'' m''
later_later w m w' m' w'' m'' h l = record {
  texts = grows_trans m.texts m'.texts m''.texts h.texts l.texts;
  objects = λ a o e.
      let x = h.objects a o e in
      let y = l.objects a x.thing x.is in
      record {
        thing = y.thing;
        is = y.is;
        instance = y.instance ∙ x.instance;
        literal = y.literal ∙ x.literal;
        captured = y.captured ∙ x.captured;
        fields = y.fields ∙ x.fields;
      };
  next = l.next ∙ h.next;
}

------------------------------------------------------------
-- What the machine reads of a word

pub operand_is : (m : Store) (v : Value) (z : Word) → Same m.texts v z → word.operand m z ≡ operand v
operand_is m v z (same_int n) = refl
operand_is m v z (same_truth b) = refl
operand_is m v z same_nothing = refl
operand_is m v z (same_text bytes k e) = ap bytes_found e
operand_is m v z (same_object a) = refl
operand_is m v z (same_grant g) = refl

pub operands_are : (m : Store) (vs : List Value) (zs : List Word) → SameAll m.texts vs zs → map (word.operand m) zs ≡ map operand vs
operands_are m vs zs none_same = refl
operands_are m vs zs (more_same x y xs ys h r) = let a = operand_is m x y h in let b = operands_are m xs ys r in cc
