-- What a body's slots and its current object hold: the variables that are in sight, and what they leave untouched.
use Rattle.std.proofs.Common.{◌≡◌, ◌≢◌, ◌⊎◌, inl, inr, ℕ, ◌+◌, ◌<◌, ◌≤◌, Bool, true, false, ◌==◌, List, [], ◌∷◌, length, map, Some, None, refl, sym, ap, ◌∙◌, subst, arith, if◌then◌else◌, nat_eq}
use Rattle.std.proofs.lemmas.Bool.{eqb-true, eq-eqb, and_parts, or_cases, both_ways}
use Rattle.std.specs.Prelude.{slice_get, slice_set}
use Rattle.wy_types.specs.declared.code.Variable.{Variable}
use Rattle.wy_types.specs.declared.code.Variable.TheVariants.{Parameter, Local}
use Rattle.wy_meaning.specs.Values.{Value, Named, Thing, World, same_variable, value_named}
use Rattle.wy_meaning.specs.Eval.{Sight, with_local}
use Rattle.wy_code.specs.Stores as word
use Rattle.wy_code.specs.Stores.{Word, Store}
use Rattle.wy_code.specs.Machine.{first_of}
use Rattle.wy_lower.specs.Inside.{Inside, place_from, is_val, is_own, val_slot, slot_of}
use Rattle.wy_lower.proofs.Looking.{some_is, get_set_same, get_set_other, length_set}
use Rattle.wy_lower.proofs.Relation.{Same, Found, found_stays, found_at, Later}

------------------------------------------------------------
-- Variables

pub picked : {A : Type 0} (b : Bool) (x y : A) → b ≡ true → (if b then x else y) ≡ x
picked b x y e = ap (λ c. if c then x else y) e

pub not_picked : {A : Type 0} (b : Bool) (x y : A) → b ≡ false → (if b then x else y) ≡ y
not_picked b x y e = ap (λ c. if c then x else y) e

pub variable_is : (x y : Variable) → same_variable x y ≡ true → x ≡ y
variable_is (Parameter k i) (Parameter l j) e =
    let h = and_parts (k == l) (i == j) e in
    ap (λ (m : ℕ). Parameter m i) (eqb-true k l h.0) ∙ ap (λ (m : ℕ). Parameter l m) (eqb-true i j h.1)
variable_is (Parameter k i) (Local n) e = absurd cc
variable_is (Local m) (Parameter k i) e = absurd cc
variable_is (Local m) (Local n) e = ap Local (eqb-true m n e)

-- the value of a variable where one more is in sight
pub data SeenOf (y : Variable) (v : Value) (vars : Named) (x : Variable) (u : Value) : Type 0 where
  newest : y ≡ x → v ≡ u → SeenOf y v vars x u
  older : same_variable y x ≡ false → value_named vars x ≡ Some u → SeenOf y v vars x u

pub seen_of : (y : Variable) (v : Value) (vars : Named) (x : Variable) (u : Value) → value_named ((y, v) ∷ vars) x ≡ Some u → SeenOf y v vars x u
seen_of y v vars x u e = of (same_variable y x) refl
  where
    of : (b : Bool) → same_variable y x ≡ b → SeenOf y v vars x u
    of true t = newest (variable_is y x t) (some_is (sym (picked (same_variable y x) (Some v) (value_named vars x) t) ∙ e))
    of false t = older t (sym (not_picked (same_variable y x) (Some v) (value_named vars x) t) ∙ e)

-- a variable that is in sight is not one that is not
pub not_seen : (n : ℕ) (vars : Named) (x : Variable) (u : Value) → value_named vars (Local n) ≡ None → value_named vars x ≡ Some u →
    same_variable (Local n) x ≡ false
not_seen n vars x u h e = of (same_variable (Local n) x) refl
  where
    of : (b : Bool) → same_variable (Local n) x ≡ b → same_variable (Local n) x ≡ false
    of true t = let same : Local n ≡ x = variable_is (Local n) x t in
        let z : value_named vars x ≡ None = subst (λ (y : Variable). value_named vars y ≡ None) same h in absurd cc
    of false t = t

------------------------------------------------------------
-- Slots of `val`s

pub val_within : (k n : ℕ) (ms : List ℕ) → is_val n ms ≡ true → place_from k n ms < k + length ms
val_within k n [] e = absurd cc
val_within k n (m ∷ ms) e = of (nat_eq m n) refl (or_cases (nat_eq m n) (is_val n ms) e) (val_within (k + 1) n ms)
  where
    of : (b : Bool) → nat_eq m n ≡ b → (nat_eq m n ≡ true) ⊎ (is_val n ms ≡ true) →
        (is_val n ms ≡ true → place_from (k + 1) n ms < k + 1 + length ms) → place_from k n (m ∷ ms) < k + length (m ∷ ms)
    of true t h rest = let z = picked (nat_eq m n) k (place_from (k + 1) n ms) t in omega arith
    of false t (inl h) rest = absurd (both_ways (nat_eq m n) t h)
    of false t (inr h) rest = let z = not_picked (nat_eq m n) k (place_from (k + 1) n ms) t in let r = rest h in omega arith

from_start : (k n : ℕ) (ms : List ℕ) → k ≤ place_from k n ms
from_start k n [] = omega arith
from_start k n (m ∷ ms) = of (nat_eq m n) refl (from_start (k + 1) n ms)
  where
    of : (b : Bool) → nat_eq m n ≡ b → k + 1 ≤ place_from (k + 1) n ms → k ≤ place_from k n (m ∷ ms)
    of true t r = let z = picked (nat_eq m n) k (place_from (k + 1) n ms) t in omega arith
    of false t r = let z = not_picked (nat_eq m n) k (place_from (k + 1) n ms) t in omega arith

-- two `val`s have two slots
pub places_differ : (k n j : ℕ) (ms : List ℕ) → is_val n ms ≡ true → n ≢ j → place_from k n ms ≢ place_from k j ms
places_differ k n j [] e ne = absurd cc
places_differ k n j (m ∷ ms) e ne = of (nat_eq m n) (nat_eq m j) refl refl (or_cases (nat_eq m n) (is_val n ms) e)
    (λ h. places_differ (k + 1) n j ms h ne)
  where
    of : (b c : Bool) → nat_eq m n ≡ b → nat_eq m j ≡ c → (nat_eq m n ≡ true) ⊎ (is_val n ms ≡ true) →
        (is_val n ms ≡ true → place_from (k + 1) n ms ≢ place_from (k + 1) j ms) → place_from k n (m ∷ ms) ≢ place_from k j (m ∷ ms)
    of true true t u h rest = λ same. ne (sym (eqb-true m n t) ∙ eqb-true m j u)
    of true false t u h rest = λ same.
        let a = picked (nat_eq m n) k (place_from (k + 1) n ms) t in
        let b = not_picked (nat_eq m j) k (place_from (k + 1) j ms) u in
        let c = from_start (k + 1) j ms in
        absurd (omega arith)
    of false true t u h rest = λ same.
        let a = not_picked (nat_eq m n) k (place_from (k + 1) n ms) t in
        let b = picked (nat_eq m j) k (place_from (k + 1) j ms) u in
        let c = from_start (k + 1) n ms in
        absurd (omega arith)
    of false false t u (inl h) rest = absurd (both_ways (nat_eq m n) t h)
    of false false t u (inr h) rest = λ same.
        let a = not_picked (nat_eq m n) k (place_from (k + 1) n ms) t in
        let b = not_picked (nat_eq m j) k (place_from (k + 1) j ms) u in
        let z : place_from (k + 1) n ms ≡ place_from (k + 1) j ms = omega arith in
        rest h z

pub first_is : (slots : List Word) (z : Word) → slice_get slots 0 ≡ Some z → first_of slots ≡ z
first_is [] z e = absurd cc
first_is (y ∷ slots) z e = some_is e

------------------------------------------------------------
-- What a body has in sight

module _ (i : Inside) (x : ℕ) where
  -- the current object stands in the first slot. It is of the body's instance, and has the variables that are not the
  -- body's own
  pub record Self (w : World) (sight : Sight) (slots : List Word) : Type 0 where
    pub object : ℕ
    pub slot : slice_get slots 0 ≡ Some (word.Object object)
    pub thing : Thing
    pub is : slice_get w.objects object ≡ Some thing
    pub instance : thing.instance ≡ x
    pub names : map (λ (c : Variable × Value). c.0) thing.captured ≡ i.captures
    pub caught : (y : Variable) (v : Value) → is_own i y ≡ false → value_named sight.variables y ≡ Some v → value_named thing.captured y ≡ Some v
    pub this : (a : ℕ) → sight.this ≡ Some a → a ≡ object
    -- while an instance starts it is the instance's own object
    pub starting : sight.this ≡ None → object ≡ x

  -- the program's own block has no current object
  pub record Alone (sight : Sight) : Type 0 where
    pub program : i.program ≡ true
    pub this : sight.this ≡ None
    pub none : (y : Variable) (v : Value) → is_own i y ≡ false → value_named sight.variables y ≡ Some v → ⊥

  pub record Holds (t : List (List ℕ)) (w : World) (sight : Sight) (slots : List Word) : Type 0 where
    pub instance : sight.instance ≡ x
    pub long : length slots ≡ 1 + i.parameters + length i.vals
    pub held : (y : Variable) (v : Value) → is_own i y ≡ true → value_named sight.variables y ≡ Some v → Found t v (slice_get slots (slot_of i y))
    pub few : (k j : ℕ) (v : Value) → is_own i (Parameter k j) ≡ true → value_named sight.variables (Parameter k j) ≡ Some v → j < i.parameters
    pub self : Self w sight slots ⊎ Alone sight

  self_stays : (w : World) (m : Store) (w' : World) (m' : Store) (sight : Sight) (slots : List Word) → Later w m w' m' → Self w sight slots →
      Self w' sight slots
  self_stays w m w' m' sight slots l h =
      let k = l.objects h.object h.thing h.is in
      record {
        object = h.object;
        slot = h.slot;
        thing = k.thing;
        is = k.is;
        instance = k.instance ∙ h.instance;
        names = ap (map (λ (c : Variable × Value). c.0)) k.captured ∙ h.names;
        caught = λ y v o e. subst (λ (c : Named). value_named c y ≡ Some v) (sym k.captured) (h.caught y v o e);
        this = h.this;
        starting = h.starting;
      }

  pub holds_stays : (w : World) (m : Store) (w' : World) (m' : Store) (sight : Sight) (slots : List Word) → Later w m w' m' →
      Holds m.texts w sight slots → Holds m'.texts w' sight slots
  holds_stays w m w' m' sight slots l h = record {
    instance = h.instance;
    long = h.long;
    held = λ y v o e. found_stays m.texts m'.texts l.texts v _ (h.held y v o e);
    few = h.few;
    self = of h.self;
  }
    where
      of : Self w sight slots ⊎ Alone sight → Self w' sight slots ⊎ Alone sight
      of (inl s) = inl (self_stays w m w' m' sight slots l s)
      of (inr a) = inr a

  ------------------------------------------------------------
  -- A `val` comes into sight, and goes out of it

  module _ (t : List (List ℕ)) (w : World) (sight : Sight) (slots : List Word) (n : ℕ) (own : is_val n i.vals ≡ true) where
    abbrev slot : ℕ
    slot = val_slot i n

    -- the slot of another variable
    other_slot : (y : Variable) (v : Value) → Holds t w sight slots → is_own i y ≡ true → same_variable (Local n) y ≡ false →
        value_named sight.variables y ≡ Some v → slot ≢ slot_of i y
    other_slot (Parameter k j) v h o d e = λ same. let l = h.few k j v o e in absurd (omega arith)
    other_slot (Local m) v h o d e = λ same.
        let ne : n ≢ m = λ z. both_ways (n == m) d (eq-eqb n m z) in
        let z : place_from 0 n i.vals ≡ place_from 0 m i.vals = omega arith in
        places_differ 0 n m i.vals own ne z

    not_local : (y : Variable) → is_own i y ≡ false → Local n ≡ y → ⊥
    not_local y o same = both_ways (is_own i y) o (subst (λ (z : Variable). is_own i z ≡ true) same own)

    module _ (v : Value) (z : Word) (same : Same t v z) (h : Holds t w sight slots) where
      abbrev now : List Word
      now = slice_set slots slot z

      within : slot < length slots
      within = let a = val_within 0 n i.vals own in let b = h.long in omega arith

      self_stored : Self w sight slots → Self w (with_local sight n v) now
      self_stored s = record {
        object = s.object;
        slot = get_set_other slots slot 0 z (λ e. absurd (omega arith)) ∙ s.slot;
        thing = s.thing;
        is = s.is;
        instance = s.instance;
        names = s.names;
        caught = λ y u o e. of y u o (seen_of (Local n) v sight.variables y u e);
        this = s.this;
        starting = s.starting;
      }
        where
          of : (y : Variable) (u : Value) → is_own i y ≡ false → SeenOf (Local n) v sight.variables y u → value_named s.thing.captured y ≡ Some u
          of y u o (newest a b) = absurd (not_local y o a)
          of y u o (older d e) = s.caught y u o e

      alone_stored : Alone sight → Alone (with_local sight n v)
      alone_stored a = record { program = a.program; this = a.this; none = λ y u o e. of y u o (seen_of (Local n) v sight.variables y u e) }
        where
          of : (y : Variable) (u : Value) → is_own i y ≡ false → SeenOf (Local n) v sight.variables y u → ⊥
          of y u o (newest c d) = not_local y o c
          of y u o (older d e) = a.none y u o e

      held_stored : (y : Variable) (u : Value) → is_own i y ≡ true → SeenOf (Local n) v sight.variables y u → Found t u (slice_get now (slot_of i y))
      held_stored y u o (newest a b) =
          let here : slice_get now (slot_of i y) ≡ Some z = subst (λ (c : Variable). slice_get now (slot_of i c) ≡ Some z) a
          (get_set_same slots slot z within) in
          record { word = z; is = here; same = subst (λ (c : Value). Same t c z) b same }
      held_stored y u o (older d e) = found_at t u _ _ (get_set_other slots slot (slot_of i y) z (other_slot y u h o d e)) (h.held y u o e)

      few_stored : (k j : ℕ) (u : Value) → is_own i (Parameter k j) ≡ true → SeenOf (Local n) v sight.variables (Parameter k j) u → j < i.parameters
      few_stored k j u o (newest a b) = absurd cc
      few_stored k j u o (older d e) = h.few k j u o e

      pub stored_holds : Holds t w (with_local sight n v) now
      stored_holds = record {
        instance = h.instance;
        long = length_set slots slot z ∙ h.long;
        held = λ y u o e. held_stored y u o (seen_of (Local n) v sight.variables y u e);
        few = λ k j u o e. few_stored k j u o (seen_of (Local n) v sight.variables (Parameter k j) u e);
        self = of h.self;
      }
        where
          of : Self w sight slots ⊎ Alone sight → Self w (with_local sight n v) now ⊎ Alone (with_local sight n v)
          of (inl s) = inl (self_stored s)
          of (inr a) = inr (alone_stored a)

  module _ (t : List (List ℕ)) (w : World) (sight : Sight) (slots : List Word) (n : ℕ) (v : Value)
      (fresh : value_named sight.variables (Local n) ≡ None) where
    also : (y : Variable) (u : Value) → value_named sight.variables y ≡ Some u → value_named ((Local n, v) ∷ sight.variables) y ≡ Some u
    also y u e = not_picked (same_variable (Local n) y) (Some v) (value_named sight.variables y) (not_seen n sight.variables y u fresh e) ∙ e

    pub left_holds : Holds t w (with_local sight n v) slots → Holds t w sight slots
    left_holds h = record {
      instance = h.instance;
      long = h.long;
      held = λ y u o e. h.held y u o (also y u e);
      few = λ k j u o e. h.few k j u o (also (Parameter k j) u e);
      self = of h.self;
    }
      where
        of : Self w (with_local sight n v) slots ⊎ Alone (with_local sight n v) → Self w sight slots ⊎ Alone sight
        of (inl s) = inl (record {
          object = s.object;
          slot = s.slot;
          thing = s.thing;
          is = s.is;
          instance = s.instance;
          names = s.names;
          caught = λ y u o e. s.caught y u o (also y u e);
          this = s.this;
          starting = s.starting;
        })
        of (inr a) = inr (record { program = a.program; this = a.this; none = λ y u o e. a.none y u o (also y u e) })
