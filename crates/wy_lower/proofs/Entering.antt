-- The slots of a body that begins: the current object, the arguments, and room for the `val`s.
use Rattle.std.proofs.Common.{◌≡◌, ◌⊎◌, inl, inr, ℕ, suc, ◌+◌, ◌<◌, ◌≤◌, true, false, ◌&&◌, ◌==◌, List, [], ◌∷◌, ◌++◌, length, length-append, replicate, Option, Some, None, refl, sym, ap, ◌∙◌, subst, arith}
use Rattle.std.proofs.lemmas.Bool.{eqb-true, eq-eqb, ne_eqb, and_left, both_ways, cases_eq}
use Rattle.std.proofs.lemmas.List.{length-replicate}
use Rattle.std.specs.Prelude.{slice_get}
use Rattle.wy_text.specs.Members.{In}
use Rattle.wy_types.specs.declared.code.Variable.{Variable}
use Rattle.wy_types.specs.declared.code.Variable.TheVariants.{Parameter, Local}
use Rattle.wy_meaning.specs.Values.{Value, Named, Thing, World, same_variable, value_named}
use Rattle.wy_meaning.specs.Eval.{Sight, parameters}
use Rattle.wy_meaning.specs.Start.{outside}
use Rattle.wy_code.specs.Stores as word
use Rattle.wy_code.specs.Stores.{Word, Store}
use Rattle.wy_lower.specs.Inside.{Inside, is_number, is_own, slot_of}
use Rattle.wy_lower.proofs.Bodies.{is_among_vals}
use Rattle.wy_lower.proofs.Looking.{some_is, get_front, get_within}
use Rattle.wy_lower.proofs.Making.{names_of}
use Rattle.wy_lower.proofs.Relation.{SameAll, all_count, all_found, Found}
use Rattle.wy_lower.proofs.Slots.{not_picked, seen_of, SeenOf, newest, older, Holds}

-- a variable that is in sight has a name among those that were captured
pub named_there : (c : Named) (y : Variable) (v : Value) → value_named c y ≡ Some v → In y (names_of c)
named_there [] y v e = absurd cc
named_there (x ∷ c) y v e = of (seen_of x.0 x.1 c y v e) (named_there c y v)
  where
    of : SeenOf x.0 x.1 c y v → (value_named c y ≡ Some v → In y (names_of c)) → In y (names_of (x ∷ c))
    of (newest a b) rest = inl a
    of (older a b) rest = inr (rest b)

pub not_named : (c : Named) (y : Variable) → (In y (names_of c) → ⊥) → value_named c y ≡ None
not_named c y h = of (value_named c y) refl
  where
    of : (o : Option Value) → value_named c y ≡ o → value_named c y ≡ None
    of None e = e
    of (Some v) e = absurd (h (named_there c y v e))

module _ (k : ℕ) (c : Named) where
  -- a variable that is no parameter of the body is one that was captured
  pub past_parameters : (y : Variable) (from : ℕ) (vs : List Value) → ((j : ℕ) → same_variable (Parameter k j) y ≡ false) →
      value_named (parameters k from vs ++ c) y ≡ value_named c y
  past_parameters y from [] h = refl
  past_parameters y from (v ∷ vs) h = not_picked (same_variable (Parameter k from) y) (Some v) (value_named (parameters k (from + 1) vs ++ c) y)
      (h from) ∙ past_parameters y (from + 1) vs h

  -- a parameter has its argument, or was captured
  data ParameterIs (from j : ℕ) (vs : List Value) (v : Value) : Type 0 where
    argument : (place : ℕ) → j ≡ from + place → slice_get vs place ≡ Some v → ParameterIs from j vs v
    beyond : from + length vs ≤ j → value_named c (Parameter k j) ≡ Some v → ParameterIs from j vs v

  parameter_is : (from j : ℕ) (vs : List Value) (v : Value) → from ≤ j → value_named (parameters k from vs ++ c) (Parameter k j) ≡ Some v →
      ParameterIs from j vs v
  parameter_is from j [] v h e = beyond (omega arith) e
  parameter_is from j (u ∷ vs) v h e = of (seen_of (Parameter k from) u (parameters k (from + 1) vs ++ c) (Parameter k j) v e) (cases_eq from j)
      (parameter_is (from + 1) j vs v)
    where
      same : from ≡ j → same_variable (Parameter k from) (Parameter k j) ≡ true
      same z = ap (λ b. b && (from == j)) (eq-eqb k k refl) ∙ eq-eqb from j z

      later : ParameterIs (from + 1) j vs v → ParameterIs from j (u ∷ vs) v
      later (argument place z g) = argument (suc place) (omega arith) g
      later (beyond z g) = beyond (omega arith) g

      of : SeenOf (Parameter k from) u (parameters k (from + 1) vs ++ c) (Parameter k j) v → (from ≡ j) ⊎ (from ≡ j → ⊥) →
          (from + 1 ≤ j → value_named (parameters k (from + 1) vs ++ c) (Parameter k j) ≡ Some v → ParameterIs (from + 1) j vs v) →
          ParameterIs from j (u ∷ vs) v
      of (newest a b) cases rest = let z : from ≡ j = cc in argument 0 (omega arith) (ap (λ (t : Value). Some t) b)
      of (older d f) (inl z) rest = absurd (both_ways _ d (same z))
      of (older d f) (inr ne) rest = later (rest (omega arith) f)

number_is : (i : Inside) (k l : ℕ) → i.number ≡ Some k → is_number l i.number ≡ true → l ≡ k
number_is i k l e h = let z : is_number l (Some k) ≡ true = sym (ap (is_number l) e) ∙ h in eqb-true l k z

is_numbered : (i : Inside) (k : ℕ) → i.number ≡ Some k → is_number k i.number ≡ true
is_numbered i k e = ap (is_number k) e ∙ eq-eqb k k refl

module _ (i : Inside) (x k : ℕ) (numbered : i.number ≡ Some k) (t : List (List ℕ)) (w : World) (a : ℕ) (o : Thing)
    (is : slice_get w.objects a ≡ Some o) (instance : o.instance ≡ x)
    (names : names_of o.captured ≡ i.captures) (own_vals : (n : ℕ) → In (Local n) i.captures → In n i.vals → ⊥)
    (own_parameters : (j : ℕ) → In (Parameter k j) i.captures → j < i.parameters)
    (vs : List Value) (zs : List Word) (same : SameAll t vs zs) (count : length vs ≡ i.parameters) where
  abbrev sight : Sight
  sight = record { instance = x; this = Some a; variables = parameters k 0 vs ++ o.captured }

  abbrev slots : List Word
  slots = word.Object a ∷ (zs ++ replicate (length i.vals) word.Nothing)

  captured_in : (y : Variable) (v : Value) → value_named o.captured y ≡ Some v → In y i.captures
  captured_in y v e = subst (λ (l : List Variable). In y l) names (named_there o.captured y v e)

  parameter_other : (y : Variable) → is_own i y ≡ false → (j : ℕ) → same_variable (Parameter k j) y ≡ false
  parameter_other (Local n) other j = refl
  parameter_other (Parameter l m) other j = and_left (k == l) (j == m)
      (ne_eqb k l (λ e. both_ways (is_number l i.number) other (subst (λ (q : ℕ). is_number q i.number ≡ true) e (is_numbered i k numbered))))

  own_found : (y : Variable) (v : Value) → is_own i y ≡ true → value_named (parameters k 0 vs ++ o.captured) y ≡ Some v →
      Found t v (slice_get slots (slot_of i y))
  own_found (Local n) v own e =
      let z : value_named o.captured (Local n) ≡ Some v = sym (past_parameters k o.captured (Local n) 0 vs (λ j. refl)) ∙ e in
      absurd (own_vals n (captured_in (Local n) v z) (is_among_vals n i.vals own))
  own_found (Parameter l j) v own e = of
      (parameter_is k o.captured 0 j vs v (omega arith)
      (subst (λ (q : ℕ). value_named (parameters k 0 vs ++ o.captured) (Parameter q j) ≡ Some v) (number_is i k l numbered own) e))
    where
      of : ParameterIs k o.captured 0 j vs v → Found t v (slice_get slots (1 + j))
      of (argument place z g) =
          let f = all_found t vs zs same place v g in
          let q : 1 + j ≡ suc place = omega arith in
          record {
            word = f.word;
            is = ap (slice_get slots) q ∙ get_front zs (replicate (length i.vals) word.Nothing) place f.word f.is;
            same =
                f.same;
          }
      of (beyond z g) = let l = own_parameters j (captured_in (Parameter k j) v g) in absurd (omega arith)

  few_parameters : (l j : ℕ) (v : Value) → is_own i (Parameter l j) ≡ true → value_named (parameters k 0 vs ++ o.captured) (Parameter l j) ≡ Some v →
      j < i.parameters
  few_parameters l j v own e = of
      (parameter_is k o.captured 0 j vs v (omega arith)
      (subst (λ (q : ℕ). value_named (parameters k 0 vs ++ o.captured) (Parameter q j) ≡ Some v) (number_is i k l numbered own) e))
    where
      of : ParameterIs k o.captured 0 j vs v → j < i.parameters
      of (argument place z g) = let l = get_within vs place v g in omega arith
      of (beyond z g) = own_parameters j (captured_in (Parameter k j) v g)

  -- a method that begins
  pub method_holds : Holds i x t w sight slots
  method_holds = record {
    instance = refl;
    long =
        let c = all_count t vs zs same in
        let l = length-append zs (replicate (length i.vals) word.Nothing) in
        let r = length-replicate (length i.vals) word.Nothing in
        omega (arith, count);
    held = own_found;
    few = few_parameters;
    self = inl (record {
      object = a;
      slot = refl;
      thing = o;
      is = is;
      instance = instance;
      names = names;
      caught = λ y v other e. sym (past_parameters k o.captured y 0 vs (parameter_other y other)) ∙ e;
      this = λ b e. let z : a ≡ b = some_is e in sym z;
      starting = λ e. absurd cc;
    });
  }

-- where no variable is in sight, the slots hold the current object alone
module _ (i : Inside) (x : ℕ) (t : List (List ℕ)) (w : World) (slots : List Word) (long : length slots ≡ 1 + i.parameters + length i.vals) where
  pub instance_holds : slice_get slots 0 ≡ Some (word.Object x) → (o : Thing) → slice_get w.objects x ≡ Some o → o.instance ≡ x →
      names_of o.captured ≡ i.captures → Holds i x t w (outside x) slots
  instance_holds slot o is instance names = record {
    instance = refl;
    long = long;
    held = λ y v own e. absurd cc;
    few = λ k j v own e. absurd cc;
    self = inl (record {
      object = x;
      slot = slot;
      thing = o;
      is = is;
      instance = instance;
      names = names;
      caught = λ y v own e. absurd cc;
      this = λ a e. absurd cc;
      starting = λ e. refl;
    });
  }

  pub program_holds : i.program ≡ true → Holds i x t w (outside x) slots
  program_holds program = record {
    instance = refl;
    long = long;
    held = λ y v own e. absurd cc;
    few = λ k j v own e. absurd cc;
    self = inr (record { program = program; this = refl; none = λ y v own e. absurd cc });
  }
