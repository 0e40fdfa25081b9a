-- What names stand for has their types: variables, fields of the current object, own names; and a method's parameters and a literal's captured variables.
use Rattle.std.proofs.Common.{◌≡◌, ◌≢◌, ℕ, zero, suc, ◌+◌, ◌<◌, ◌≤◌, Bool, true, false, ◌&&◌, List, [], ◌∷◌, ◌++◌, length, map, inl, inr, ⊎_elim, refl, sym, ap, ◌∙◌, subst, Option, Some, None, arith, nat_eq, nat_lt, lt_irrefl}
use Rattle.std.specs.Prelude.{slice_get, slice_set, if◌then◌else◌}
use Rattle.std.specs.List.{range_with_len}
use Rattle.std.specs.Option.{option_map}
use Rattle.std.proofs.lemmas.Bool.{cases_eq, eq-eqb, ne_eqb, lt-ltb, and_right}
use Rattle.std.proofs.lemmas.Bool.Decides.{nat_tests}
use Rattle.wy_text.specs.Members.{In}
use Rattle.wy_text.proofs.Lists.{In-cases, In-unmap}
use Rattle.wy_types.specs.declared.code.Variable.{Variable}
use Rattle.wy_types.specs.declared.code.Variable.TheVariants.{Parameter, Local}
use Rattle.wy_types.specs.declared.code.Binding.{Binding}
use Rattle.wy_types.specs.declared.code.Binding.TheVariants as to
use Rattle.wy_types.specs.declared.linked.Actual.{Actual}
use Rattle.wy_types.specs.declared.linked.Actual.TheVariants as actual
use Rattle.wy_types.specs.declared.resolved.Field.{Field}
use Rattle.wy_types.specs.declared.resolved.OwnName.{OwnName}
use Rattle.wy_types.specs.Program.{Program, Body}
use Rattle.wy_types.specs.Core.{BindingFits, body_parameters}
use Rattle.wy_rules.specs.GroundTypes.{GroundType, Own, ground_reading}
use Rattle.wy_rules.specs.Typing.{fields_of, field_types, field_at, if_mutable, var_field, parameter_type, binding_type}
use Rattle.wy_device.specs.RunEnds.{Wrong}
use Rattle.wy_meaning.specs.Values.{Value, Nothing, Object, Grant, Named, same_variable, value_named, Thing, World, Reply, replied, stopped, object_of, field_in, with_fields, field_set, write_field}
use Rattle.wy_meaning.specs.Starts.{actual_in, actual_of}
use Rattle.wy_meaning.specs.Eval.{Sight, actual_value, value_of_name, assigned, with_named, captured_from, parameters}
use Rattle.wy_sound.specs.Arguments.{IsThere, actual_type, ground_below}
use Rattle.wy_sound.specs.Programs.{program_starts}
use Rattle.wy_sound.proofs.Linked.{IsLinked}
use Rattle.wy_sound.proofs.LinkingLists.{read_within, read_there}
use Rattle.wy_sound.proofs.Lists.{some_mapped, some_same, pick_true, pick_false, get_map, get_mapped}
use Rattle.wy_sound.specs.TypedHeaps.{Placed, kind_at, variable_at, fields_at, instance_count, ValueHas, AllHave, VariableHas, NamesHave, WellHeap, ThingHas, SightHas, ThisHas}
use Rattle.wy_sound.proofs.Heaps.{all_get, all_set, heap_set}
use Rattle.wy_sound.proofs.Results.{Answers}
use Rattle.wy_sound.proofs.Placing.{started_at, fields_same}

------------------------------------------------------------
-- Variables with their values

same_true : (x y : Variable) → x ≡ y → same_variable x y ≡ true
same_true x y e = subst (λ y. same_variable x y ≡ true) e (of_one x)
  where
    of_one : (x : Variable) → same_variable x x ≡ true
    of_one (Parameter b i) = ap (λ c. c && nat_eq i i) (eq-eqb b b refl) ∙ eq-eqb i i refl
    of_one (Local n) = eq-eqb n n refl

both_true : (a b : Bool) → (a && b) ≡ true → (a ≡ true) × (b ≡ true)
both_true true true e = (refl, refl)
both_true true false e = absurd cc
both_true false b e = absurd cc

true_same : (x y : Variable) → same_variable x y ≡ true → x ≡ y
true_same (Parameter b i) (Parameter c j) e =
    let t = both_true (nat_eq b c) (nat_eq i j) e in
    let f : b ≡ c = grind (arith, nat_tests, t.0) in
    let g : i ≡ j = grind (arith, nat_tests, t.1) in
    ap (λ b. Parameter b i) f ∙ ap (λ i. Parameter c i) g
true_same (Local m) (Local n) e = let f : m ≡ n = grind (arith, nat_tests, e) in ap (λ n. Local n) f
true_same (Parameter b i) (Local n) e = absurd cc
true_same (Local n) (Parameter b i) e = absurd cc

-- the variables that a literal captures keep their values
pub captured_values : (vars : Named) (xs : List Variable) → ((x : Variable) → In x xs → (v : Value) × (value_named vars x ≡ Some v)) →
    (named : Named) × (captured_from vars xs ≡ Some named) × ((x : Variable) → In x xs → value_named named x ≡ value_named vars x)
captured_values vars [] h = ([], refl, λ x i. absurd i)
captured_values vars (x ∷ xs) h =
    let v = h x (inl refl) in
    let r = captured_values vars xs (λ y i. h y (inr i)) in (
      (x, v.0) ∷ r.0,
      ap (λ o. with_named x o (captured_from vars xs)) v.1 ∙
          ap (with_named x (Some v.0)) r.1,
      λ y i. of_test y (same_variable x y) refl v.0 v.1 r.0 r.2 i,
    )
  where
    of_test : (y : Variable) (t : Bool) → same_variable x y ≡ t → (v : Value) → value_named vars x ≡ Some v → (named : Named) →
        ((z : Variable) → In z xs → value_named named z ≡ value_named vars z) → In y (x ∷ xs) →
        (if t then Some v else value_named named y) ≡ value_named vars y
    of_test y true t v e named k i = sym e ∙ ap (value_named vars) (true_same x y t)
    of_test y false t v e named k (inl f) = absurd (let s = same_true x y f in cc)
    of_test y false t v e named k (inr i) = k y i

-- a parameter's value is among the parameters
parameter_value : (k o n i : ℕ) (vs : List Value) (rest : Named) (v : Value) → n ≡ o + i → slice_get vs i ≡ Some v →
    value_named (parameters k o vs ++ rest) (Parameter k n) ≡ Some v
parameter_value k o n i [] rest v e g = absurd cc
parameter_value k o n zero (u ∷ vs) rest v e g =
    let f : o ≡ n = omega (arith, e) in
    pick_true (same_variable (Parameter k o) (Parameter k n)) (Some u) (value_named (parameters k (o + 1) vs ++ rest) (Parameter k n))
    (same_true (Parameter k o) (Parameter k n) (ap (λ o. Parameter k o) f)) ∙ g
parameter_value k o n (suc i) (u ∷ vs) rest v e g =
    let ne : nat_eq o n ≡ false = ne_eqb o n (λ f. lt_irrefl o (omega (arith, e, f))) in
    let t : same_variable (Parameter k o) (Parameter k n) ≡ false = ap (λ c. nat_eq k k && c) ne ∙ and_right (nat_eq k k) false refl in
    pick_false (same_variable (Parameter k o) (Parameter k n)) (Some u) (value_named (parameters k (o + 1) vs ++ rest) (Parameter k n)) t ∙
    parameter_value k (o + 1) n i vs rest v (omega (arith, e)) g

-- other variables are behind them
abbrev pub IsNoParameter : ℕ → Variable → Type 0
IsNoParameter k (Parameter b i) = k ≢ b
IsNoParameter k (Local n) = Unit {0}

other_value : (k o : ℕ) (vs : List Value) (rest : Named) (x : Variable) → IsNoParameter k x →
    value_named (parameters k o vs ++ rest) x ≡ value_named rest x
other_value k o [] rest x ne = refl
other_value k o (u ∷ vs) rest (Local n) ne = other_value k (o + 1) vs rest (Local n) ne
other_value k o (u ∷ vs) rest (Parameter b i) ne =
    let t : same_variable (Parameter k o) (Parameter b i) ≡ false = ap (λ c. c && nat_eq o i) (ne_eqb k b ne) in
    pick_false (same_variable (Parameter k o) (Parameter b i)) (Some u) (value_named (parameters k (o + 1) vs ++ rest) (Parameter b i)) t ∙
    other_value k (o + 1) vs rest (Parameter b i) ne

in_range : (a n j : ℕ) → In j (range_with_len a n) → j < a + n
in_range a zero j i = absurd i
in_range a (suc n) j (inl e) = omega (arith, e)
in_range a (suc n) j (inr i) = let h = in_range (a + 1) n j i in omega (arith, h)

module _ (p : Program) (now : ℕ) (h : List Thing) (x : ℕ) (pl : Placed p x) (k : ℕ) (b : Body) (there : slice_get pl.scope.bodies k ≡ Some b)
    (vs : List Value) (typed : AllHave p now h vs (map (kind_at p x pl) b.signature.params)) (captured : Named) where
  parameter_typed : (i : ℕ) → variable_at p x pl (Parameter k i) ≡ option_map (kind_at p x pl) (slice_get b.signature.params i)
  parameter_typed i = ap (λ o. option_map (kind_at p x pl) (parameter_type o i)) there

  parameter_has : (i : ℕ) (t : GroundType) → variable_at p x pl (Parameter k i) ≡ Some t →
      VariableHas p now h x pl (parameters k 0 vs ++ captured) (Parameter k i)
  parameter_has i t e =
      let g : slice_get (map (kind_at p x pl) b.signature.params) i ≡ Some t = get_map (kind_at p x pl) b.signature.params i ∙
      sym (parameter_typed i) ∙ e in
      let r = all_get p now h vs (map (kind_at p x pl) b.signature.params) i t typed g in
      record { kind = t; typed = e; value = r.0; here = parameter_value k 0 i i vs captured r.0 (omega arith) r.1; has = r.2 }

  captured_has : (v : Variable) → VariableHas p now h x pl captured v → VariableHas p now h x pl (parameters k 0 vs ++ captured) v
  captured_has (Local n) c = record {
    kind = c.kind;
    typed = c.typed;
    value = c.value;
    here = other_value k 0 vs captured (Local n) tt ∙ c.here;
    has =
        c.has;
  }
  captured_has (Parameter j i) c = ⊎_elim
      (λ (same : k ≡ j). let P : ℕ → Type 0 = λ j. variable_at p x pl (Parameter j i) ≡ Some c.kind →
      VariableHas p now h x pl (parameters k 0 vs ++ captured) (Parameter j i) in
      subst P same (parameter_has i c.kind) c.typed)
      (λ (ne : k ≢ j). record {
        kind = c.kind;
        typed = c.typed;
        value = c.value;
        here = other_value k 0 vs captured (Parameter j i) ne ∙ c.here;
        has =
            c.has;
      })
      (cases_eq k j)

  own_parameter : (v : Variable) → In v (body_parameters k b) → VariableHas p now h x pl (parameters k 0 vs ++ captured) v
  own_parameter v i =
      let r = In-unmap (λ i. Parameter k i) v (range_with_len 0 (length b.signature.params)) i in
      let lt = in_range 0 (length b.signature.params) r.0 r.1 in
      let t = read_there b.signature.params r.0 (omega (arith, lt)) in
      subst (λ v. VariableHas p now h x pl (parameters k 0 vs ++ captured) v) r.2
      (parameter_has r.0 (kind_at p x pl t.0) (parameter_typed r.0 ∙ ap (option_map (kind_at p x pl)) t.1))

  -- what a method sees: what its literal captured, and its own parameters
  pub method_names : (seen : List Variable) → NamesHave p now h x pl seen captured →
      NamesHave p now h x pl (seen ++ body_parameters k b) (parameters k 0 vs ++ captured)
  method_names seen c = record {
    by =
        λ v i. elim (In-cases v seen (body_parameters k b) i) [ inl j ↦ captured_has v (c.by v j) | inr j ↦ own_parameter v j ];
  }

------------------------------------------------------------
-- Fields

module _ (p : Program) (now : ℕ) (w : World) (sight : Sight) (pl : Placed p sight.instance) (l : ℕ)
    (this : ThisHas p now w.objects sight.instance sight.this (Some l)) (wh : WellHeap p now w.objects) where
  thing_has : ThingHas p now w.objects this.1
  thing_has = wh.by this.0 this.1 this.3 this.6

  -- the fields of the current object
  fields_typed : AllHave p now w.objects this.1.fields (fields_at p sight.instance pl l)
  fields_typed = subst (λ ks. AllHave p now w.objects this.1.fields ks)
      (fields_same p this.1.instance sight.instance thing_has.place pl this.1.literal l this.4 this.5) thing_has.fields

  field_kind : (i : ℕ) (f : Field) → field_at pl.scope (Some l) i ≡ Some f →
      slice_get (fields_at p sight.instance pl l) i ≡ Some (kind_at p sight.instance pl f.typ)
  field_kind i f e = get_mapped (kind_at p sight.instance pl) (field_types pl.scope l) i f.typ
      (get_mapped (λ (f : Field). f.typ) (fields_of pl.scope l) i f e)

  pub field_value : (i : ℕ) (f : Field) → field_at pl.scope (Some l) i ≡ Some f →
      (v : Value) × (field_in (object_of w sight.this) i ≡ Some v) × ValueHas p now w.objects v (kind_at p sight.instance pl f.typ)
  field_value i f e =
      let r = all_get p now w.objects this.1.fields (fields_at p sight.instance pl l) i (kind_at p sight.instance pl f.typ) fields_typed
      (field_kind i f e) in
      (r.0, ap (λ o. field_in (object_of w o) i) this.2 ∙ ap (λ o. field_in o i) this.3 ∙ r.1, r.2)

  -- a field of the current object is set
  pub field_answers : (i : ℕ) (f : Field) (v : Value) → field_at pl.scope (Some l) i ≡ Some f →
      ValueHas p now w.objects v (kind_at p sight.instance pl f.typ) → Answers p now w (λ v w. Unit {0}) (write_field sight.this i v w)
  field_answers i f v e q =
      let t : Thing = this.1 in
      let r = all_get p now w.objects t.fields (fields_at p sight.instance pl l) i (kind_at p sight.instance pl f.typ) fields_typed
      (field_kind i f e) in
      let lt : i < length t.fields = read_within t.fields i r.0 r.1 in
      let fields : List Value = slice_set t.fields i v in
      let set = all_set p now w.objects t.fields (fields_at p sight.instance pl l) i (kind_at p sight.instance pl f.typ) v fields_typed
      (field_kind i f e) q in
      let back : AllHave p now w.objects fields (fields_at p t.instance thing_has.place t.literal) =
      subst (λ ks. AllHave p now w.objects fields ks)
      (sym (fields_same p t.instance sight.instance thing_has.place pl t.literal l this.4 this.5)) set in
      let hs = heap_set p now w.objects this.0 t fields this.3 this.6 wh thing_has back in
      subst (λ o. Answers p now w (λ v w. Unit {0}) (write_field o i v w)) (sym this.2)
      (subst (λ o. Answers p now w (λ v w. Unit {0}) (field_set this.0 i v w o)) (sym this.3)
      (subst (λ (r : Reply). Answers p now w (λ v w. Unit {0}) r)
      (sym (pick_true (nat_lt i (length t.fields)) (replied Nothing (with_fields w this.0 t fields)) (stopped Wrong w)
      (lt-ltb i (length t.fields) lt)))
      (record { by = (hs.0, hs.1, tt) })))

------------------------------------------------------------
-- Names

abbrev pub owner_binding : (p : Program) (x : ℕ) → Placed p x → Option ℕ → Binding → Option GroundType
owner_binding p x pl owner name = binding_type (ground_reading p x pl.instance) pl.scope pl.holds.derivation.locals owner name

variable_same : (p : Program) (x : ℕ) (pl : Placed p x) (owner : Option ℕ) (v : Variable) →
    owner_binding p x pl owner (to.Variable v) ≡ variable_at p x pl v
variable_same p x pl owner (Parameter b i) = refl
variable_same p x pl owner (Local n) = refl

module _ (p : Program) (linked : IsLinked p) (now : ℕ) (early : now ≤ instance_count p) where
  -- what an instance is handed
  own_value : (x : ℕ) (pl : Placed p x) (h : List Thing) (k : ℕ) (n : OwnName) → x ≤ now → WellHeap p now h → slice_get pl.scope.names k ≡ Some n →
      (v : Value) × (actual_value (actual_of (program_starts p) x k) ≡ Some v) × ValueHas p now h v (kind_at p x pl n.typ)
  own_value x pl h k n le wh e =
      let f = linked.arguments.each x pl.instance pl.scope k n pl.is.there pl.is.scope e in
      let handed : actual_of (program_starts p) x k ≡ Some f.argument = ap (λ o. actual_in o k) (started_at p linked x pl.instance pl.is.there) ∙
      f.handed in
      let r = of_actual f.argument f.there f.below in
      (r.0, ap actual_value handed ∙ r.1, r.2)
    where
      of_actual : (a : Actual) → IsThere p x a → ground_below p (actual_type p a) (kind_at p x pl n.typ) →
          (v : Value) × (actual_value (Some a) ≡ Some v) × ValueHas p now h v (kind_at p x pl n.typ)
      of_actual (actual.Grant g) t b = (Grant g, refl, (t, b))
      of_actual (actual.Instance y) lt b =
          let r = wh.first y (omega (arith, lt, le, early)) in (
            Object y,
            refl,
            (
              r.0,
              r.1,
              inl (omega (arith, lt, le)),
              subst (λ i. ground_below p (Own i r.0.literal) (kind_at p x pl n.typ)) (sym r.2)
                  (subst (λ l. ground_below p (Own y l) (kind_at p x pl n.typ)) (sym r.3) b),
            ),
          )

  pub name_value : (owner : Option ℕ) (seen : List Variable) (sight : Sight) (pl : Placed p sight.instance) (w : World) (name : Binding)
      (t : GroundType) →
      SightHas p now w.objects sight pl owner seen → WellHeap p now w.objects → BindingFits p pl.scope owner seen name →
      owner_binding p sight.instance pl owner name ≡ Some t →
      (v : Value) × (value_of_name (program_starts p) sight w name ≡ Some v) × ValueHas p now w.objects v t
  name_value owner seen sight pl w (to.Variable v) t sh wh fits e =
      let r = sh.names.by v fits in
      let same : r.kind ≡ t = some_same (sym r.typed ∙ sym (variable_same p sight.instance pl owner v) ∙ e) in
      (r.value, r.here, subst (λ (k : GroundType). ValueHas p now w.objects r.value k) same r.has)
  name_value None seen sight pl w (to.Field i) t sh wh fits e = absurd fits
  name_value (Some l) seen sight pl w (to.Field i) t sh wh fits e =
      let f = some_mapped (λ (f : Field). kind_at p sight.instance pl f.typ) (field_at pl.scope (Some l) i) t e in
      let r = field_value p now w sight pl l sh.this wh i f.0 f.1 in
      (r.0, r.1, subst (λ (k : GroundType). ValueHas p now w.objects r.0 k) f.2 r.2)
  name_value owner seen sight pl w (to.Own k) t sh wh fits e =
      let n = some_mapped (λ (n : OwnName). kind_at p sight.instance pl n.typ) (slice_get pl.scope.names k) t e in
      let r = own_value sight.instance pl w.objects k n.0 sh.early wh n.1 in
      (r.0, r.1, subst (λ (k : GroundType). ValueHas p now w.objects r.0 k) n.2 r.2)

  mutable_same : (o : Option Field) (f : Field) → if_mutable o ≡ Some f → o ≡ Some f
  mutable_same None f e = absurd cc
  mutable_same (Some g) f e = of_test g.mutable e
    where
      of_test : (b : Bool) → (if b then Some g else None) ≡ Some f → Some g ≡ Some f
      of_test true e = e
      of_test false e = absurd cc

  pub assigned_answers : (owner : Option ℕ) (seen : List Variable) (sight : Sight) (pl : Placed p sight.instance) (w : World) (name : Binding)
      (f : Field) (v : Value) →
      SightHas p now w.objects sight pl owner seen → WellHeap p now w.objects → var_field pl.scope owner name ≡ Some f →
      ValueHas p now w.objects v (kind_at p sight.instance pl f.typ) →
      Answers p now w (λ v w. Unit {0}) (assigned sight name v w)
  assigned_answers owner seen sight pl w (to.Variable x) f v sh wh e q = absurd cc
  assigned_answers owner seen sight pl w (to.Own k) f v sh wh e q = absurd cc
  assigned_answers None seen sight pl w (to.Field i) f v sh wh e q = absurd cc
  assigned_answers (Some l) seen sight pl w (to.Field i) f v sh wh e q =
      field_answers p now w sight pl l sh.this wh i f v (mutable_same (field_at pl.scope (Some l) i) f e) q
