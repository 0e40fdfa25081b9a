-- What pushes a name's value finds it: in a slot, among the values of the current object, or as a constant.
use Rattle.std.proofs.Common.{◌≡◌, ◌⊎◌, inl, inr, ℕ, zero, suc, ◌+◌, ◌<◌, ◌≤◌, ◌-◌, Bool, true, false, List, [], ◌∷◌, length, map, Option, Some, None, refl, sym, ap, ◌∙◌, subst, arith, if◌then◌else◌}
use Rattle.std.proofs.lemmas.Bool.{cases_lt, both_ways}
use Rattle.std.specs.Prelude.{slice_get}
use Rattle.wy_text.specs.declared.fault.Place.{Place}
use Rattle.wy_types.specs.declared.code.Variable.{Variable}
use Rattle.wy_types.specs.declared.code.Binding.{Binding}
use Rattle.wy_types.specs.declared.code.Binding.TheVariants as to
use Rattle.wy_types.specs.declared.linked.Actual.{Actual}
use Rattle.wy_types.specs.declared.linked.Actual.TheVariants as actual
use Rattle.wy_types.specs.Program.{Program, Scope}
use Rattle.wy_meaning.specs.Values.{Value, Object, Named, Thing, World, same_variable, value_named, found, object_of, field_in}
use Rattle.wy_meaning.specs.Starts.{Starts, all_started, actual_in, actual_of, scope_started, scope_of_instance}
use Rattle.wy_meaning.specs.Eval.{Sight, object_value, actual_value, value_of_name}
use Rattle.wy_meaning.specs.Results.{tick, settle}
use Rattle.wy_code.specs.declared.code.Body.{Body}
use Rattle.wy_code.specs.declared.code.Code.{Code}
use Rattle.wy_code.specs.declared.instruction.Instruction.TheVariants.{Push, Load, Get}
use Rattle.wy_code.specs.Stores as word
use Rattle.wy_code.specs.Stores.{Word, Store, Reply, Replies, value_in, value_at}
use Rattle.wy_code.specs.Machine.{Frame, State, push_reply, first_of, word_of, act, step}
use Rattle.wy_lower.specs.Inside.{Inside, is_own, slot_of, own_values, capture_from, capture_value, field_value, handed_constant, name_code}
use Rattle.wy_lower.specs.Listing.{one}
use Rattle.wy_lower.specs.Lowerable.{Lowerable}
use Rattle.wy_lower.specs.Lowering.{is_program, text_table, method_table}
use Rattle.wy_lower.proofs.Addresses.{Stands, state, pushed, acts, wrong_answers, answer_runs}
use Rattle.wy_lower.proofs.Leads.{Runs}
use Rattle.wy_lower.proofs.Looking.{some_is, get_front, get_behind, there}
use Rattle.wy_lower.proofs.Ready.{Ready, Fine}
use Rattle.wy_lower.proofs.Relation.{Same, same_object, same_grant, Found, found_at, word_handed, own_count, SameThing}
use Rattle.wy_lower.proofs.Replies.{Fits, replied_fits}
use Rattle.wy_lower.proofs.Slots.{picked, not_picked, first_is, Self, Alone}

pub length_map : {A B : Type 0} (f : A → B) (xs : List A) → length (map f xs) ≡ length xs
length_map f [] = refl
length_map f (x ∷ xs) = ap suc (length_map f xs)

-- where a captured variable stands among the names that were captured
pub record Caught (y : Variable) (v : Value) (c : Named) (from place : ℕ) : Type 0 where
  pub offset : ℕ
  pub entry : Variable × Value
  pub at : place ≡ from + offset
  pub is : slice_get c offset ≡ Some entry
  pub value : entry.1 ≡ v

pub caught_at : (y : Variable) (v : Value) (c : Named) (from : ℕ) → value_named c y ≡ Some v →
    Caught y v c from (capture_from from y (map (λ (e : Variable × Value). e.0) c))
caught_at y v [] from e = absurd cc
caught_at y v (x ∷ c) from e = of (same_variable x.0 y) refl (λ h. caught_at y v c (from + 1) h)
  where
    names : List Variable
    names = map (λ (e : Variable × Value). e.0) c

    of : (b : Bool) → same_variable x.0 y ≡ b →
        (value_named c y ≡ Some v → Caught y v c (from + 1) (capture_from (from + 1) y (map (λ (e : Variable × Value). e.0) c))) →
        Caught y v (x ∷ c) from (capture_from from y (map (λ (e : Variable × Value). e.0) (x ∷ c)))
    of true t rest = record {
      offset = 0;
      entry = x;
      at = picked (same_variable x.0 y) from (capture_from (from + 1) y names) t ∙ (let z : from ≡ from + 0 = omega arith in z);
      is = refl;
      value = some_is (sym (picked (same_variable x.0 y) (Some x.1) (value_named c y) t) ∙ e);
    }
    of false t rest =
        let r = rest (sym (not_picked (same_variable x.0 y) (Some x.1) (value_named c y) t) ∙ e) in
        record {
          offset = suc r.offset;
          entry = r.entry;
          at = not_picked (same_variable x.0 y) from (capture_from (from + 1) y names) t
              ∙ (r.at ∙ (let z : from + 1 + r.offset ≡ from + suc r.offset = omega arith in z));
          is = r.is;
          value = r.value;
        }

-- what a name is handed, as a value and as a word
pub handed_same : (t : List (List ℕ)) (a : Actual) (v : Value) → actual_value (Some a) ≡ Some v → Same t v (word_handed a)
handed_same t (actual.Grant g) v e = subst (λ (z : Value). Same t z (word.Grant g)) (some_is e) (same_grant g)
handed_same t (actual.Instance x) v e = subst (λ (z : Value). Same t z (word.Object x)) (some_is e) (same_object x)

pub constant_handed : (a : Actual) → word_of (handed_constant (Some a)) ≡ word_handed a
constant_handed (actual.Grant g) = refl
constant_handed (actual.Instance x) = refl

pub handed_some : (o : Option Actual) (v : Value) → actual_value o ≡ Some v → (a : Actual) × (o ≡ Some a)
handed_some None v e = absurd cc
handed_some (Some a) v e = (a, refl)

-- a body of a scope, in an instance of it
pub record Belongs (p : Program) (s : Starts) (sc : Scope) (i : Inside) (x : ℕ) : Type 0 where
  pub stands : scope_of_instance p s x ≡ Some sc
  pub program : i.program ≡ is_program sc.kind
  pub owns : i.owns ≡ length sc.names
  pub actuals : i.actuals ≡ s.main.actuals
  pub texts : i.texts ≡ text_table p
  pub methods : i.methods ≡ method_table p

pub owned : (p : Program) (s : Starts) (sc : Scope) (i : Inside) (x : ℕ) → Belongs p s sc i x → own_values i ≡ own_count sc
owned p s sc i x h = ap (λ b. if b then 0 else i.owns) h.program ∙ ap (λ (k : ℕ). if is_program sc.kind then 0 else k) h.owns

module _ (p : Program) (s : Starts) (ok : Lowerable p s) where
  -- an instance of the program itself is `main`
  pub main_is : (x : ℕ) (sc : Scope) → scope_of_instance p s x ≡ Some sc → is_program sc.kind ≡ true → slice_get (all_started s) x ≡ Some s.main
  main_is x sc e kind = of (cases_lt x (length s.instances))
    where
      module_only : (x < length s.instances) → ⊥
      module_only l =
          let h = there s.instances x l in
          let m = ok.instances x h.0 h.1 in
          let z : slice_get (all_started s) x ≡ Some h.0 = get_front s.instances (s.main ∷ []) x h.0 h.1 in
          let f : Some m.scope ≡ Some sc = sym m.stands ∙ (sym (ap (scope_started p) z) ∙ e) in
          both_ways (is_program sc.kind) (subst (λ (c : Scope). is_program c.kind ≡ false) (some_is f) m.is_module) kind

      at_end : (k : ℕ) → x ≡ length s.instances + k → slice_get (all_started s) x ≡ Some s.main
      at_end zero z = get_behind s.instances (s.main ∷ []) 0 x z
      at_end (suc k) z =
          let f : slice_get (all_started s) x ≡ None = get_behind s.instances (s.main ∷ []) (suc k) x z in
          let g : scope_of_instance p s x ≡ None = ap (scope_started p) f in
          absurd cc

      of : (x < length s.instances) ⊎ (length s.instances ≤ x) → slice_get (all_started s) x ≡ Some s.main
      of (inl l) = absurd (module_only l)
      of (inr l) = at_end (x - length s.instances) (omega arith)

  module _ (sc : Scope) (i : Inside) (x : ℕ) (of_scope : Belongs p s sc i x) (sight : Sight) (w0 : World) (m0 : Store) (w : World) (m : Store)
      (slots : List Word) (r : Ready p s i x sight w0 m0 w m slots) where
    -- the current object, as the machine has it
    pub record Mine (a : ℕ) (o : Thing) : Type 0 where
      pub item : word.Thing
      pub is : slice_get m.objects a ≡ Some item
      pub same : SameThing p s m.texts o item
      pub read : (k : ℕ) → value_at m (first_of slots) k ≡ slice_get item.values k
      pub scope : same.scope ≡ sc
      pub offset : own_count same.scope ≡ own_values i

    pub mine : (h : Self i x w sight slots) → Mine h.object h.thing
    mine h =
        let f = r.world.objects h.object h.thing h.is in
        let z : f.same.scope ≡ sc = some_is (sym f.same.stands ∙ (ap (scope_of_instance p s) h.instance ∙ of_scope.stands)) in
        record {
          item = f.thing;
          is = f.is;
          same = f.same;
          read = λ k. ap (λ (y : Word). value_at m y k) (first_is slots _ h.slot) ∙ ap (λ o. value_in o k) f.is;
          scope = z;
          offset = ap own_count z ∙ sym (owned p s sc i x of_scope);
        }

    -- a variable that is not the body's own
    pub captured_found : (y : Variable) (v : Value) → is_own i y ≡ false → value_named sight.variables y ≡ Some v →
        Found m.texts v (value_at m (first_of slots) (capture_value i y))
    captured_found y v o e = of r.holds.self
      where
        of : Self i x w sight slots ⊎ Alone i x sight → Found m.texts v (value_at m (first_of slots) (capture_value i y))
        of (inr a) = absurd (a.none y v o e)
        of (inl h) =
            let q = mine h in
            let c = caught_at y v h.thing.captured 0 (h.caught y v o e) in
            let n : capture_from 0 y i.captures ≡ 0 + c.offset = ap (capture_from 0 y) (sym h.names) ∙ c.at in
            let z : capture_value i y ≡ own_count q.same.scope + c.offset = omega (arith, n, q.offset) in
            let f = q.same.caught c.offset c.entry c.is in
            record {
              word = f.word;
              is = q.read (capture_value i y) ∙ (ap (slice_get q.item.values) z ∙ f.is);
              same = subst (λ (u : Value). Same m.texts u f.word) c.value f.same;
            }

    pub own_slot_found : (y : Variable) (v : Value) → is_own i y ≡ true → value_named sight.variables y ≡ Some v →
        Found m.texts v (slice_get slots (slot_of i y))
    own_slot_found y v o e = r.holds.held y v o e

    this_found : (v : Value) → object_value sight.this ≡ Some v → Found m.texts v (slice_get slots 0)
    this_found v e = of r.holds.self sight.this refl
      where
        of : Self i x w sight slots ⊎ Alone i x sight → (o : Option ℕ) → sight.this ≡ o → Found m.texts v (slice_get slots 0)
        of c None t = let z : object_value sight.this ≡ None = ap object_value t in absurd cc
        of (inr a) (Some b) t = let z = a.this in absurd cc
        of (inl h) (Some b) t =
            let z : object_value sight.this ≡ Some (Object b) = ap object_value t in
            let f : Object b ≡ v = some_is (sym z ∙ e) in
            record {
              word = word.Object h.object;
              is = h.slot;
              same = subst (λ (u : Value). Same m.texts u (word.Object h.object)) f
                  (subst (λ (k : ℕ). Same m.texts (Object b) (word.Object k)) (h.this b t) (same_object b));
            }

    field_found : (k : ℕ) (v : Value) → field_in (object_of w sight.this) k ≡ Some v → Found m.texts v (value_at m (first_of slots) (field_value i k))
    field_found k v e = of r.holds.self sight.this refl
      where
        of : Self i x w sight slots ⊎ Alone i x sight → (o : Option ℕ) → sight.this ≡ o →
            Found m.texts v (value_at m (first_of slots) (field_value i k))
        of c None t = let z : field_in (object_of w sight.this) k ≡ None = ap (λ o. field_in (object_of w o) k) t in absurd cc
        of (inr a) (Some b) t = let z = a.this in absurd cc
        of (inl h) (Some b) t =
            let q = mine h in
            let f : field_in (object_of w sight.this) k ≡ slice_get h.thing.fields k = ap (λ o. field_in (object_of w o) k) t
            ∙ (ap (λ (c : ℕ). field_in (slice_get w.objects c) k) (h.this b t) ∙ ap (λ o. field_in o k) h.is) in
            let n : length i.captures ≡ length h.thing.captured = ap length (sym h.names)
            ∙ length_map (λ (c : Variable × Value). c.0) h.thing.captured in
            let z : field_value i k ≡ own_count q.same.scope + length h.thing.captured + k = omega (arith, n, q.offset) in
            found_at m.texts v _ _ (q.read (field_value i k) ∙ ap (slice_get q.item.values) z) (q.same.fields k v (sym f ∙ e))

    own_found : (k : ℕ) (v : Value) → i.program ≡ false → actual_value (actual_of s sight.instance k) ≡ Some v →
        Found m.texts v (value_at m (first_of slots) k)
    own_found k v other e = of r.holds.self
      where
        of : Self i x w sight slots ⊎ Alone i x sight → Found m.texts v (value_at m (first_of slots) k)
        of (inr a) = absurd (both_ways i.program other a.program)
        of (inl h) =
            let q = mine h in
            let a = handed_some (actual_of s sight.instance k) v e in
            let here : actual_of s h.thing.instance k ≡ Some a.0 = ap (λ (c : ℕ). actual_of s c k) (h.instance ∙ sym r.holds.instance) ∙ a.1 in
            let kind : is_program q.same.scope.kind ≡ false = ap (λ (c : Scope). is_program c.kind) q.scope ∙ (sym of_scope.program ∙ other) in
            let f = q.same.own kind k a.0 here in
            record { word = word_handed a.0; is = q.read k ∙ f.1; same = handed_same m.texts a.0 v (sym (ap actual_value a.1) ∙ e) }

    -- what the program's own names stand for is known
    own_constant : (k : ℕ) (v : Value) → i.program ≡ true → actual_value (actual_of s sight.instance k) ≡ Some v →
        Same m.texts v (word_of (handed_constant (slice_get i.actuals k)))
    own_constant k v here e =
        let a = handed_some (actual_of s sight.instance k) v e in
        let main : slice_get (all_started s) sight.instance ≡ Some s.main = ap (slice_get (all_started s)) r.holds.instance
        ∙ main_is x sc of_scope.stands (sym of_scope.program ∙ here) in
        let there : slice_get i.actuals k ≡ Some a.0 = ap (λ l. slice_get l k) of_scope.actuals ∙ (sym (ap (λ o. actual_in o k) main) ∙ a.1) in
        subst (λ (z : Word). Same m.texts v z) (sym (ap (λ o. word_of (handed_constant o)) there ∙ constant_handed a.0))
        (handed_same m.texts a.0 v (sym (ap actual_value a.1) ∙ e))

    ------------------------------------------------------------
    -- The instruction of a name

    module _ (g : Code) (n : ℕ) (b : Body) (callers : List Frame) (at end : ℕ) (operands : List Word)
        (room : length slots + length operands < b.slots) (place : Place) where
      found_runs : (t : State) (o : Option Value) (z : Option Word) → ((v : Value) → o ≡ Some v → Found m.texts v z) →
          step g n t ≡ push_reply (word.found z m) (state x b callers end slots operands m) →
          Runs g n (Fine p s i x sight w0 m0) (pushed x b callers end operands) t (tick (settle (found o w)))
      found_runs t o z h st = answer_runs x b callers (Fine p s i x sight w0 m0) slots g n end operands m t room _ _ (of o refl) st
        where
          of : (c : Option Value) → o ≡ c → Fits p s i x sight w0 m0 slots (settle (found c w)) (word.found z m)
          of None e = wrong_answers _ slots w _
          of (Some v) e =
              let f = h v e in
              subst (λ d. Fits p s i x sight w0 m0 slots (settle (found (Some v) w)) (word.found d m)) (sym f.is)
              (replied_fits p s i x sight w0 m0 slots w m r v f.word f.same)

      pub this_runs : Stands b at (one place (Load 0)) end →
          Runs g n (Fine p s i x sight w0 m0) (pushed x b callers end operands) (state x b callers at slots operands m)
          (tick (settle (found (object_value sight.this) w)))
      this_runs code = found_runs _ _ (slice_get slots 0) this_found (acts x b callers g n at place (Load 0) end slots operands m code)

      pub name_runs : (name : Binding) → Stands b at (one place (name_code i name)) end →
          Runs g n (Fine p s i x sight w0 m0) (pushed x b callers end operands) (state x b callers at slots operands m)
          (tick (settle (found (value_of_name s sight w name) w)))
      name_runs (to.Variable y) code = of (is_own i y) refl
        where
          of : (c : Bool) → is_own i y ≡ c → Runs g n (Fine p s i x sight w0 m0) (pushed x b callers end operands)
              (state x b callers at slots operands m) (tick (settle (found (value_named sight.variables y) w)))
          of true o =
              found_runs _ _ (slice_get slots (slot_of i y)) (λ v e. own_slot_found y v o e)
              (acts x b callers g n at place _ end slots operands m code
              ∙ ap (λ k. act g n place k (state x b callers end slots operands m))
              (picked (is_own i y) (Load (slot_of i y)) (Get (capture_value i y)) o))
          of false o =
              found_runs _ _ (value_at m (first_of slots) (capture_value i y)) (λ v e. captured_found y v o e)
              (acts x b callers g n at place _ end slots operands m code
              ∙ ap (λ k. act g n place k (state x b callers end slots operands m))
              (not_picked (is_own i y) (Load (slot_of i y)) (Get (capture_value i y)) o))
      name_runs (to.Field k) code = found_runs _ _ (value_at m (first_of slots) (field_value i k)) (field_found k)
          (acts x b callers g n at place _ end slots operands m code)
      name_runs (to.Own k) code = of i.program refl
        where
          constant : Word
          constant = word_of (handed_constant (slice_get i.actuals k))

          of : (c : Bool) → i.program ≡ c → Runs g n (Fine p s i x sight w0 m0) (pushed x b callers end operands)
              (state x b callers at slots operands m) (tick (settle (found (actual_value (actual_of s sight.instance k)) w)))
          of true t =
              found_runs _ _ (Some constant) (λ v e. record { word = constant; is = refl; same = own_constant k v t e })
              (acts x b callers g n at place _ end slots operands m code
              ∙ ap (λ c. act g n place c (state x b callers end slots operands m))
              (picked i.program (Push (handed_constant (slice_get i.actuals k))) (Get k) t))
          of false t =
              found_runs _ _ (value_at m (first_of slots) k) (λ v e. own_found k v t e)
              (acts x b callers g n at place _ end slots operands m code
              ∙ ap (λ c. act g n place c (state x b callers end slots operands m))
              (not_picked i.program (Push (handed_constant (slice_get i.actuals k))) (Get k) t))
