-- Choices, calls on values and new objects, where the parts have their types.
use Rattle.std.proofs.Common.{◌≡◌, ℕ, ◌+◌, ◌<◌, Bool, true, false, List, [], ◌∷◌, ◌++◌, length, inr, refl, sym, ap, ◌∙◌, subst, Option, Some, nat_eq, nat_lt}
use Rattle.std.specs.Prelude.{slice_get, if◌then◌else◌}
use Rattle.std.proofs.lemmas.Bool.{eq-eqb}
use Rattle.wy_text.specs.Members.{In, Within}
use Rattle.wy_text.specs.declared.fault.Place.{Place}
use Rattle.wy_types.specs.declared.code.Variable.{Variable}
use Rattle.wy_types.specs.declared.types.TypeRef.TheVariants as of
use Rattle.wy_types.specs.declared.linked.Actual.TheVariants as actual
use Rattle.wy_types.specs.declared.resolved.Field.{Field}
use Rattle.wy_types.specs.Program.{Program}
use Rattle.wy_types.specs.Signature.{Signature, find_method}
use Rattle.wy_types.specs.Core.{IsCore}
use Rattle.wy_types.specs.Vals.{literal_fields, literal_captures}
use Rattle.wy_rules.specs.GroundTypes.{GroundType, Int as Ints, Bool as Truths, Text as Texts, Nothing as Nothings, Own, ground_methods}
use Rattle.wy_rules.specs.Typing.{fields_of, field_types}
use Rattle.wy_device.specs.Editions.{current}
use Rattle.wy_device.specs.RunEnds.{Trap, Wrong}
use Rattle.wy_device.specs.Traps.{most_objects, Crowded}
use Rattle.wy_meaning.specs.Values.{Value, Int as Number, Truth, Nothing, Text, Object, Grant, Thing, World, Reply, replied, stopped, object_made}
use Rattle.wy_meaning.specs.Starts.{literal_in, scope_of_instance, grant_of}
use Rattle.wy_meaning.specs.Results.{Result}
use Rattle.wy_meaning.specs.Eval.{Sight, Calls, choose, apply, captured_from, object_with, object_new}
use Rattle.wy_meaning.specs.Performing.{perform}
use Rattle.wy_sound.specs.Arguments.{actual_type}
use Rattle.wy_sound.specs.Programs.{program_starts}
use Rattle.wy_sound.proofs.Linked.{IsLinked}
use Rattle.wy_sound.proofs.LinkingLists.{read_there, read_next}
use Rattle.wy_sound.proofs.Lists.{pick_true, map_length}
use Rattle.wy_sound.proofs.Below.{Below, StandsFor, method_below}
use Rattle.wy_sound.specs.TypedHeaps.{Placed, kind_at, fields_at, Ready, ValueHas, AllHave, VariableHas, ThingHas, WellHeap, SightHas}
use Rattle.wy_sound.proofs.Heaps.{all_below, all_length, value_below, heap_more}
use Rattle.wy_sound.proofs.BaseTypes.{truth_at, own_kind}
use Rattle.wy_sound.proofs.Results.{Sound, Answers, Valued, wider_sound, more_sound, trap_answers}
use Rattle.wy_sound.proofs.Performing.{perform_sound}
use Rattle.wy_sound.proofs.Names.{captured_values}
use Rattle.wy_sound.proofs.Placing.{scope_there}

module _ (p : Program) (now : ℕ) where
  -- a choice by a truth value
  pub choose_sound : (core : IsCore p) (f : List ℕ) (x : ℕ) (pl : Placed p x) (v : Value) (first second : World → Result Value) (k : GroundType)
      (w : World) →
      ValueHas p now w.objects v (kind_at p x pl of.Bool) → Sound p now f w (Valued p now k) (first w) → Sound p now f w (Valued p now k) (second w) →
      Sound p now f w (Valued p now k) (choose v first second w)
  choose_sound core f x pl v first second k w q a b =
      let t = truth_at p core now x pl w.objects v q in
      subst (λ v. Sound p now f w (Valued p now k) (choose v first second w)) (sym t.1) (of_truth t.0)
    where
      of_truth : (t : Bool) → Sound p now f w (Valued p now k) (choose (Truth t) first second w)
      of_truth true = a
      of_truth false = b

  -- what calls on objects do, within the effect of the object's own method
  pub record CallsSound (calls : Calls) : Type 0 where
    pub by : (a : ℕ) (t : Thing) (name : List ℕ) (vs : List Value) (w : World) (m : Signature GroundType) → slice_get w.objects a ≡ Some t →
        Ready p now a →
        find_method name (ground_methods p (Own t.instance t.literal)) ≡ Some m → AllHave p now w.objects vs m.params → WellHeap p now w.objects →
        Sound p now m.effect w (Valued p now m.result) (calls a name vs w)

  no_method : (s k : GroundType) (name : List ℕ) (m : Signature GroundType) → ground_methods p s ≡ [] → Below p s k →
      find_method name (ground_methods p k) ≡ Some m → ⊥
  no_method s k name m none q e =
      let r = method_below p s k name m q e in
      let g : find_method name [] ≡ Some r.method = ap (find_method name) (sym none) ∙ r.found in
      absurd cc

  module _ (core : IsCore p) (calls : Calls) (ok : CallsSound calls) (f : List ℕ) (place : Place) (name : List ℕ) (vs : List Value) (w : World)
      (k : GroundType) (m : Signature GroundType)
      (found : find_method name (ground_methods p k) ≡ Some m) (typed : AllHave p now w.objects vs m.params) (fits : Within m.effect f)
      (wh : WellHeap p now w.objects) where
    -- the method of a type below stands for it
    stands_sound : (s : GroundType) (h : Signature GroundType) → StandsFor p h m → (r : Result Value) →
        (AllHave p now w.objects vs h.params → Sound p now h.effect w (Valued p now h.result) r) → Sound p now f w (Valued p now m.result) r
    stands_sound s h st r sound =
        wider_sound p now f w (Valued p now m.result) h.effect (λ a i. fits a (st.effect a i)) r
        (more_sound p now h.effect w (Valued p now h.result) (Valued p now m.result)
        (λ v w q. value_below p now w.objects v h.result m.result q st.result) r
        (sound (all_below p now w.objects vs m.params h.params typed st.params)))

    pub apply_sound : (v : Value) → ValueHas p now w.objects v k → Sound p now f w (Valued p now m.result) (apply p (program_starts p) calls place v name vs w)
    apply_sound (Object a) q =
        let r = method_below p (Own q.0.instance q.0.literal) k name m q.3 found in
        stands_sound (Own q.0.instance q.0.literal) r.method r.stands (calls a name vs w) (λ t. ok.by a q.0 name vs w r.method q.1 q.2 r.found t wh)
    apply_sound (Grant g) q =
        let r = method_below p (actual_type p (actual.Grant g)) k name m q.1 found in
        stands_sound (actual_type p (actual.Grant g)) r.method r.stands (perform current place (grant_of current p g) name vs w)
        (λ t. perform_sound p now core g q.0 place name vs w r.method r.found t wh)
    apply_sound (Number n) q = absurd (no_method Ints k name m refl q found)
    apply_sound (Truth b) q = absurd (no_method Truths k name m refl q found)
    apply_sound Nothing q = absurd (no_method Nothings k name m refl q found)
    apply_sound (Text s) q = absurd (no_method Texts k name m refl q found)

  ------------------------------------------------------------
  -- New objects

  module _ (linked : IsLinked p) (place : Place) (sight : Sight) (pl : Placed p sight.instance) (owner : Option ℕ) (seen : List Variable) (w : World)
      (sh : SightHas p now w.objects sight pl owner seen) (wh : WellHeap p now w.objects) where
    made_answers : (t : Thing) → ThingHas p now w.objects t → (k : GroundType) → Ready p now (length w.objects) →
        Below p (Own t.instance t.literal) k → Answers p now w (Valued p now k) (object_made place t w)
    made_answers t th k ready below = of_room (nat_lt w.made most_objects)
      where
        of_room : (b : Bool) → Answers p now w (Valued p now k)
            (if b then replied (Object (length w.objects)) (record w { objects = w.objects ++ t ∷ []; made = w.made + 1 }) else stopped
            (Trap Crowded place) w)
        of_room true = let h = heap_more p now w.objects t wh th in record { by = (h.0, h.1, (t, read_next w.objects [] t, ready, below)) }
        of_room false = trap_answers p now w (Valued p now k) Crowded place wh

    pub new_answers : (l : ℕ) (vs : List Value) → l < length pl.scope.literals → Within (literal_captures (slice_get pl.scope.literals l)) seen →
        AllHave p now w.objects vs (fields_at p sight.instance pl l) →
        Answers p now w (Valued p now (kind_at p sight.instance pl (of.Own l)))
        (object_new place sight l vs w (literal_in (scope_of_instance p (program_starts p) sight.instance) l))
    new_answers l vs lt within typed =
        let lit = read_there pl.scope.literals l lt in
        let ok : Value → World → Type 0 = Valued p now (kind_at p sight.instance pl (of.Own l)) in
        let captures : literal_captures (slice_get pl.scope.literals l) ≡ lit.0.captures = ap literal_captures lit.1 in
        let has : (x : Variable) → In x lit.0.captures → VariableHas p now w.objects sight.instance pl sight.variables x =
        λ x i. sh.names.by x (within x (subst (λ xs. In x xs) (sym captures) i)) in
        let c = captured_values sight.variables lit.0.captures (λ x i. ((has x i).value, (has x i).here)) in
        let t : Thing = record { instance = sight.instance; literal = l; captured = c.0; fields = vs } in
        let th : ThingHas p now w.objects t = record {
          place = pl;
          early = sh.early;
          fields = typed;
          captured = record {
            by = λ x i. let j = subst (λ xs. In x xs) captures i in let v =
                has x j in record { kind = v.kind; typed = v.typed; value = v.value; here = c.2 x j ∙ v.here; has = v.has };
          };
        } in
        let long : length vs ≡ length lit.0.fields =
        all_length p now w.objects vs (fields_at p sight.instance pl l) typed ∙ map_length (kind_at p sight.instance pl) (field_types pl.scope l) ∙
        map_length (λ (f : Field). f.typ) (fields_of pl.scope l) ∙
        ap (λ o. length (literal_fields o)) lit.1 in
        let ready : Ready p now (length w.objects) = inr wh.long in
        subst (λ o. Answers p now w ok (object_new place sight l vs w (literal_in o l))) (sym (scope_there p linked sight.instance pl))
        (subst (λ o. Answers p now w ok (object_new place sight l vs w o)) (sym lit.1)
        (subst (λ (r : Reply). Answers p now w ok r)
        (sym (pick_true (nat_eq (length vs) (length lit.0.fields)) (object_with place sight l vs w (captured_from sight.variables lit.0.captures))
        (stopped Wrong w) (eq-eqb (length vs) (length lit.0.fields) long)))
        (subst (λ o. Answers p now w ok (object_with place sight l vs w o)) (sym c.1)
        (made_answers t th (kind_at p sight.instance pl (of.Own l)) ready (own_kind p sight.instance pl l)))))
