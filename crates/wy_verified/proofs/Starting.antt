-- Bodies that start: the first one, and at Finish the next instance's or the program's.
use Rattle.std.proofs.Common.{◌≡◌, ℕ, zero, suc, ◌+◌, ◌<◌, ◌≤◌, List, [], ◌∷◌, ◌++◌, length, map, replicate}
use Rattle.std.proofs.Common.{append_assoc, inl, inr, ⊎_elim, refl, sym, ap, ◌∙◌, subst, Option, Some, None, arith}
use Rattle.std.proofs.lemmas.Bool.{cases_eq, lt-ltb}
use Rattle.std.specs.Prelude.{slice_get, nat_lt}
use Rattle.wy_text.specs.declared.fault.Place.{Place}
use Rattle.wy_device.specs.declared.deed.Event.{Event}
use Rattle.wy_device.specs.declared.deed.Event.TheVariants.{Enter, Leave}
use Rattle.wy_device.specs.Tapes.{Tapes}
use Rattle.wy_code.specs.declared.code.Argument.{Argument}
use Rattle.wy_code.specs.declared.code.Argument.TheVariants as argument
use Rattle.wy_code.specs.declared.code.Body.{Body}
use Rattle.wy_code.specs.declared.code.Scope.{Scope}
use Rattle.wy_code.specs.declared.code.Instance.{Instance}
use Rattle.wy_code.specs.declared.instruction.Instruction.TheVariants.{Finish}
use Rattle.wy_code.specs.Stores.{Word, Int, Truth, Nothing, Text, Object, Grant, Thing, Store}
use Rattle.wy_code.specs.Machine.{Frame, State, Next, Go, first_of, all_instances, name_in, scope_in, literal_of_scope}
use Rattle.wy_code.specs.Machine.{start_in, this_at_start, frame_at_first, begin_body, begin_instance, begin_next}
use Rattle.wy_code.specs.Machine.{finish}
use Rattle.wy_code.specs.Running.{word_handed, field_count, object_at_first, objects_at_first, store_at_first}
use Rattle.wy_image.specs.declared.typing.Bounds.{Bounds}
use Rattle.wy_verified.specs.Images.{Image}
use Rattle.wy_meaning.specs.Bounds.{Call, BoundedFrom}
use Rattle.wy_verified.specs.Kinds.{Kind, Own, Granted, kind_in, kinds_in, value_kinds}
use Rattle.wy_verified.specs.Rules.{BodyFollows, Known, Owner, SlotHas, at_first, ArgumentFits, ArgumentsFit}
use Rattle.wy_verified.specs.Rules.{InstanceIs, IsVerified}
use Rattle.wy_verified.specs.Laws.{authority_of}
use Rattle.std.proofs.lemmas.Option.{slice_get_within, slice_get_past}
use Rattle.wy_verified.proofs.Lists.{some_same, none_some, pick_true, read_first, read_there}
use Rattle.std.proofs.lemmas.List.{length-append, length-replicate}
use Rattle.wy_verified.proofs.Lists.{map_length}
use Rattle.wy_verified.proofs.Below.{below_refl, below_same, below_fits}
use Rattle.wy_verified.proofs.Heaps.{count, Has, AllHave, all_each, ThingHas, HeapAt, heap_same}
use Rattle.wy_verified.proofs.Granting.{Later}
use Rattle.wy_verified.proofs.Frames.{Context, Typed, FirstHas, ThisHas, Callers, Good, Fine, call_of, Running}
use Rattle.wy_verified.proofs.Calls.{instance_there}
use Rattle.wy_verified.proofs.Steps.{Does, Says}

module _ (image : Image) where
  ------------------------------------------------------------
  -- One instance more has started

  has_later : (now : ℕ) (w : Store) (v : Word) (k : Kind) → Has image now w v k → Has image (suc now) w v k
  has_later now w (Int n) k h = h
  has_later now w (Truth b) k h = h
  has_later now w Nothing k h = h
  has_later now w (Text t) k h = h
  has_later now w (Object a) k h = (h.0, h.1, elim h.2 [ inl l ↦ inl (omega arith) | inr l ↦ inr l ], h.3)
  has_later now w (Grant g) k h = h

  all_later : (now : ℕ) (w : Store) (vs : List Word) (ks : List Kind) → AllHave image now w vs ks →
      AllHave image (suc now) w vs ks
  all_later now w [] [] h = tt
  all_later now w [] (k ∷ ks) h = absurd h
  all_later now w (v ∷ vs) [] h = absurd h
  all_later now w (v ∷ vs) (k ∷ ks) h = (has_later now w v k h.0, all_later now w vs ks h.1)

  thing_later : (now : ℕ) (w : Store) (t : Thing) → ThingHas image now w t → ThingHas image (suc now) w t
  thing_later now w t h =
      record {
        values = all_later now w t.values (value_kinds image t.instance t.literal) h.values;
        early = let e =
            h.early in omega (arith, e);
      }

  -- the object of the instance that started is ready once all its fields are set
  heap_later : (now held set : ℕ) (w : Store) (this : Word) → now < count image →
      held + set ≡ length (value_kinds image now 0) → HeapAt image now w →
      FirstHas image now held w set this → HeapAt image (suc now) w
  heap_later now held set w this lt full h f = record {
    by = λ a t e r. ⊎_elim
        (λ eq. let same : f.thing ≡ t = some_same (sym f.there ∙ ap (slice_get w.objects) eq ∙ e) in
        subst (λ (t : Thing). ThingHas image (suc now) w t) same whole)
        (λ ne. thing_later now w t (h.by a t e (elim r [ inl l ↦ inl (omega (arith, l, ne)) | inr l ↦ inr l ])))
        (cases_eq now a);
    long = h.long;
    first = h.first;
    waiting = λ y i l e. h.waiting y i (omega (arith, l)) e;
    texts = h.texts;
  }
    where
      whole : ThingHas image (suc now) w f.thing
      whole =
          let own : AllHave image now w f.thing.values (value_kinds image now 0) =
          all_each image now w f.thing.values (value_kinds image now 0) f.long
          (λ i k e. f.each i k (let l = slice_get_within (value_kinds image now 0) i k e in omega (arith, l, full)) e) in
          record {
            values = all_later now w f.thing.values (value_kinds image f.thing.instance f.thing.literal)
                (subst (λ l. AllHave image now w f.thing.values (value_kinds image f.thing.instance l)) (sym f.literal)
                (subst (λ x. AllHave image now w f.thing.values (value_kinds image x 0)) (sym f.instance) own));
            early = let e = f.instance in omega (arith, e);
          }

  ------------------------------------------------------------
  -- What an instance is handed

  argument_has : (x : ℕ) (w : Store) (a : Argument) (k : Kind) → x ≤ count image → HeapAt image x w →
      ArgumentFits image x a k → Has image x w (word_handed a) k
  argument_has x w (argument.Grant g) k low h f =
      below_fits image (Granted g) (Granted g) k (below_refl image (Granted g)) f
  argument_has x w (argument.Instance y) k low h f =
      let t = h.first y (let l = f.0 in omega (arith, l, low)) in (
        t.0,
        t.1,
        inl f.0,
        below_fits image (Own t.0.instance t.0.literal) (Own y 0) k
            (below_same image (Own t.0.instance t.0.literal) (Own y 0)
            (ap (λ i. Own i t.0.literal) t.2 ∙ ap (Own y) t.3)) f.1,
      )

  arguments_have : (x : ℕ) (w : Store) (args : List Argument) (ks : List Kind) → x ≤ count image → HeapAt image x w →
      ArgumentsFit image x args ks → (j : ℕ) (k : Kind) → j < length args →
      slice_get ks j ≡ Some k → (v : Word) × (slice_get (map word_handed args) j ≡ Some v) × Has image x w v k
  arguments_have x w [] ks low h f j k l e = absurd (omega arith)
  arguments_have x w (a ∷ more) [] low h f j k l e = absurd f
  arguments_have x w (a ∷ more) (i ∷ ks) low h f zero k l e =
      (word_handed a, refl, subst (λ k. Has image x w (word_handed a) k) (some_same e) (argument_has x w a i low h f.0))
  arguments_have x w (a ∷ more) (i ∷ ks) low h f (suc j) k l e =
      arguments_have x w more ks low h f.1 j k (omega arith) e

  abbrev pub IsFresh : Store → ℕ → Type 0
  IsFresh w x =
      (i : Instance) → slice_get image.code.instances x ≡ Some i →
      slice_get w.objects x ≡ Some (object_at_first image.code x i)

  module _ (verified : IsVerified image) where
    first_has : (x : ℕ) (w : Store) (i : Instance) → x < count image → slice_get (all_instances image.code) x ≡ Some i →
        InstanceIs BodyFollows image x i → HeapAt image x w → IsFresh w x →
        FirstHas image x (length i.arguments) w 0 (Object x)
    first_has x w i lt is v h fresh =
        let r = read_there image.code.instances x lt in
        let same : r.0 ≡ i = some_same (sym (read_first image.code.instances (image.code.main ∷ []) x r.0 r.1) ∙ is) in
        let here : slice_get image.code.instances x ≡ Some i = r.1 ∙ ap (λ (i : Instance). Some i) same in
        let t : Thing = object_at_first image.code x i in
        let fields : List Word = replicate (field_count (literal_of_scope (scope_in image.code (Some i)) 0)) Nothing in
        let count_fields : field_count (literal_of_scope (scope_in image.code (Some i)) 0) ≡ v.own.fields =
        ap (λ o. field_count (literal_of_scope o 0)) v.there ∙ ap field_count v.is_own in
        record {
          thing = t;
          is = refl;
          there = fresh i here;
          instance = refl;
          literal = refl;
          long =
              let a = length-append (map word_handed i.arguments) fields in
              let b = map_length word_handed i.arguments in
              let d = length-replicate (field_count (literal_of_scope (scope_in image.code (Some i)) 0)) Nothing in
              let e = v.values in
              omega (arith, a, b, d, e, count_fields);
          each = λ j k l e.
              let q = arguments_have x w i.arguments (value_kinds image x 0) (omega arith) h v.arguments j k
              (omega arith) e in
              (q.0, read_first (map word_handed i.arguments) fields j q.0 q.1, q.2);
        }

    -- a body that starts reads no slot
    no_slots : (x : ℕ) (body : Body) (bounds : Bounds) (slots : List Word) (w : Store) (s : ℕ) (k : Kind) →
        length bounds.parameters ≡ body.parameters → body.parameters ≡ 0 →
        SlotHas image x None body bounds [] s k → (v : Word) × (slice_get slots s ≡ Some v) × Has image x w v k
    no_slots x body bounds slots w s k p z h = elim h.by [
      | inl q ↦ absurd q
      | inr q ↦ elim q [
        | inl a ↦ absurd (let l = slice_get_within (kinds_in x bounds.parameters) a.0 k a.2 in let m =
            map_length (kind_in x) bounds.parameters in omega (arith, l, m, p, z))
        | inr a ↦ absurd a.2
      ]
    ]

    pub begins : (w : Store) (x : ℕ) (es : List Event) (calls : List Call) → x ≤ count image → HeapAt image x w →
        IsFresh w x → w.next ≡ x → Later image calls es [] →
        Fine image calls (begin_next image.code es w)
    begins w x es calls low h fresh next later =
        let i = instance_there image x low in
        let v = verified.each x i.0 i.1 in
        let b : Body = v.start.body in
        let this : Word = this_at_start image.code x in
        let slots : List Word = this ∷ replicate b.vals Nothing in
        let u : Store = record w { next = suc x } in
        let kept = heap_same image x w u refl (omega arith) h in
        let c : Context image = record {
          x = x;
          owner = None;
          body = b;
          bounds = v.start.bounds;
          held = length i.0.arguments;
          follows = v.start.follows;
          instance = i.0;
          is = i.1;
          b = v.scope.start;
          is_stated = v.start.is_stated;
        } in
        let typed : Typed image x c u [] 0 slots [] [] = record {
          early = omega arith;
          reads = λ s k q. no_slots x b v.start.bounds slots u s k v.start.follows.parameters v.no_parameters q;
          long = let z = length-replicate b.vals Nothing in let p = v.no_parameters in omega (arith, z, p);
          this = (
            refl,
            ⊎_elim
                (λ eq. inl eq)
                (λ ne. let lt : x < count image = omega (arith, low, ne) in
                inr (
                  lt,
                  subst (λ this. FirstHas image x (length i.0.arguments) u 0 this)
                      (sym (pick_true (nat_lt x (count image)) (Object x) Nothing (lt-ltb x (count image) lt)))
                      (first_has x u i.0 lt i.1 v kept.1 fresh),
                ))
                (cases_eq x (count image)),
          );
          stack = tt;
        } in
        let s : State = record { frame = frame_at_first x this [] b; callers = []; store = u } in
        let good : Good image s = record {
          now = x;
          low = low;
          c = c;
          at = 0;
          known = at_first;
          slots = slots;
          operands = [];
          is = refl;
          here = v.start.follows.first;
          typed = typed;
          heap = kept.1;
          next = refl;
          callers = tt;
        } in
        let enter : Event = Enter i.0.name b.name in
        let go : Next = Go (es ++ enter ∷ []) s in
        subst (λ y. Fine image calls (begin_instance image.code y es w (slice_get (all_instances image.code) y)))
        (sym next)
        (subst (λ (o : Option Instance). Fine image calls (begin_instance image.code x es w o)) (sym i.1)
        (subst (λ (o : Option Scope). Fine image calls (begin_body image.code x i.0.name es w (start_in image.code o)))
        (sym v.there)
        (subst (λ (o : Option Body). Fine image calls (begin_body image.code x i.0.name es w o)) (sym v.start.there) (
          good,
          λ rest q. subst (λ (es : List Event). BoundedFrom (authority_of image) calls es)
              (sym (append_assoc es (enter ∷ []) rest))
              (later (enter ∷ rest) (subst (λ (name : List ℕ). BoundedFrom (authority_of image)
              (let call : Call = record { instance = name; body = b.name } in call ∷ []) rest) (ap name_in i.1) q)),
        ))))

    ------------------------------------------------------------
    -- Finish

    module _ (n : ℕ) (place : Place) (now : ℕ) (c : Context image) (at : ℕ) (known : Known) (slots operands : List Word)
        (w : Store) (fs : List Frame)
        (r : Running image now c known slots operands w fs) where
      finished : (owner : Owner) (fs : List Frame) (call : Call) → owner ≡ None →
          c.held + known.set ≡ length (value_kinds image c.x 0) →
          Callers image now w owner (kind_in c.x c.bounds.result) c.bounds.effect fs →
          ThisHas image now c.x c.held owner w known.set (first_of slots) →
          Fine image (call ∷ map (call_of image) fs) (finish image.code fs w)
      finished (Some l) fs call e full h this = absurd (none_some (sym e))
      finished None (f ∷ fs) call e full h this = absurd h
      finished None [] call e full h this = elim this.1 [
        | inl eq ↦ over eq
        | inr f ↦
            begins w (suc now) (Leave ∷ []) (call ∷ []) (let l = f.0 in omega (arith, l))
            (heap_later now c.held known.set w (first_of slots) f.0
            (full ∙ ap (λ x. length (value_kinds image x 0)) this.0) r.heap f.1)
            (λ i q. r.heap.waiting (suc now) i (omega arith) q) r.next (λ rest q. q)
      ]
        where
          over : now ≡ count image → Fine image (call ∷ []) (begin_next image.code (Leave ∷ []) w)
          over eq =
              let next = r.next in
              let past : slice_get (all_instances image.code) w.next ≡ None =
              slice_get_past (all_instances image.code) w.next
              (let h = length-append image.code.instances (image.code.main ∷ []) in
              let one : length (image.code.main ∷ []) ≡ 1 = refl in
              omega (arith, h, one, next, eq)) in
              subst (λ (o : Option Instance). Fine image (call ∷ [])
              (begin_instance image.code w.next (Leave ∷ []) w o)) (sym past) ((λ e. cc), tt)

      pub finish_fine : Says image verified.main n place now c at known slots operands w fs r Finish →
          Does image verified.main n place now c at known slots operands w fs r Finish
      finish_fine h = finished c.owner fs _ h.0 h.1 r.callers r.typed.this

  ------------------------------------------------------------
  -- The first store

  objects_read : (x : ℕ) (is : List Instance) (y : ℕ) (i : Instance) → slice_get is y ≡ Some i →
      slice_get (objects_at_first image.code x is) y ≡ Some (object_at_first image.code (x + y) i)
  objects_read x [] y i e = absurd cc
  objects_read x (j ∷ is) zero i e =
      let z : x ≡ x + 0 = omega arith in
      ap (λ (j : Instance). Some (object_at_first image.code x j)) (some_same e)
      ∙ ap (λ x. Some (object_at_first image.code x i)) z
  objects_read x (j ∷ is) (suc y) i e =
      let z : suc x + y ≡ x + suc y = omega arith in
      objects_read (suc x) is y i e ∙ ap (λ x. Some (object_at_first image.code x i)) z

  objects_length : (x : ℕ) (is : List Instance) → length (objects_at_first image.code x is) ≡ length is
  objects_length x [] = refl
  objects_length x (i ∷ is) = ap suc (objects_length (suc x) is)

  pub first_heap : (tapes : Tapes) → HeapAt image 0 (store_at_first image.code tapes)
  first_heap tapes = record {
    by = λ a t e r. absurd (elim r [
      | inl l ↦ omega arith
      | inr l ↦ (let m = slice_get_within (objects_at_first image.code 0 image.code.instances) a t e in let k =
          objects_length 0 image.code.instances in omega (arith, l, m, k))
    ]);
    long = let k = objects_length 0 image.code.instances in omega (arith, k);
    first = λ y lt. let i =
        read_there image.code.instances y lt in (
          object_at_first image.code y i.0,
          objects_read 0 image.code.instances y i.0 i.1 ∙ here y i.0,
          refl,
          refl,
        );
    waiting = λ y i lt e. objects_read 0 image.code.instances y i e ∙ here y i;
    texts = omega arith;
  }
    where
      here : (y : ℕ) (i : Instance) → Some (object_at_first image.code (0 + y) i) ≡ Some
          (object_at_first image.code y i)
      here y i = let z : 0 + y ≡ y = omega arith in ap (λ y. Some (object_at_first image.code y i)) z

  pub first_fresh : (tapes : Tapes) → IsFresh (store_at_first image.code tapes) 0
  first_fresh tapes i e = objects_read 0 image.code.instances 0 i e
