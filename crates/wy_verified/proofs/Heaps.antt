-- Words and objects that have their types, while the instance of a number starts, or the program runs. The objects of
-- the instances before
-- it and those that `New` made are ready; nobody holds the others.
use Rattle.std.proofs.Common.{◌⊎◌, ◌≡◌, ℕ, zero, suc, ◌<◌, ◌≤◌, List, [], ◌∷◌, ◌++◌, length, inl, inr, ⊎_elim, refl}
use Rattle.std.proofs.Common.{sym, ap, ◌∙◌, subst, Some, arith}
use Rattle.std.specs.Prelude.{slice_get, slice_set}
use Rattle.std.proofs.lemmas.Bool.{cases_eq}
use Rattle.wy_code.specs.declared.code.Instance.{Instance}
use Rattle.wy_code.specs.Stores.{Word, Int, Truth, Nothing, Text, Object, Grant, Thing, Store}
use Rattle.wy_code.specs.Running.{object_at_first}
use Rattle.wy_verified.specs.Images.{Image}
use Rattle.wy_verified.specs.Kinds.{Kind, Ints, Truths, Texts, Units, Own, Granted, value_kinds, Fits, AllFit}
use Rattle.std.proofs.lemmas.Option.{slice_get_within}
use Rattle.wy_verified.proofs.Lists.{some_same, get_set_same, get_set_other, length_set, read_first}
use Rattle.wy_verified.proofs.Lists.{read_last, length_more}
use Rattle.wy_verified.proofs.Below.{Below, below_fits, below_trans, AllBelow}

module _ (image : Image) where
  abbrev pub count : ℕ
  count = length image.code.instances

  module _ (now : ℕ) where
    abbrev pub Ready : ℕ → Type 0
    Ready a = (a < now) ⊎ (count ≤ a)

    abbrev pub Has : Store → Word → Kind → Type 0
    Has w (Int n) k = Below image Ints k
    Has w (Truth b) k = Below image Truths k
    Has w Nothing k = Below image Units k
    Has w (Text t) k = (t < length w.texts) × Below image Texts k
    Has w (Object a) k =
        (t : Thing) × (slice_get w.objects a ≡ Some t) × Ready a × Below image (Own t.instance t.literal) k
    Has w (Grant g) k = Below image (Granted g) k

    abbrev pub AllHave : Store → List Word → List Kind → Type 0
    AllHave w [] [] = Unit {0}
    AllHave w [] (k ∷ ks) = ⊥
    AllHave w (v ∷ vs) [] = ⊥
    AllHave w (v ∷ vs) (k ∷ ks) = Has w v k × AllHave w vs ks

    -- objects stay of their literal, and texts stay
    pub record Keeps (w u : Store) : Type 0 where
      pub texts : length w.texts ≤ length u.texts
      pub objects : (a : ℕ) (t : Thing) → slice_get w.objects a ≡ Some t →
          (s : Thing) × (slice_get u.objects a ≡ Some s) × (s.instance ≡ t.instance) × (s.literal ≡ t.literal)

    -- .. and objects that are not ready stay as they are
    pub record Grows (w u : Store) : Type 0 where
      pub keeps : Keeps w u
      pub still : (a : ℕ) (t : Thing) → slice_get w.objects a ≡ Some t → (Ready a → ⊥) → slice_get u.objects a ≡ Some t
      pub next : u.next ≡ w.next

    pub keeps_refl : (w : Store) → Keeps w w
    keeps_refl w = record { texts = omega arith; objects = λ a t e. (t, e, refl, refl) }

    pub grows_refl : (w : Store) → Grows w w
    grows_refl w = record { keeps = keeps_refl w; still = λ a t e s. e; next = refl }

    pub has_kept : (w u : Store) (v : Word) (k : Kind) → Keeps w u → Has w v k → Has u v k
    has_kept w u (Int n) k g h = h
    has_kept w u (Truth b) k g h = h
    has_kept w u Nothing k g h = h
    has_kept w u (Text t) k g h = let l = g.texts in (omega (arith, h.0, l), h.1)
    has_kept w u (Object a) k g h =
        let s = g.objects a h.0 h.1 in (
          s.0,
          s.1,
          h.2,
          subst (λ i. Below image (Own i s.0.literal) k) (sym s.2)
              (subst (λ l. Below image (Own h.0.instance l) k) (sym s.3) h.3),
        )
    has_kept w u (Grant d) k g h = h

    pub all_kept : (w u : Store) (vs : List Word) (ks : List Kind) → Keeps w u → AllHave w vs ks → AllHave u vs ks
    all_kept w u [] [] g h = tt
    all_kept w u [] (k ∷ ks) g h = absurd h
    all_kept w u (v ∷ vs) [] g h = absurd h
    all_kept w u (v ∷ vs) (k ∷ ks) g h = (has_kept w u v k g h.0, all_kept w u vs ks g h.1)

    pub has_below : (w : Store) (v : Word) (j k : Kind) → Has w v j → Below image j k → Has w v k
    has_below w (Int n) j k h b = below_trans image Ints j k h b
    has_below w (Truth c) j k h b = below_trans image Truths j k h b
    has_below w Nothing j k h b = below_trans image Units j k h b
    has_below w (Text t) j k h b = (h.0, below_trans image Texts j k h.1 b)
    has_below w (Object a) j k h b = (h.0, h.1, h.2, below_trans image (Own h.0.instance h.0.literal) j k h.3 b)
    has_below w (Grant g) j k h b = below_trans image (Granted g) j k h b

    pub has_fits : (w : Store) (v : Word) (j k : Kind) → Has w v j → Fits image j k → Has w v k
    has_fits w (Int n) j k h b = below_fits image Ints j k h b
    has_fits w (Truth c) j k h b = below_fits image Truths j k h b
    has_fits w Nothing j k h b = below_fits image Units j k h b
    has_fits w (Text t) j k h b = (h.0, below_fits image Texts j k h.1 b)
    has_fits w (Object a) j k h b = (h.0, h.1, h.2, below_fits image (Own h.0.instance h.0.literal) j k h.3 b)
    has_fits w (Grant g) j k h b = below_fits image (Granted g) j k h b

    pub all_fit : (w : Store) (vs : List Word) (js ks : List Kind) → AllHave w vs js → AllFit image js ks →
        AllHave w vs ks
    all_fit w [] [] [] h f = tt
    all_fit w [] [] (k ∷ ks) h f = absurd f
    all_fit w [] (j ∷ js) ks h f = absurd h
    all_fit w (v ∷ vs) [] ks h f = absurd h
    all_fit w (v ∷ vs) (j ∷ js) [] h f = absurd f
    all_fit w (v ∷ vs) (j ∷ js) (k ∷ ks) h f = (has_fits w v j k h.0 f.0, all_fit w vs js ks h.1 f.1)

    pub all_below : (w : Store) (vs : List Word) (js ks : List Kind) → AllHave w vs js → AllBelow image js ks →
        AllHave w vs ks
    all_below w [] [] [] h f = tt
    all_below w [] [] (k ∷ ks) h f = absurd f
    all_below w [] (j ∷ js) ks h f = absurd h
    all_below w (v ∷ vs) [] ks h f = absurd h
    all_below w (v ∷ vs) (j ∷ js) [] h f = absurd f
    all_below w (v ∷ vs) (j ∷ js) (k ∷ ks) h f = (has_below w v j k h.0 f.0, all_below w vs js ks h.1 f.1)

    pub all_length : (w : Store) (vs : List Word) (ks : List Kind) → AllHave w vs ks → length vs ≡ length ks
    all_length w [] [] h = refl
    all_length w [] (k ∷ ks) h = absurd h
    all_length w (v ∷ vs) [] h = absurd h
    all_length w (v ∷ vs) (k ∷ ks) h = ap suc (all_length w vs ks h.1)

    pub all_get : (w : Store) (vs : List Word) (ks : List Kind) (i : ℕ) (k : Kind) → AllHave w vs ks →
        slice_get ks i ≡ Some k →
        (v : Word) × (slice_get vs i ≡ Some v) × Has w v k
    all_get w [] [] i k h e = absurd cc
    all_get w [] (j ∷ ks) i k h e = absurd h
    all_get w (v ∷ vs) [] i k h e = absurd h
    all_get w (v ∷ vs) (j ∷ ks) zero k h e = (v, refl, subst (λ k. Has w v k) (some_same e) h.0)
    all_get w (v ∷ vs) (j ∷ ks) (suc i) k h e = all_get w vs ks i k h.1 e

    pub all_set : (w : Store) (vs : List Word) (ks : List Kind) (i : ℕ) (k : Kind) (x : Word) → AllHave w vs ks →
        slice_get ks i ≡ Some k → Has w x k →
        AllHave w (slice_set vs i x) ks
    all_set w [] [] i k x h e r = absurd cc
    all_set w [] (j ∷ ks) i k x h e r = absurd h
    all_set w (v ∷ vs) [] i k x h e r = absurd h
    all_set w (v ∷ vs) (j ∷ ks) zero k x h e r = (subst (λ k. Has w x k) (sym (some_same e)) r, h.1)
    all_set w (v ∷ vs) (j ∷ ks) (suc i) k x h e r = (h.0, all_set w vs ks i k x h.1 e r)

    pub all_append : (w : Store) (vs us : List Word) (ks ls : List Kind) → AllHave w vs ks → AllHave w us ls →
        AllHave w (vs ++ us) (ks ++ ls)
    all_append w [] us [] ls h r = r
    all_append w [] us (k ∷ ks) ls h r = absurd h
    all_append w (v ∷ vs) us [] ls h r = absurd h
    all_append w (v ∷ vs) us (k ∷ ks) ls h r = (h.0, all_append w vs us ks ls h.1 r)

    -- each of as many values as there are types has its own
    pub all_each : (w : Store) (vs : List Word) (ks : List Kind) → length vs ≡ length ks →
        ((i : ℕ) (k : Kind) → slice_get ks i ≡ Some k → (v : Word) × (slice_get vs i ≡ Some v) × Has w v k) →
        AllHave w vs ks
    all_each w [] [] l h = tt
    all_each w [] (k ∷ ks) l h = absurd (omega arith)
    all_each w (v ∷ vs) [] l h = absurd (omega arith)
    all_each w (v ∷ vs) (k ∷ ks) l h =
        let r = h 0 k refl in
        (subst (λ v. Has w v k) (sym (some_same r.1)) r.2, all_each w vs ks (omega arith) (λ i. h (suc i)))

    ------------------------------------------------------------
    -- Heaps

    pub record ThingHas (w : Store) (t : Thing) : Type 0 where
      pub values : AllHave w t.values (value_kinds image t.instance t.literal)
      pub early : t.instance ≤ now

    abbrev pub IsFirst : Store → ℕ → Type 0
    IsFirst w y = (t : Thing) × (slice_get w.objects y ≡ Some t) × (t.instance ≡ y) × (t.literal ≡ 0)

    pub record HeapAt (w : Store) : Type 0 where
      pub by : (a : ℕ) (t : Thing) → slice_get w.objects a ≡ Some t → Ready a → ThingHas w t
      pub long : count ≤ length w.objects
      pub first : (y : ℕ) → y < count → IsFirst w y
      -- the objects of instances that have not begun are as they were at first
      pub waiting : (y : ℕ) (i : Instance) → now < y → slice_get image.code.instances y ≡ Some i →
          slice_get w.objects y ≡ Some (object_at_first image.code y i)
      pub texts : length image.code.texts ≤ length w.texts

    thing_kept : (w u : Store) (t : Thing) → Keeps w u → ThingHas w t → ThingHas u t
    thing_kept w u t g h =
        record { values = all_kept w u t.values (value_kinds image t.instance t.literal) g h.values; early = h.early }

    first_kept : (w u : Store) (y : ℕ) → Keeps w u → IsFirst w y → IsFirst u y
    first_kept w u y g h = let s = g.objects y h.0 h.1 in (s.0, s.1, s.2 ∙ h.2, s.3 ∙ h.3)

    -- the same objects, and texts that go on
    pub heap_same : (w u : Store) → u.objects ≡ w.objects → length w.texts ≤ length u.texts → HeapAt w → Keeps w u ×
        HeapAt u
    heap_same w u e l h =
        let keeps : Keeps w u =
        record { texts = l; objects = λ a t f. (t, ap (λ os. slice_get os a) e ∙ f, refl, refl) } in (
          keeps,
          record {
            by = λ a t f r. thing_kept w u t keeps (h.by a t (sym (ap (λ os. slice_get os a) e) ∙ f) r);
            long = subst (λ (os : List Thing). count ≤ length os) (sym e) h.long;
            first = λ y lt. first_kept w u y keeps (h.first y lt);
            waiting = λ y i lt f. ap (λ os. slice_get os y) e ∙ h.waiting y i lt f;
            texts = let t = h.texts in omega (arith, t, l);
          },
        )

    pub heap_texts : (w u : Store) → u.objects ≡ w.objects → u.next ≡ w.next → length w.texts ≤ length u.texts →
        HeapAt w → Grows w u × HeapAt u
    heap_texts w u e n l h =
        let r = heap_same w u e l h in (
          record {
            keeps = r.0;
            still = λ a t f s. ap (λ os. slice_get os a) e ∙ f;
            next =
                n;
          },
          r.1,
        )

    -- one object more
    pub heap_more : (w u : Store) (t : Thing) → u.objects ≡ w.objects ++ t ∷ [] → u.next ≡ w.next → u.texts ≡ w.texts →
        HeapAt w → ThingHas w t → Grows w u × HeapAt u
    heap_more w u t e n te h th =
        let reads : (a : ℕ) (s : Thing) → slice_get w.objects a ≡ Some s → slice_get u.objects a ≡ Some s =
        λ a s f. ap (λ os. slice_get os a) e ∙ read_first w.objects (t ∷ []) a s f in
        let keeps : Keeps w u =
        record {
          texts = subst (λ (ts : List (List ℕ)). length w.texts ≤ length ts) (sym te) (omega arith);
          objects = λ a s f. (s, reads a s f, refl, refl);
        } in (
          record { keeps = keeps; still = λ a s f r. reads a s f; next = n },
          record {
            by = λ a s f r. elim (read_last w.objects t a s (sym (ap (λ os. slice_get os a) e) ∙ f)) [
              | inl g ↦ thing_kept w u s keeps (h.by a s g r)
              | inr g ↦ thing_kept w u s keeps (subst (λ (v : Thing). ThingHas w v) g.1 th)
            ];
            long = longer h.long;
            first = λ y lt. first_kept w u y keeps (h.first y lt);
            waiting = λ y i lt f. reads y (object_at_first image.code y i) (h.waiting y i lt f);
            texts = subst (λ (ts : List (List ℕ)). length image.code.texts ≤ length ts) (sym te) h.texts;
          },
        )
      where
        longer : count ≤ length w.objects → count ≤ length u.objects
        longer l = subst (λ (os : List Thing). count ≤ length os) (sym e) (omega (arith, l, length_more w.objects t))

    -- a ready object has other values of the same types
    pub heap_set : (w u : Store) (a : ℕ) (t : Thing) (values : List Word) → slice_get w.objects a ≡ Some t → Ready a →
        u.objects ≡ slice_set w.objects a (record t { values = values }) → u.next ≡ w.next → u.texts ≡ w.texts →
        HeapAt w →
        AllHave w values (value_kinds image t.instance t.literal) → Grows w u × HeapAt u
    heap_set w u a t values e ready ue n te h q =
        let new : Thing = record t { values = values } in
        let same : slice_get u.objects a ≡ Some new =
        ap (λ os. slice_get os a) ue ∙ get_set_same w.objects a new (slice_get_within w.objects a t e) in
        let other : (b : ℕ) → (a ≡ b → ⊥) → slice_get u.objects b ≡ slice_get w.objects b =
        λ b ne. ap (λ os. slice_get os b) ue ∙ get_set_other w.objects a b new ne in
        let keeps : Keeps w u = record {
          texts = subst (λ (ts : List (List ℕ)). length w.texts ≤ length ts) (sym te) (omega arith);
          objects = λ b s f. ⊎_elim
              (λ eq. let d : t ≡ s = some_same (sym e ∙ ap (slice_get w.objects) eq ∙ f) in (
                new,
                ap (slice_get u.objects) (sym eq) ∙ same,
                ap (λ (v : Thing). v.instance) d,
                ap (λ (v : Thing). v.literal) d,
              ))
              (λ ne. (s, other b ne ∙ f, refl, refl))
              (cases_eq a b);
        } in (
          record { keeps = keeps; still = λ b s f r. other b (λ eq. r (subst (λ b. Ready b) eq ready)) ∙ f; next = n },
          record {
            by = λ b s f r. ⊎_elim
                (λ eq. subst (λ (v : Thing). ThingHas u v) (some_same (sym same ∙ ap (slice_get u.objects) eq ∙ f))
                (let th : ThingHas u new = record {
                  values =
                      all_kept w u values (value_kinds image t.instance t.literal) keeps q;
                  early =
                      (h.by a t e ready).early;
                } in th))
                (λ ne. thing_kept w u s keeps (h.by b s (sym (other b ne) ∙ f) r))
                (cases_eq a b);
            long = subst (λ (os : List Thing). count ≤ length os) (sym ue)
                (subst (λ (l : ℕ). count ≤ l) (sym (length_set w.objects a new)) h.long);
            first = λ y lt. first_kept w u y keeps (h.first y lt);
            waiting = λ y i lt f. other y (λ eq. unready y i lt f eq) ∙ h.waiting y i lt f;
            texts = subst (λ (ts : List (List ℕ)). length image.code.texts ≤ length ts) (sym te) h.texts;
          },
        )
      where
        unready : (y : ℕ) (i : Instance) → now < y → slice_get image.code.instances y ≡ Some i → a ≡ y → ⊥
        unready y i lt f eq =
            elim ready [
              | inl l ↦ omega (arith, l, lt, eq)
              | inr l ↦
                  (let m = slice_get_within image.code.instances y i f in omega (arith, l, m, eq))
            ]

    -- the object of the instance that starts has other values
    pub heap_begin : (w u : Store) (t : Thing) (values : List Word) → slice_get w.objects now ≡ Some t →
        (Ready now → ⊥) →
        u.objects ≡ slice_set w.objects now (record t { values = values }) → u.texts ≡ w.texts → HeapAt w → Keeps w u ×
        HeapAt u
    heap_begin w u t values e unready ue te h =
        let new : Thing = record t { values = values } in
        let same : slice_get u.objects now ≡ Some new =
        ap (λ os. slice_get os now) ue ∙ get_set_same w.objects now new (slice_get_within w.objects now t e) in
        let other : (b : ℕ) → (now ≡ b → ⊥) → slice_get u.objects b ≡ slice_get w.objects b =
        λ b ne. ap (λ os. slice_get os b) ue ∙ get_set_other w.objects now b new ne in
        let keeps : Keeps w u = record {
          texts = subst (λ (ts : List (List ℕ)). length w.texts ≤ length ts) (sym te) (omega arith);
          objects = λ b s f. ⊎_elim
              (λ eq. let d : t ≡ s = some_same (sym e ∙ ap (slice_get w.objects) eq ∙ f) in (
                new,
                ap (slice_get u.objects) (sym eq) ∙ same,
                ap (λ (v : Thing). v.instance) d,
                ap (λ (v : Thing). v.literal) d,
              ))
              (λ ne. (s, other b ne ∙ f, refl, refl))
              (cases_eq now b);
        } in (
          keeps,
          record {
            by = λ b s f r. let ne : now ≡ b → ⊥ = λ eq. unready (subst (λ b. Ready b) (sym eq) r) in
                thing_kept w u s keeps (h.by b s (sym (other b ne) ∙ f) r);
            long = subst (λ (os : List Thing). count ≤ length os) (sym ue)
                (subst (λ (l : ℕ). count ≤ l) (sym (length_set w.objects now new)) h.long);
            first = λ y lt. first_kept w u y keeps (h.first y lt);
            waiting = λ y i lt f. other y (λ eq. omega (arith, lt, eq)) ∙ h.waiting y i lt f;
            texts = subst (λ (ts : List (List ℕ)). length image.code.texts ≤ length ts) (sym te) h.texts;
          },
        )
