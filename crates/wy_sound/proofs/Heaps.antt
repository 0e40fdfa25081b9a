-- Values and objects that have their types, while the instance of a number starts, or `main` runs: the objects of the instances before it
-- and those that `new` made are ready; of the others nothing is known, and nobody holds them.
use Rattle.std.proofs.Common.{◌≡◌, ℕ, zero, suc, ◌≤◌, List, [], ◌∷◌, ◌++◌, length, inl, inr, ⊎_elim, refl, sym, ap, ◌∙◌, subst, Option, Some, None, arith}
use Rattle.std.specs.Prelude.{slice_get, slice_set, if◌then◌else◌}
use Rattle.std.proofs.lemmas.Bool.{cases_eq, eq-eqb, ne_eqb}
use Rattle.wy_text.specs.Members.{In}
use Rattle.wy_types.specs.declared.code.Variable.{Variable}
use Rattle.wy_types.specs.declared.code.Variable.TheVariants.{Parameter, Local}
use Rattle.wy_types.specs.declared.linked.Actual.TheVariants as actual
use Rattle.wy_types.specs.Program.{Program}
use Rattle.wy_types.specs.Vals.{literal_captures}
use Rattle.wy_rules.specs.GroundTypes.{GroundType, Int, Bool as Truths, Text as Texts, Nothing as Nothings, Own}
use Rattle.wy_meaning.specs.Values.{Value, Int as Number, Truth, Nothing, Text, Object, Grant, Named, value_named, Thing}
use Rattle.wy_meaning.specs.Eval.{Sight, with_local}
use Rattle.wy_sound.specs.Arguments.{actual_type}
use Rattle.wy_sound.specs.TypedHeaps.{instance_count, Placed, fields_at, Ready, ValueHas, AllHave, VariableHas, NamesHave, ThingHas, WellHeap, ThisHas, SightHas}
use Rattle.wy_sound.proofs.LinkingLists.{read_within, read_first, read_last}
use Rattle.wy_sound.proofs.Lists.{length_more, some_same, get_set_same, get_set_other, length_set}
use Rattle.wy_sound.proofs.Below.{Below, below_trans, AllBelow}

module _ (p : Program) where
  module _ (now : ℕ) where
    -- each object stays what it is
    abbrev pub Grows : List Thing → List Thing → Type 0
    Grows h h' = (a : ℕ) (t : Thing) → slice_get h a ≡ Some t →
        (u : Thing) × (slice_get h' a ≡ Some u) × (u.instance ≡ t.instance) × (u.literal ≡ t.literal)

    -- .. and those that are not ready stay as they are
    pub record Extends (h h' : List Thing) : Type 0 where
      pub by : Grows h h'
      pub still : (a : ℕ) (t : Thing) → slice_get h a ≡ Some t → (Ready p now a → ⊥) → slice_get h' a ≡ Some t

    pub extends_refl : (h : List Thing) → Extends h h
    extends_refl h = record { by = λ a t e. (t, e, refl, refl); still = λ a t e s. e }

    pub extends_trans : (h i j : List Thing) → Extends h i → Extends i j → Extends h j
    extends_trans h i j f g = record {
      by = λ a t e. let u = f.by a t e in let v = g.by a u.0 u.1 in (v.0, v.1, v.2 ∙ u.2, v.3 ∙ u.3);
      still = λ a t e s. g.still a t (f.still a t e s) s;
    }

    pub value_grows : (h h' : List Thing) (v : Value) (k : GroundType) → Grows h h' → ValueHas p now h v k → ValueHas p now h' v k
    value_grows h h' (Number m) k x q = q
    value_grows h h' (Truth b) k x q = q
    value_grows h h' Nothing k x q = q
    value_grows h h' (Text bytes) k x q = q
    value_grows h h' (Object a) k x q =
        let u = x a q.0 q.1 in
        (u.0, u.1, q.2, subst (λ i. Below p (Own i u.0.literal) k) (sym u.2) (subst (λ l. Below p (Own q.0.instance l) k) (sym u.3) q.3))
    value_grows h h' (Grant d) k x q = q

    pub all_grow : (h h' : List Thing) (vs : List Value) (ks : List GroundType) → Grows h h' → AllHave p now h vs ks → AllHave p now h' vs ks
    all_grow h h' [] [] x q = q
    all_grow h h' (v ∷ vs) (k ∷ ks) x q = (value_grows h h' v k x q.0, all_grow h h' vs ks x q.1)
    all_grow h h' [] (k ∷ ks) x q = absurd q
    all_grow h h' (v ∷ vs) [] x q = absurd q

    pub names_grow : (h h' : List Thing) (x : ℕ) (pl : Placed p x) (seen : List Variable) (named : Named) → Grows h h' →
        NamesHave p now h x pl seen named → NamesHave p now h' x pl seen named
    names_grow h h' x pl seen named g q =
        record {
          by = λ v i. let r = q.by v i in record {
            kind = r.kind;
            typed = r.typed;
            value = r.value;
            here = r.here;
            has =
                value_grows h h' r.value r.kind g r.has;
          };
        }

    pub thing_grows : (h h' : List Thing) (t : Thing) → Grows h h' → ThingHas p now h t → ThingHas p now h' t
    thing_grows h h' t g q = record {
      place = q.place;
      early = q.early;
      fields = all_grow h h' t.fields (fields_at p t.instance q.place t.literal) g q.fields;
      captured = names_grow h h' t.instance q.place (literal_captures (slice_get q.place.scope.literals t.literal)) t.captured g q.captured;
    }

    pub value_below : (h : List Thing) (v : Value) (j k : GroundType) → ValueHas p now h v j → Below p j k → ValueHas p now h v k
    value_below h (Number m) j k q s = below_trans p Int j k q s
    value_below h (Truth b) j k q s = below_trans p Truths j k q s
    value_below h Nothing j k q s = below_trans p Nothings j k q s
    value_below h (Text bytes) j k q s = below_trans p Texts j k q s
    value_below h (Object a) j k q s = (q.0, q.1, q.2, below_trans p (Own q.0.instance q.0.literal) j k q.3 s)
    value_below h (Grant d) j k q s = (q.0, below_trans p (actual_type p (actual.Grant d)) j k q.1 s)

    pub all_below : (h : List Thing) (vs : List Value) (js ks : List GroundType) → AllHave p now h vs js → AllBelow p js ks → AllHave p now h vs ks
    all_below h [] [] [] q s = tt
    all_below h (v ∷ vs) (j ∷ js) (k ∷ ks) q s = (value_below h v j k q.0 s.0, all_below h vs js ks q.1 s.1)
    all_below h [] [] (k ∷ ks) q s = absurd s
    all_below h [] (j ∷ js) ks q s = absurd q
    all_below h (v ∷ vs) [] ks q s = absurd q
    all_below h (v ∷ vs) (j ∷ js) [] q s = absurd s

    pub all_get : (h : List Thing) (vs : List Value) (ks : List GroundType) (i : ℕ) (k : GroundType) → AllHave p now h vs ks → slice_get ks i ≡ Some k →
        (v : Value) × (slice_get vs i ≡ Some v) × ValueHas p now h v k
    all_get h [] [] i k q e = absurd cc
    all_get h (v ∷ vs) (j ∷ ks) zero k q e = (v, refl, subst (λ (u : GroundType). ValueHas p now h v u) (some_same e) q.0)
    all_get h (v ∷ vs) (j ∷ ks) (suc i) k q e = all_get h vs ks i k q.1 e
    all_get h [] (j ∷ ks) i k q e = absurd q
    all_get h (v ∷ vs) [] i k q e = absurd q

    pub all_set : (h : List Thing) (vs : List Value) (ks : List GroundType) (i : ℕ) (k : GroundType) (x : Value) → AllHave p now h vs ks →
        slice_get ks i ≡ Some k → ValueHas p now h x k → AllHave p now h (slice_set vs i x) ks
    all_set h [] [] i k x q e r = absurd cc
    all_set h (v ∷ vs) (j ∷ ks) zero k x q e r = (subst (λ (u : GroundType). ValueHas p now h x u) (sym (some_same e)) r, q.1)
    all_set h (v ∷ vs) (j ∷ ks) (suc i) k x q e r = (q.0, all_set h vs ks i k x q.1 e r)
    all_set h [] (j ∷ ks) i k x q e r = absurd q
    all_set h (v ∷ vs) [] i k x q e r = absurd q

    pub all_append : (h : List Thing) (vs ws : List Value) (ks ls : List GroundType) → AllHave p now h vs ks → AllHave p now h ws ls →
        AllHave p now h (vs ++ ws) (ks ++ ls)
    all_append h [] ws [] ls q r = r
    all_append h (v ∷ vs) ws (k ∷ ks) ls q r = (q.0, all_append h vs ws ks ls q.1 r)
    all_append h [] ws (k ∷ ks) ls q r = absurd q
    all_append h (v ∷ vs) ws [] ls q r = absurd q

    pub all_length : (h : List Thing) (vs : List Value) (ks : List GroundType) → AllHave p now h vs ks → length vs ≡ length ks
    all_length h [] [] q = refl
    all_length h (v ∷ vs) (k ∷ ks) q = ap suc (all_length h vs ks q.1)
    all_length h [] (k ∷ ks) q = absurd q
    all_length h (v ∷ vs) [] q = absurd q

    ------------------------------------------------------------
    -- Sights

    this_grows : (h h' : List Thing) (x : ℕ) (this owner : Option ℕ) → Grows h h' → ThisHas p now h x this owner → ThisHas p now h' x this owner
    this_grows h h' x this None g q = q
    this_grows h h' x this (Some l) g q = let u = g q.0 q.1 q.3 in (q.0, u.0, q.2, u.1, u.2 ∙ q.4, u.3 ∙ q.5, q.6)

    pub sight_grows : (h h' : List Thing) (sight : Sight) (pl : Placed p sight.instance) (owner : Option ℕ) (seen : List Variable) → Extends h h' →
        SightHas p now h sight pl owner seen → SightHas p now h' sight pl owner seen
    sight_grows h h' sight pl owner seen e q = record {
      early = q.early;
      this = this_grows h h' sight.instance sight.this owner e.by q.this;
      names = names_grow h h' sight.instance pl seen sight.variables e.by q.names;
    }

    -- one more `val` in sight
    local_named : (h : List Thing) (x : ℕ) (pl : Placed p x) (seen : List Variable) (named : Named) (n : ℕ) (v : Value) (k : GroundType) →
        slice_get pl.holds.derivation.locals n ≡ Some k → ValueHas p now h v k → NamesHave p now h x pl seen named →
        (w : Variable) → In w (Local n ∷ seen) → VariableHas p now h x pl ((Local n, v) ∷ named) w
    local_named h x pl seen named n v k e q r (Parameter b i) (inl f) = absurd cc
    local_named h x pl seen named n v k e q r (Parameter b i) (inr f) = let s =
        r.by (Parameter b i) f in record { kind = s.kind; typed = s.typed; value = s.value; here = s.here; has = s.has }
    local_named h x pl seen named n v k e q r (Local m) i = ⊎_elim
        (λ same. record {
          kind = k;
          typed = ap (slice_get pl.holds.derivation.locals) (sym same) ∙ e;
          value = v;
          here = ap (λ c. if c then Some v else value_named named (Local m)) (eq-eqb n m same);
          has = q;
        })
        (λ ne. let old : In (Local m) seen = elim i [ inl f ↦ absurd (ne (local_same n m f)) | inr f ↦ f ] in
        let s = r.by (Local m) old in
        record {
          kind = s.kind;
          typed = s.typed;
          value = s.value;
          here = ap (λ c. if c then Some v else value_named named (Local m)) (ne_eqb n m ne) ∙
              s.here;
          has = s.has;
        })
        (cases_eq n m)
      where
        local_same : (n m : ℕ) → Local n ≡ Local m → n ≡ m
        local_same n m e = cc

    pub sight_more : (h : List Thing) (sight : Sight) (pl : Placed p sight.instance) (owner : Option ℕ) (seen : List Variable) (n : ℕ) (v : Value)
        (k : GroundType) →
        slice_get pl.holds.derivation.locals n ≡ Some k → ValueHas p now h v k → SightHas p now h sight pl owner seen →
        SightHas p now h (with_local sight n v) pl owner (Local n ∷ seen)
    sight_more h sight pl owner seen n v k e q r = record {
      early = r.early;
      this = r.this;
      names = record { by = local_named h sight.instance pl seen sight.variables n v k e q r.names };
    }

    ------------------------------------------------------------
    -- Heaps with an object more, and with an object's fields set

    pub heap_more : (h : List Thing) (t : Thing) → WellHeap p now h → ThingHas p now h t → Extends h (h ++ t ∷ []) × WellHeap p now (h ++ t ∷ [])
    heap_more h t wh th =
        let grows : Grows h (h ++ t ∷ []) = λ a u e. (u, read_first h (t ∷ []) a u e, refl, refl) in (
          record { by = grows; still = λ a u e s. read_first h (t ∷ []) a u e },
          record {
            by = λ a u e s. elim (read_last h t a u e) [
              | inl f ↦ thing_grows h (h ++ t ∷ []) u grows (wh.by a u f s)
              | inr f ↦ thing_grows h (h ++ t ∷ []) u grows (subst (λ (v : Thing). ThingHas p now h v) f.1 th)
            ];
            long = let l = wh.long in longer l;
            first = λ z lt. let r = wh.first z lt in (r.0, read_first h (t ∷ []) z r.0 r.1, r.2, r.3);
          },
        )
      where
        longer : instance_count p ≤ length h → instance_count p ≤ length (h ++ t ∷ [])
        longer l = omega (arith, l, length_more h t)

    -- the object at a place has these fields now
    pub set_grows : (h : List Thing) (a : ℕ) (t : Thing) (fields : List Value) → slice_get h a ≡ Some t →
        Grows h (slice_set h a (record t { fields = fields }))
    set_grows h a t fields e b u g = ⊎_elim
        (λ same. let f : t ≡ u = some_same (sym e ∙ ap (slice_get h) same ∙ g) in (
          record t { fields = fields },
          ap (slice_get (slice_set h a (record t { fields = fields }))) (sym same) ∙
              get_set_same h a (record t { fields = fields }) (read_within h a t e),
          ap (λ (v : Thing). v.instance) f,
          ap (λ (v : Thing). v.literal) f,
        ))
        (λ ne. (u, get_set_other h a b (record t { fields = fields }) ne ∙ g, refl, refl))
        (cases_eq a b)

    pub heap_set : (h : List Thing) (a : ℕ) (t : Thing) (fields : List Value) → slice_get h a ≡ Some t → Ready p now a → WellHeap p now h →
        (th : ThingHas p now h t) →
        AllHave p now h fields (fields_at p t.instance th.place t.literal) →
        Extends h (slice_set h a (record t { fields = fields })) × WellHeap p now (slice_set h a (record t { fields = fields }))
    heap_set h a t fields e ready wh th q =
        let u : Thing = record t { fields = fields } in
        let h' : List Thing = slice_set h a u in
        let grows : Grows h h' = set_grows h a t fields e in
        let same_at : slice_get h' a ≡ Some u = get_set_same h a u (read_within h a t e) in
        let new : ThingHas p now h u = record { place = th.place; early = th.early; fields = q; captured = th.captured } in (
          record { by = grows; still = λ b v g s. get_set_other h a b u (λ same. s (subst (Ready p now) same ready)) ∙ g },
          record {
            by = λ b v g s. ⊎_elim
                (λ same. thing_grows h h' v grows (subst (λ (v : Thing). ThingHas p now h v) (some_same (sym same_at ∙ ap (slice_get h') same ∙ g)) new))
                (λ ne. thing_grows h h' v grows (wh.by b v (sym (get_set_other h a b u ne) ∙ g) s))
                (cases_eq a b);
            long = let l = wh.long in omega (arith, l, length_set h a u);
            first = λ z lt. let r = wh.first z lt in let g = grows z r.0 r.1 in (g.0, g.1, g.2 ∙ r.2, g.3 ∙ r.3);
          },
        )
