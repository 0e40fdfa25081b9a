-- The instances start one after the other, and then the program's block runs: the whole meaning is sound.
use Rattle.std.proofs.Common.{◌≡◌, ◌≢◌, ℕ, suc, ◌<◌, ◌≤◌, List, [], ◌∷◌, ◌++◌, inl, inr, ⊎_elim, refl, sym, ap, ◌∙◌, subst, Some, None, arith, append-nil, append_assoc, lt_irrefl}
use Rattle.std.specs.Prelude.{slice_get, slice_set}
use Rattle.std.proofs.lemmas.Bool.{cases_eq}
use Rattle.wy_text.specs.Members.{In, Within}
use Rattle.wy_text.proofs.Lists.{In-slice_get}
use Rattle.wy_types.specs.declared.resolved.ScopeKind.{ScopeKind}
use Rattle.wy_types.specs.declared.resolved.ScopeKind.TheVariants as kind
use Rattle.wy_types.specs.Code.{Values, none, more, Block}
use Rattle.wy_types.specs.Program.{Program, Start, Init, Run}
use Rattle.wy_types.specs.declared.types.TypeRef.TheVariants as of
use Rattle.wy_types.specs.Core.{ValuesFit, BlockFits, StartFits, StartIs}
use Rattle.wy_types.specs.Vals.{literal_captures}
use Rattle.wy_rules.specs.GroundTypes.{GroundType, ground_reading, effect_by}
use Rattle.wy_rules.specs.Derivations.{BodyDerivation, T-Body, T-Body-Init, Derivations, none as no_derivations, more as one_more, effects_of}
use Rattle.wy_rules.specs.Typing.{DerivesAll, DerivesStart}
use Rattle.wy_device.specs.declared.deed.Event.{Event}
use Rattle.wy_device.specs.declared.deed.Event.TheVariants.{Enter, Leave}
use Rattle.wy_device.specs.RunEnds.{Wrong}
use Rattle.wy_meaning.specs.Values.{Value, Nothing, Thing, World, Outcome, Gives, Stops, field_added, fill_field}
use Rattle.wy_meaning.specs.Starts.{scope_of_instance}
use Rattle.wy_meaning.specs.Results.{Result, give, node, tick, told, settle, added, carried, bind, whole}
use Rattle.wy_meaning.specs.Values as value
use Rattle.wy_meaning.specs.Eval.{Calls, eval_block, open_calls}
use Rattle.wy_meaning.specs.Start.{fill_all, start_of_scope, outside, run_start}
use Rattle.wy_meaning.specs.Bounds.{Call, Bounded, BoundedFrom}
use Rattle.wy_meaning.specs.OpenCalls.{open_after}
use Rattle.wy_sound.specs.Programs.{program_starts, allowed}
use Rattle.wy_sound.proofs.Linked.{GrantsFit}
use Rattle.wy_sound.proofs.Linked.{IsLinked}
use Rattle.wy_sound.proofs.LinkingLists.{read_within}
use Rattle.wy_sound.proofs.Lists.{some_same, get_set_same, get_set_other, length_set}
use Rattle.wy_sound.proofs.Effects.{call_of, May, Kept, Held, kept_none, held_more, kept_more, kept_call, held_call, after_append, bounded_append}
use Rattle.wy_sound.specs.TypedHeaps.{Placed, kind_at, fields_at, instance_count, Ready, ValueHas, AllHave, ThingHas, WellHeap, SightHas, unstarted_thing, Filling, PartlyFilled}
use Rattle.wy_sound.proofs.Heaps.{Grows, Extends, value_grows, all_grow, all_append, thing_grows, set_grows}
use Rattle.wy_sound.proofs.Results.{Stays, SoundTo, Sound, Valued}
use Rattle.wy_sound.proofs.Placing.{place, scope_there, scope_fits, kind_main, main_kind}
use Rattle.wy_sound.proofs.Applying.{CallsSound}
use Rattle.wy_sound.proofs.Evaluating.{left_within, right_within, value_sound, block_sound}
use Rattle.wy_sound.proofs.Calling.{calls_sound}

------------------------------------------------------------
-- Results between starts, where other objects are ready than before

module _ (p : Program) where
  abbrev pub FineTo : {X : Type 0} → List ℕ → (World → Type 0) → (X → World → Type 0) → Outcome X → World → List Event → Type 0
  FineTo f end ok (Stops e) w es = (e ≢ Wrong) × Held p f es × end w
  FineTo f end ok (Gives a) w es = Kept p f es × ok a w

  -- as sound results are, but for what stays of the heap: one thing where there is an end, and another where something is given
  pub record Fine {X : Type 0} (f : List ℕ) (end : World → Type 0) (ok : X → World → Type 0) (r : Result X) : Type 0 where
    pub by : FineTo f end ok r.out r.world r.events

  module _ {X Y : Type 0} (f : List ℕ) (end : World → Type 0) (ok : X → World → Type 0) (ok' : Y → World → Type 0) (g : X → World → Result Y) where
    fine_more : (es fs : List Event) (o : Outcome Y) (w : World) → Kept p f es → FineTo f end ok' o w fs → FineTo f end ok' o w (es ++ fs)
    fine_more es fs (Stops e) w k h = (h.0, held_more p f es fs k h.1, h.2)
    fine_more es fs (Gives a) w k h = (kept_more p f es fs k h.0, h.1)

    carried_fine : (o : Outcome X) (w : World) (es : List Event) (c q : ℕ) → FineTo f end ok o w es →
        ((a : X) (w : World) → ok a w → Fine f end ok' (g a w)) → Fine f end ok' (carried o w es c q g)
    unfolding added
    carried_fine (Stops e) w es c q h k = record { by = h }
    carried_fine (Gives a) w es c q h k = record { by = fine_more es (g a w).events (g a w).out (g a w).world h.0 (k a w h.1).by }

    bind_fine : (r : Result X) → Fine f end ok r → ((a : X) (w : World) → ok a w → Fine f end ok' (g a w)) → Fine f end ok' (bind r g)
    unfolding bind
    bind_fine r h k = carried_fine r.out r.world r.events r.nodes r.steps h.by k

  tick_fine : {X : Type 0} (f : List ℕ) (end : World → Type 0) (ok : X → World → Type 0) (r : Result X) → Fine f end ok r → Fine f end ok (tick r)
  unfolding tick
  tick_fine f end ok r h = record { by = h.by }

  sound_to : {X : Type 0} (now : ℕ) (f : List ℕ) (end : World → Type 0) (w0 : World) (ok : X → World → Type 0) (o : Outcome X) (w : World) (es : List Event) →
      ((w : World) → Stays p now w0 w → end w) → SoundTo p now f w0 ok o w es →
      FineTo f end (λ a w. Extends p now w0.objects w.objects × WellHeap p now w.objects × ok a w) o w es
  sound_to now f end w0 ok (Stops e) w es keeps h = (h.0, h.1, keeps w h.2)
  sound_to now f end w0 ok (Gives a) w es keeps h = (h.2, (h.0, h.1, h.3))

  sound_fine : {X : Type 0} (now : ℕ) (f : List ℕ) (end : World → Type 0) (w0 : World) (ok : X → World → Type 0) (r : Result X) →
      ((w : World) → Stays p now w0 w → end w) → Sound p now f w0 ok r →
      Fine f end (λ a w. Extends p now w0.objects w.objects × WellHeap p now w.objects × ok a w) r
  sound_fine now f end w0 ok r keeps h = record { by = sound_to now f end w0 ok r.out r.world r.events keeps h.by }

  -- where no call is open
  abbrev pub TopTo : (Value → World → Type 0) → Outcome Value → World → List Event → Type 0
  TopTo ok (Stops e) w es = (e ≢ Wrong) × (GrantsFit p → Bounded (allowed p) es)
  TopTo ok (Gives a) w es = (GrantsFit p → Bounded (allowed p) es) × (open_after [] es ≡ []) × ok a w

  pub record Top (ok : Value → World → Type 0) (r : Result Value) : Type 0 where
    pub by : TopTo ok r.out r.world r.events

  module _ (ok ok' : Value → World → Type 0) (g : Value → World → Result Value) where
    top_more : (es fs : List Event) (o : Outcome Value) (w : World) → (GrantsFit p → Bounded (allowed p) es) → open_after [] es ≡ [] →
        TopTo ok' o w fs → TopTo ok' o w (es ++ fs)
    top_more es fs (Stops e) w b c h =
        (h.0, λ q. bounded_append p [] es fs (b q) (subst (λ (s : List Call). BoundedFrom (allowed p) s fs) (sym c) (h.1 q)))
    top_more es fs (Gives a) w b c h = (
      λ q. bounded_append p [] es fs (b q) (subst (λ (s : List Call). BoundedFrom (allowed p) s fs) (sym c) (h.0 q)),
      after_append p [] es fs ∙
          ap (λ (s : List Call). open_after s fs) c ∙ h.1,
      h.2,
    )

    carried_top : (o : Outcome Value) (w : World) (es : List Event) (c q : ℕ) → TopTo ok o w es →
        ((a : Value) (w : World) → ok a w → Top ok' (g a w)) → Top ok' (carried o w es c q g)
    unfolding added
    carried_top (Stops e) w es c q h k = record { by = h }
    carried_top (Gives a) w es c q h k = record { by = top_more es (g a w).events (g a w).out (g a w).world h.0 h.1 (k a w h.2).by }

    pub bind_top : (r : Result Value) → Top ok r → ((a : Value) (w : World) → ok a w → Top ok' (g a w)) → Top ok' (bind r g)
    unfolding bind
    bind_top r h k = carried_top r.out r.world r.events r.nodes r.steps h.by k

  whole_to : (f : List ℕ) (x b : List ℕ) (end : World → Type 0) (ok : Value → World → Type 0) (o : Outcome Value) (w : World) (es : List Event) (c q : ℕ) →
      May p (call_of x b) f → FineTo f end ok o w es →
      Top ok (told (Enter x b) (node (carried o w es c q (λ v w. tick (told Leave (give v w))))))
  unfolding told node added tick give
  whole_to f x b end ok (Stops e) w es c q i h = record { by = (h.0, λ g. (held_call p f x b es i h.1).bounded g [] tt) }
  whole_to f x b end ok (Gives a) w es c q i h =
      let k = kept_call p f x b es i h.0 in
      record { by = ((λ g. k.bounded g [] tt), k.closes [], h.1) }

  pub whole_top : (f : List ℕ) (x b : List ℕ) (end : World → Type 0) (ok : Value → World → Type 0) (r : Result Value) → May p (call_of x b) f → Fine f end ok r →
      Top ok (whole (Enter x b) r)
  unfolding whole bind
  whole_top f x b end ok r i h = whole_to f x b end ok r.out r.world r.events r.nodes r.steps i h.by

  ------------------------------------------------------------
  -- From one start to the next

  module _ (x y : ℕ) (le : x ≤ y) where
    later_ready : (a : ℕ) → Ready p x a → Ready p y a
    later_ready a r = elim r [ inl lt ↦ inl (omega (arith, lt, le)) | inr ge ↦ inr ge ]

    later_value : (h : List Thing) (v : Value) (k : GroundType) → ValueHas p x h v k → ValueHas p y h v k
    later_value h (value.Int n) k q = q
    later_value h (value.Truth b) k q = q
    later_value h Nothing k q = q
    later_value h (value.Text s) k q = q
    later_value h (value.Object a) k q = (q.0, q.1, later_ready a q.2, q.3)
    later_value h (value.Grant g) k q = q

    later_all : (h : List Thing) (vs : List Value) (ks : List GroundType) → AllHave p x h vs ks → AllHave p y h vs ks
    later_all h [] [] q = tt
    later_all h (v ∷ vs) (k ∷ ks) q = (later_value h v k q.0, later_all h vs ks q.1)
    later_all h [] (k ∷ ks) q = absurd q
    later_all h (v ∷ vs) [] q = absurd q

    later_thing : (h : List Thing) (t : Thing) → ThingHas p x h t → ThingHas p y h t
    later_thing h t q = record {
      place = q.place;
      early = (let e = q.early in omega (arith, e, le));
      fields = later_all h t.fields (fields_at p t.instance q.place t.literal) q.fields;
      captured = record {
        by = λ v i. let r =
            q.captured.by v i in record { kind = r.kind; typed = r.typed; value = r.value; here = r.here; has = later_value h r.value r.kind r.has };
      };
    }

module _ (p : Program) (linked : IsLinked p) where
  module _ (x : ℕ) (pl : Placed p x) (lt : x < instance_count p) where
    not_ready : (z : ℕ) → x ≤ z → z < instance_count p → Ready p x z → ⊥
    not_ready z le below (inl l) = lt_irrefl x (omega (arith, le, l))
    not_ready z le below (inr ge) = lt_irrefl z (omega (arith, below, ge))

    pub filling_stays : (done : List GroundType) (h h' : List Thing) → Extends p x h h' → WellHeap p x h' → Filling p x pl done h → Filling p x pl done h'
    filling_stays done h h' e wh q = record {
      heap = wh;
      values = q.values;
      here = e.still x _ q.here (not_ready x (omega arith) lt);
      typed = all_grow p x h h' q.values done e.by q.typed;
      rest = record { by = λ z le below. e.still z (unstarted_thing p z) (q.rest.by z le below) (not_ready z (omega (arith, le)) below) };
    }

    -- one more field
    filled_more : (done : List GroundType) (h : List Thing) (v : Value) (k : GroundType) → (q : Filling p x pl done h) → ValueHas p x h v k →
        Filling p x pl (done ++ k ∷ []) (slice_set h x (record { instance = x; literal = 0; captured = []; fields = q.values ++ v ∷ [] }))
    filled_more done h v k q has =
        let t : Thing = record { instance = x; literal = 0; captured = []; fields = q.values } in
        let u : Thing = record { instance = x; literal = 0; captured = []; fields = q.values ++ v ∷ [] } in
        let h' : List Thing = slice_set h x u in
        let grows : Grows p x h h' = set_grows p x h x t (q.values ++ v ∷ []) q.here in
        record {
          heap = record {
            by = λ a s e r. ⊎_elim
                (λ (same : x ≡ a). absurd (not_ready x (omega arith) lt (subst (Ready p x) (sym same) r)))
                (λ (ne : x ≢ a). thing_grows p x h h' s grows (q.heap.by a s (sym (get_set_other h x a u ne) ∙ e) r))
                (cases_eq x a);
            long = (let l = q.heap.long in omega (arith, l, length_set h x u));
            first = λ z below. let r = q.heap.first z below in let g = grows z r.0 r.1 in (g.0, g.1, g.2 ∙ r.2, g.3 ∙ r.3);
          };
          values = q.values ++ v ∷ [];
          here = get_set_same h x u (read_within h x t q.here);
          typed = all_append p x h' q.values (v ∷ []) done (k ∷ []) (all_grow p x h h' q.values done grows q.typed)
              (value_grows p x h h' v k grows has, tt);
          rest = record { by = λ z le below. get_set_other h x z u (λ same. lt_irrefl x (omega (arith, le, same))) ∙ q.rest.by z le below };
        }

    fill_fine : (f : List ℕ) (end : World → Type 0) (done : List GroundType) (w : World) (v : Value) (k : GroundType) → Filling p x pl done w.objects →
        ValueHas p x w.objects v k →
        Fine p f end (λ u w. Filling p x pl (done ++ k ∷ []) w.objects) (settle (fill_field x v w))
    unfolding settle
    fill_fine f end done w v k q has =
        subst (λ o. Fine p f end (λ u w. Filling p x pl (done ++ k ∷ []) w.objects) (settle (field_added x v w o))) (sym q.here)
        (record { by = (kept_none p f, filled_more done w.objects v k q has) })

    module _ (calls : Calls) (ok : CallsSound p x calls) (f : List ℕ) where
      early : x ≤ instance_count p
      early = omega (arith, lt)

      outside_has : (h : List Thing) → SightHas p x h (outside x) pl None []
      outside_has h = record { early = omega arith; this = tt; names = record { by = λ v i. absurd i } }

      -- those of some of the first of these types
      abbrev PartlyTo : List GroundType → World → Type 0
      PartlyTo all w = (done : List GroundType) × (left : List GroundType) × (done ++ left ≡ all) × Filling p x pl done w.objects

      fill_all_fine : (ds : Derivations GroundType) (es : Values) (ks done all : List GroundType) (w : World) →
          DerivesAll (ground_reading p x pl.instance) pl.scope pl.holds.derivation.locals None ds es ks → Within (effects_of ds) f →
          ValuesFit p pl.scope None [] es → done ++ ks ≡ all → Filling p x pl done w.objects →
          Fine p f (PartlyTo all) (λ u w. Filling p x pl all w.objects) (fill_all p (program_starts p) calls (outside x) x es w)
      unfolding fill_all give
      fill_all_fine no_derivations none [] done all w h v fits e q =
          record { by = (kept_none p f, subst (λ (ks : List GroundType). Filling p x pl ks w.objects) (sym (append-nil done) ∙ e) q) }
      fill_all_fine (one_more d e1 ds) (more e es) (k ∷ ks) done all w h v fits g q =
          bind_fine p f (PartlyTo all) (λ u w1. Extends p x w.objects w1.objects × WellHeap p x w1.objects × ValueHas p x w1.objects u k)
          (λ u w. Filling p x pl all w.objects) _ _
          (sound_fine p x f (PartlyTo all) w (Valued p x k) _ (λ w1 s. (done, k ∷ ks, g, filling_stays done w.objects w1.objects s.0 s.1 q))
          (value_sound p linked x early calls ok f None d e k e1 [] (outside x) pl w h.0
          (left_within e1 (effects_of ds) (effects_of (one_more d e1 ds)) f refl v) fits.0 (outside_has w.objects) q.heap))
          (λ u w1 r1. bind_fine p f (PartlyTo all) (λ u w. Filling p x pl (done ++ k ∷ []) w.objects) (λ u w. Filling p x pl all w.objects) _ _
          (tick_fine p f (PartlyTo all) (λ u w. Filling p x pl (done ++ k ∷ []) w.objects) _
          (fill_fine f (PartlyTo all) done w1 u k (filling_stays done w.objects w1.objects r1.0 r1.1 q) r1.2))
          (λ u2 w2 q2. fill_all_fine ds es ks (done ++ k ∷ []) all w2 h.1
          (right_within e1 (effects_of ds) (effects_of (one_more d e1 ds)) f refl v) fits.1 (append_assoc done (k ∷ []) ks ∙ g) q2))
      fill_all_fine ds es ks done all w h v fits g q = absurd h

    -- its init has ended: its object is ready
    pub done_now : (h : List Thing) → Filling p x pl (fields_at p x pl 0) h → WellHeap p (suc x) h
    done_now h q =
        let le : x ≤ suc x = omega arith in
        let t : Thing = record { instance = x; literal = 0; captured = []; fields = q.values } in
        let none : literal_captures (slice_get pl.scope.literals 0) ≡ [] =
        linked.captures pl.scope (In-slice_get p.scopes pl.instance.scope pl.scope pl.is.scope) in
        let mine : ThingHas p (suc x) h t = record {
          place = pl;
          early = le;
          fields = later_all p x (suc x) le h q.values (fields_at p x pl 0) q.typed;
          captured = record { by = λ v i. absurd (subst (λ xs. In v xs) none i) };
        } in
        record {
          by = λ a s e r. ⊎_elim
              (λ (same : x ≡ a). subst (λ (s : Thing). ThingHas p (suc x) h s) (some_same (sym q.here ∙ ap (slice_get h) same ∙ e)) mine)
              (λ (ne : x ≢ a). later_thing p x (suc x) le h s (q.heap.by a s e (elim r [ inl l ↦ inl (omega (arith, l, ne)) | inr ge ↦ inr ge ])))
              (cases_eq x a);
          long = q.heap.long;
          first = q.heap.first;
        }

  ------------------------------------------------------------
  -- Starts

  -- modules have an init, and the program has its run
  init_is : (k : ScopeKind) (s : Start) → (k ≡ kind.Program → ⊥) → StartIs k s → (values : Values) × (s ≡ Init values)
  init_is k (Init values) ne i = (values, refl)
  init_is kind.Pure (Run block) ne i = absurd i
  init_is kind.Resource (Run block) ne i = absurd i
  init_is kind.Plain (Run block) ne i = absurd i
  init_is kind.Program (Run block) ne i = absurd (ne refl)

  run_is : (k : ScopeKind) (s : Start) → k ≡ kind.Program → StartIs k s → (block : Block) × (s ≡ Run block)
  run_is k (Run block) e i = (block, refl)
  run_is kind.Pure (Init values) e i = absurd cc
  run_is kind.Resource (Init values) e i = absurd cc
  run_is kind.Plain (Init values) e i = absurd cc
  run_is kind.Program (Init values) e i = absurd i

  module _ (n x : ℕ) (pl : Placed p x) where
    abbrev pub declared : List ℕ
    declared = effect_by pl.instance.bound pl.instance.ground pl.scope.start_effect

    started_fine : x < instance_count p → (d : BodyDerivation GroundType) (values : Values) (w : World) →
        DerivesStart (ground_reading p x pl.instance) pl.scope pl.holds.derivation.locals d (Init values) → ValuesFit p pl.scope None [] values →
        Filling p x pl [] w.objects → Fine p declared (λ w. PartlyFilled p x pl w.objects) (λ u w. Filling p x pl (fields_at p x pl 0) w.objects)
        (fill_all p (program_starts p) (open_calls p (program_starts p) n) (outside x) x values w)
    started_fine lt (T-Body-Init place ds) values w h fits q =
        fill_all_fine x pl lt (open_calls p (program_starts p) n) (calls_sound p linked x (omega (arith, lt)) n) declared ds values
        (fields_at p x pl 0) [] (fields_at p x pl 0) w h.1 h.2 fits refl q
    started_fine lt (T-Body place d f) values w h fits q = absurd h

    run_fine : x ≤ instance_count p → (d : BodyDerivation GroundType) (block : Block) (w : World) →
        DerivesStart (ground_reading p x pl.instance) pl.scope pl.holds.derivation.locals d (Run block) → BlockFits p pl.scope None [] block →
        WellHeap p x w.objects → Fine p declared (λ w. WellHeap p x w.objects) (λ u w. WellHeap p x w.objects)
        (eval_block p (program_starts p) (open_calls p (program_starts p) n) (outside x) block w)
    run_fine le (T-Body place d f) block w h fits wh =
        let sound = block_sound p linked x le (open_calls p (program_starts p) n) (calls_sound p linked x le n) declared None d block
        (kind_at p x pl of.Unit) f [] (outside x) pl w h.1 h.2 fits
        (record { early = omega arith; this = tt; names = record { by = λ v i. absurd i } }) wh in
        heap_stays w (Valued p x (kind_at p x pl of.Unit)) (sound_fine p x declared (λ w. WellHeap p x w.objects) w (Valued p x (kind_at p x pl of.Unit)) _ (λ w1 s. s.1) sound)
      where
        heap_to : (f : List ℕ) (end : World → Type 0) (ok : Value → World → Type 0) (o : Outcome Value) (w : World) (es : List Event) →
            ((v : Value) (w : World) → ok v w → WellHeap p x w.objects) → FineTo p f end ok o w es → FineTo p f end (λ v w. WellHeap p x w.objects) o w es
        heap_to f end ok (Stops e) w es g h = h
        heap_to f end ok (Gives a) w es g h = (h.0, g a w h.1)

        heap_stays : {f : List ℕ} {end : World → Type 0} (w0 : World) (ok : Value → World → Type 0) {r : Result Value} →
            Fine p f end (λ a w. Extends p x w0.objects w.objects × WellHeap p x w.objects × ok a w) r → Fine p f end (λ v w. WellHeap p x w.objects) r
        heap_stays {f} {end} w0 ok {r} h = record { by = heap_to f end _ r.out r.world r.events (λ v w q. q.1) h.by }
    run_fine le (T-Body-Init place ds) block w h fits wh = absurd h

    pub init_fine : x < instance_count p → (w : World) → Filling p x pl [] w.objects →
        Fine p declared (λ w. PartlyFilled p x pl w.objects) (λ u w. Filling p x pl (fields_at p x pl 0) w.objects)
        (run_start p (program_starts p) (open_calls p (program_starts p) n) x w (start_of_scope (scope_of_instance p (program_starts p) x)))
    init_fine lt w q =
        let fits = (scope_fits p linked x pl).starts in
        let i = init_is pl.scope.kind pl.scope.start (λ e. lt_irrefl x (omega (arith, lt, kind_main p linked x pl e))) fits.0 in
        let Ok : Value → World → Type 0 = λ u w. Filling p x pl (fields_at p x pl 0) w.objects in
        let End : World → Type 0 = λ w. PartlyFilled p x pl w.objects in
        let values_fit : StartFits p pl.scope (Init i.0) = subst (λ s. StartFits p pl.scope s) i.1 fits.1 in
        subst (λ o. Fine p declared End Ok (run_start p (program_starts p) (open_calls p (program_starts p) n) x w (start_of_scope o)))
        (sym (scope_there p linked x pl))
        (subst (λ s. Fine p declared End Ok (run_start p (program_starts p) (open_calls p (program_starts p) n) x w (Some s))) (sym i.1)
        (started_fine lt pl.holds.derivation.start i.0 w
        (subst (λ s. DerivesStart (ground_reading p x pl.instance) pl.scope pl.holds.derivation.locals pl.holds.derivation.start s) i.1
        pl.holds.derives.0) values_fit.1 q))

    pub main_fine : x ≡ instance_count p → (w : World) → WellHeap p x w.objects →
        Fine p declared (λ w. WellHeap p x w.objects) (λ u w. WellHeap p x w.objects)
        (run_start p (program_starts p) (open_calls p (program_starts p) n) x w (start_of_scope (scope_of_instance p (program_starts p) x)))
    main_fine e w wh =
        let fits = (scope_fits p linked x pl).starts in
        let r = run_is pl.scope.kind pl.scope.start (main_kind p linked x pl e) fits.0 in
        let Ok : Value → World → Type 0 = λ u w. WellHeap p x w.objects in
        let End : World → Type 0 = λ w. WellHeap p x w.objects in
        let block_fits : StartFits p pl.scope (Run r.0) = subst (λ s. StartFits p pl.scope s) r.1 fits.1 in
        subst (λ o. Fine p declared End Ok (run_start p (program_starts p) (open_calls p (program_starts p) n) x w (start_of_scope o)))
        (sym (scope_there p linked x pl))
        (subst (λ s. Fine p declared End Ok (run_start p (program_starts p) (open_calls p (program_starts p) n) x w (Some s))) (sym r.1)
        (run_fine (omega (arith, e)) pl.holds.derivation.start r.0 w
        (subst (λ s. DerivesStart (ground_reading p x pl.instance) pl.scope pl.holds.derivation.locals pl.holds.derivation.start s) r.1
        pl.holds.derives.0) block_fits wh))
