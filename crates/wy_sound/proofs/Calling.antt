-- Calls on objects are sound, however many may be open at once.
use Rattle.std.proofs.Common.{◌≡◌, ℕ, zero, suc, ◌≤◌, List, ◌++◌, length, map, refl, sym, ap, ◌∙◌, subst, Some, arith, nat_eq, append_assoc, lt_irrefl}
use Rattle.std.specs.Prelude.{codes, decimal, slice_get, if◌then◌else◌}
use Rattle.std.proofs.lemmas.Bool.{eq-eqb, ne_eqb}
use Rattle.wy_text.proofs.Lists.{In-slice_get}
use Rattle.wy_types.specs.Program.{Program, Body}
use Rattle.wy_types.specs.Signature.{Signature, find_method}
use Rattle.wy_types.specs.Core.{body_parameters}
use Rattle.wy_types.specs.Vals.{literal_captures}
use Rattle.wy_rules.specs.GroundTypes.{GroundType, Own, ground_methods, ground_reading, effect_by}
use Rattle.wy_rules.specs.Derivations.{BodyDerivation, T-Body, T-Body-Init}
use Rattle.wy_rules.specs.Typing.{DerivesBody}
use Rattle.wy_authority.specs.Authority.{body_name}
use Rattle.wy_device.specs.declared.deed.Event.TheVariants.{Enter}
use Rattle.wy_device.specs.RunEnds.{TooDeep, Wrong}
use Rattle.wy_meaning.specs.Values.{Value, Thing, World}
use Rattle.wy_meaning.specs.Starts.{scope_of_instance}
use Rattle.wy_meaning.specs.Results.{Result, stop, whole}
use Rattle.wy_meaning.specs.Eval.{Calls, Method, method_in, parameters, body_text, instance_name, eval_block, called, called_on, open_calls}
use Rattle.wy_sound.specs.Programs.{program_starts}
use Rattle.wy_sound.proofs.Linked.{IsLinked}
use Rattle.wy_sound.proofs.Lists.{pick_true, pick_false, map_length}
use Rattle.wy_sound.proofs.Effects.{call_of, May}
use Rattle.wy_sound.proofs.Allowing.{may_method}
use Rattle.wy_sound.specs.TypedHeaps.{Placed, kind_at, instance_count, Ready, AllHave, WellHeap, ThingHas, SightHas, NamesHave}
use Rattle.wy_sound.proofs.Heaps.{all_length}
use Rattle.wy_sound.proofs.Results.{Sound, Valued, stop_sound, whole_sound}
use Rattle.wy_sound.proofs.Placing.{scope_there, name_there, scope_fits}
use Rattle.wy_sound.proofs.Methods.{signature_at, own_body, body_derivation}
use Rattle.wy_sound.proofs.Names.{method_names}
use Rattle.wy_sound.proofs.Applying.{CallsSound}
use Rattle.wy_sound.proofs.Evaluating.{block_sound}

-- what a body is called in events is what it is called in the authority
body_called : (b : Body) (l : ℕ) (name : List ℕ) → b.owner ≡ l → b.signature.name ≡ name → body_name b ≡ body_text l name
body_called b l name o n =
    ap (λ k. if nat_eq k 0 then b.signature.name else codes "new" ++ (decimal k ++ (codes "." ++ b.signature.name))) o ∙
    ap (λ m. if nat_eq l 0 then m else codes "new" ++ (decimal l ++ (codes "." ++ m))) n ∙ of_literal l
  where
    of_literal : (l : ℕ) → (if nat_eq l 0 then name else codes "new" ++ (decimal l ++ (codes "." ++ name))) ≡ body_text l name
    of_literal zero = refl
    of_literal (suc l) =
        pick_false (nat_eq (suc l) 0) name (codes "new" ++ (decimal (suc l) ++ (codes "." ++ name)))
        (ne_eqb (suc l) 0 (λ e. lt_irrefl 0 (omega (arith, e)))) ∙
        ap (λ xs. codes "new" ++ xs) (sym (append_assoc (decimal (suc l)) (codes ".") name))

module _ (p : Program) (linked : IsLinked p) (now : ℕ) (early : now ≤ instance_count p) where
  module _ (calls : Calls) (ok : CallsSound p now calls) (a : ℕ) (t : Thing) (name : List ℕ) (vs : List Value) (w : World)
      (at : slice_get w.objects a ≡ Some t) (ready : Ready p now a)
      (th : ThingHas p now w.objects t) (wh : WellHeap p now w.objects) where
    abbrev pl : Placed p t.instance
    pl = th.place

    -- what a body of the object's literal sees
    method_sight : (k : ℕ) (b : Body) → slice_get pl.scope.bodies k ≡ Some b → b.owner ≡ t.literal →
        AllHave p now w.objects vs (map (kind_at p t.instance pl) b.signature.params) →
        SightHas p now w.objects (record { instance = t.instance; this = Some a; variables = parameters k 0 vs ++ t.captured }) pl (Some b.owner)
        (literal_captures (slice_get pl.scope.literals b.owner) ++ body_parameters k b)
    method_sight k b there owner typed = record {
      early = th.early;
      this = (a, t, refl, at, refl, sym owner, ready);
      names = method_names p now w.objects t.instance pl k b there vs typed t.captured (literal_captures (slice_get pl.scope.literals b.owner))
          (subst (λ l. NamesHave p now w.objects t.instance pl (literal_captures (slice_get pl.scope.literals l)) t.captured)
          (sym owner) th.captured);
    }

    derived_sound : (k : ℕ) (b : Body) (d : BodyDerivation GroundType) → slice_get pl.scope.bodies k ≡ Some b → b.owner ≡ t.literal →
        AllHave p now w.objects vs (map (kind_at p t.instance pl) b.signature.params) →
        DerivesBody (ground_reading p t.instance pl.instance) pl.scope pl.holds.derivation.locals d b →
        Sound p now (effect_by pl.instance.bound pl.instance.ground b.signature.effect) w (Valued p now (kind_at p t.instance pl b.signature.result))
        (eval_block p (program_starts p) calls
        (record { instance = t.instance; this = Some a; variables = parameters k 0 vs ++ t.captured }) b.block w)
    derived_sound k b (T-Body place d f) there owner typed h =
        block_sound p linked now early calls ok (effect_by pl.instance.bound pl.instance.ground b.signature.effect) (Some b.owner) d b.block
        (kind_at p t.instance pl b.signature.result) f
        (literal_captures (slice_get pl.scope.literals b.owner) ++ body_parameters k b)
        (record { instance = t.instance; this = Some a; variables = parameters k 0 vs ++ t.captured }) pl w
        h.1 h.2 ((scope_fits p linked t.instance pl).bodies k b there).1 (method_sight k b there owner typed) wh
    derived_sound k b (T-Body-Init place ds) there owner typed h = absurd h

    entered_sound : (m : Method) → slice_get pl.scope.bodies m.number ≡ Some m.body → m.body.owner ≡ t.literal → m.body.signature.name ≡ name →
        AllHave p now w.objects vs (map (kind_at p t.instance pl) m.body.signature.params) →
        Sound p now (effect_by pl.instance.bound pl.instance.ground m.body.signature.effect) w
        (Valued p now (kind_at p t.instance pl m.body.signature.result)) (called p (program_starts p) calls a t name vs w (Some m))
    entered_sound m there owner is typed =
        let b : Body = m.body in
        let f : List ℕ = effect_by pl.instance.bound pl.instance.ground b.signature.effect in
        let ok' : Value → World → Type 0 = Valued p now (kind_at p t.instance pl b.signature.result) in
        let d = body_derivation (ground_reading p t.instance pl.instance) pl.scope pl.holds.derivation.locals
        pl.holds.derivation.bodies pl.scope.bodies m.number b pl.holds.derives.1 there in
        let r : Result Value = eval_block p (program_starts p) calls
        (record { instance = t.instance; this = Some a; variables = parameters m.number 0 vs ++ t.captured }) b.block w in
        let long : length vs ≡ length b.signature.params = all_length p now w.objects vs (map (kind_at p t.instance pl) b.signature.params) typed ∙
        map_length (kind_at p t.instance pl) b.signature.params in
        let may : May p (call_of (instance_name (program_starts p) t.instance) (body_text t.literal name)) f =
        subst (λ n. May p (call_of n (body_text t.literal name)) f) (sym (name_there p linked t.instance pl))
        (subst (λ n. May p (call_of pl.instance.name n) f) (body_called b t.literal name owner is)
        (may_method p t.instance pl.instance pl.scope b pl.is.there pl.is.scope (In-slice_get pl.scope.bodies m.number b there))) in
        let enter = Enter (instance_name (program_starts p) t.instance) (body_text t.literal name) in
        subst (λ (r : Result Value). Sound p now f w ok' r)
        (sym (pick_true (nat_eq (length vs) (length b.signature.params)) (whole enter r) (stop Wrong w)
        (eq-eqb (length vs) (length b.signature.params) long)))
        (whole_sound p now f (instance_name (program_starts p) t.instance) (body_text t.literal name) w ok' r may
        (derived_sound m.number b d.0 there owner typed d.1))

    pub method_sound : (m : Signature GroundType) → find_method name (ground_methods p (Own t.instance t.literal)) ≡ Some m →
        AllHave p now w.objects vs m.params →
        Sound p now m.effect w (Valued p now m.result)
        (called p (program_starts p) calls a t name vs w (method_in (scope_of_instance p (program_starts p) t.instance) t.literal name))
    method_sound m found typed =
        let h = own_body p t.instance pl t.literal name m found in
        let typed' = subst (λ (m : Signature GroundType). AllHave p now w.objects vs m.params) (sym h.signed) typed in
        subst (λ (m : Signature GroundType). Sound p now m.effect w (Valued p now m.result)
        (called p (program_starts p) calls a t name vs w (method_in (scope_of_instance p (program_starts p) t.instance) t.literal name))) h.signed
        (subst (λ o. Sound p now (signature_at p t.instance pl h.method.body).effect w
        (Valued p now (signature_at p t.instance pl h.method.body).result)
        (called p (program_starts p) calls a t name vs w (method_in o t.literal name))) (sym (scope_there p linked t.instance pl))
        (subst (λ o. Sound p now (signature_at p t.instance pl h.method.body).effect w
        (Valued p now (signature_at p t.instance pl h.method.body).result) (called p (program_starts p) calls a t name vs w o)) (sym h.found)
        (entered_sound h.method h.there h.owner h.called typed')))

  pub calls_sound : (n : ℕ) → CallsSound p now (open_calls p (program_starts p) n)
  unfolding open_calls
  calls_sound zero = record {
    by =
        λ a t name vs w m at ready found typed wh. stop_sound p now m.effect w (Valued p now m.result) TooDeep (λ e. cc) wh;
  }
  calls_sound (suc n) = record {
    by = λ a t name vs w m at ready found typed wh.
        subst (λ o. Sound p now m.effect w (Valued p now m.result) (called_on p (program_starts p) (open_calls p (program_starts p) n) a name vs w o))
        (sym at)
        (method_sound (open_calls p (program_starts p) n) (calls_sound n) a t name vs w at ready (wh.by a t at ready) wh m found typed);
  }
