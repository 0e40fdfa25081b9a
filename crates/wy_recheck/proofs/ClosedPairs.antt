-- A pair is closed in a list exactly where its own test passes and the list has what it asks for.
use Rattle.std.proofs.Common.{◌≡◌, ℕ, suc, List, [], ◌∷◌, map, length, inl, inr, refl, sym, ap, ◌∙◌, subst, Option, Some, None}
use Rattle.std.specs.Prelude.{◌↔◌}
use Rattle.std.specs.Option.{option_map}
use Rattle.wy_text.specs.Members.{In, Within}
use Rattle.wy_effects.specs.Bounds.{IsWithin}
use Rattle.wy_text.proofs.Lists.{In-map, In-unmap}
use Rattle.wy_types.specs.declared.types.TypeRef.{TypeRef}
use Rattle.wy_types.specs.declared.types.TypeRef.TheVariants.{Int, Bool, Text, Unit as Nothing, Named, At, Own}
use Rattle.wy_types.specs.declared.path.Part.{Part}
use Rattle.wy_types.specs.declared.path.Part.TheVariants.{Parameter, Result}
use Rattle.wy_types.specs.declared.path.Step.{Step}
use Rattle.wy_types.specs.Program.{Program}
use Rattle.wy_types.specs.Signature.{Signature, find_method}
use Rattle.wy_types.specs.Types.{IsObject, erased, methods_of}
use Rattle.wy_types.specs.Bounds.{bounds_of}
use Rattle.wy_types.specs.Subtyping.{ParamsIn, Covers, HasCover, LeadsBy, IsStep, AnyEffect}
use Rattle.wy_types.proofs.Closing.{closed_step, IsClosed-more}
use Rattle.wy_types.proofs.FindingMethods.{find_mapped}
use Rattle.wy_types.proofs.Reaching.{no_methods}
use Rattle.wy_rules.specs.PlainMethods.{erased_methods}
use Rattle.wy_subtype.specs.declared.verdict.Mode.{Mode}
use Rattle.wy_subtype.specs.declared.verdict.Mode.TheVariants.{Annotated, Plain}
use Rattle.wy_subtype.specs.declared.verdict.Cause.{Cause}
use Rattle.wy_subtype.specs.declared.verdict.Cause.TheVariants.{MissingMethod, Arity, Base, Effect}
use Rattle.wy_subtype.specs.declared.unfolding.UnfoldedPair.{UnfoldedPair}
use Rattle.wy_subtype.specs.Verdict.{Closes, AreObjects, FailsBy}
use Rattle.wy_subtype.specs.Steps.{Allows, StepsTo}
use Rattle.wy_subtype.specs.Unfolding.{sides, Asks}
use Rattle.wy_subtype.proofs.Places.{slice_get-mapped}
use Rattle.wy_subtype.proofs.Working.{fails_open}
use Rattle.wy_proving.specs.Certified.{Pair, bare}
use Rattle.wy_proving.proofs.Erasing.{methods_agree, bare_signature, object_erased, erased_object}
use Rattle.wy_proving.proofs.PlainPairs.{base_same}
use Rattle.wy_recheck.specs.Closing.{looked_up, ClosedIn}

no_erased_methods : (p : Program) (k : ℕ) (t : TypeRef) → (IsObject t → ⊥) → erased_methods p k t ≡ []
no_erased_methods p k Int n = refl
no_erased_methods p k Bool n = refl
no_erased_methods p k Text n = refl
no_erased_methods p k Nothing n = refl
no_erased_methods p k (Named d es) n = absurd (n tt)
no_erased_methods p k (At d e) n = absurd (n tt)
no_erased_methods p k (Own l) n = absurd (n tt)

params_bare : (ps : List Pair) (xs zs : List TypeRef) → ParamsIn ps xs zs → ParamsIn (map bare ps) (map erased xs) (map erased zs)
params_bare ps [] [] h = tt
params_bare ps [] (b ∷ zs) h = absurd h
params_bare ps (a ∷ xs) [] h = absurd h
params_bare ps (a ∷ xs) (b ∷ zs) h = (In-map {X = Pair} {Y = Pair} bare (b, a) ps h.0, params_bare ps xs zs h.1)

as_many : (ps : List Pair) (xs zs : List TypeRef) → ParamsIn ps (map erased xs) (map erased zs) → length xs ≡ length zs
as_many ps [] [] h = refl
as_many ps [] (b ∷ zs) h = absurd h
as_many ps (a ∷ xs) [] h = absurd h
as_many ps (a ∷ xs) (b ∷ zs) h = ap suc (as_many ps xs zs h.1)

module _ (p : Program) (k : ℕ) where
  find_bare : (t : TypeRef) (name : List ℕ) → find_method name (erased_methods p k (erased t)) ≡ option_map bare_signature (find_method name (methods_of p k t))
  find_bare t name = ap (λ (ms : List (Signature TypeRef)). find_method name ms) (methods_agree p k t) ∙ find_mapped erased (λ e. []) name (methods_of p k t)

  in_bare : (t : TypeRef) (n : Signature TypeRef) → In n (methods_of p k t) → In (bare_signature n) (erased_methods p k (erased t))
  in_bare t n i =
      let P : List (Signature TypeRef) → Type 0 = λ ms. In (bare_signature n) ms in
      subst P (sym (methods_agree p k t)) (In-map bare_signature n (methods_of p k t) i)

  ------------------------------------------------------------
  -- A closed pair, a step and a failing test, as erased

  cover_bare : (ps : List Pair) (o : Option (Signature TypeRef)) (n : Signature TypeRef) → HasCover TypeRef (methods_of p k) IsObject (Allows p k Plain) ps o n →
      HasCover TypeRef (erased_methods p k) IsObject AnyEffect (map bare ps) (option_map bare_signature o) (bare_signature n)
  cover_bare ps None n h = absurd h
  cover_bare ps (Some m) n h = record { params = params_bare ps m.params n.params h.params; effect = tt; result = In-map {X = Pair} {Y = Pair} bare (m.result, n.result) ps h.result }

  closed_bare : (ps : List Pair) (q : Pair) → Closes p k Plain ps q → ClosedIn p k Plain (map bare ps) q
  closed_bare ps q (inl b) = inl (ap erased b.0, λ o. b.1 (erased_object q.0 o))
  closed_bare ps q (inr h) =
      inr (
        object_erased q.0 h.0,
        object_erased q.1 h.1,
        λ n i.
            let P : List (Signature TypeRef) → Type 0 = λ ms. In n ms in
            let r = In-unmap bare_signature n (methods_of p k q.1) (subst P (methods_agree p k q.1) i) in
            let Q : Signature TypeRef → Type 0 = λ v. HasCover TypeRef (erased_methods p k) IsObject AnyEffect (map bare ps) (find_method v.name (erased_methods p k (erased q.0))) v in
            let S : Option (Signature TypeRef) → Type 0 = λ o. HasCover TypeRef (erased_methods p k) IsObject AnyEffect (map bare ps) o (bare_signature r.0) in
            subst Q r.2 (subst S (sym (find_bare q.0 r.0.name)) (cover_bare ps (find_method r.0.name (methods_of p k q.0)) r.0 (h.2 r.0 r.1))),
      )

  leads_bare : (m n : Signature TypeRef) (part : Part) (r : Pair) → LeadsBy TypeRef (methods_of p k) IsObject (Allows p k Plain) m n part r →
      LeadsBy TypeRef (erased_methods p k) IsObject AnyEffect (bare_signature m) (bare_signature n) part (bare r)
  leads_bare m n Result r h = (ap erased h.0, ap erased h.1)
  leads_bare m n (Parameter i) r h = (slice_get-mapped erased n.params i r.0 h.0, slice_get-mapped erased m.params i r.1 h.1)

  step_bare : (q r : Pair) (s : Step) → StepsTo p k Plain q s r → IsStep TypeRef (erased_methods p k) IsObject AnyEffect (bare q) s (bare r)
  step_bare q r s h = record {
    left = bare_signature h.left;
    right = bare_signature h.right;
    found = find_bare q.0 h.right.name ∙ ap (option_map bare_signature) h.found;
    asked = in_bare q.1 h.right h.asked;
    named = h.named;
    leads = leads_bare h.left h.right s.part r h.leads;
  }

  bare_cover : (ps : List Pair) (q : Pair) → AreObjects q → ClosedIn p k Plain ps q → (n : Signature TypeRef) → In n (methods_of p k q.1) → (o : Option (Signature TypeRef)) → find_method n.name (methods_of p k q.0) ≡ o →
      HasCover TypeRef (erased_methods p k) IsObject AnyEffect ps (option_map bare_signature o) (bare_signature n)
  bare_cover ps q both (inl b) n i o e = absurd (b.1 (object_erased q.0 both.0))
  bare_cover ps q both (inr h) n i o e =
      let S : Option (Signature TypeRef) → Type 0 = λ v. HasCover TypeRef (erased_methods p k) IsObject AnyEffect ps v (bare_signature n) in
      subst S (find_bare q.0 n.name ∙ ap (option_map bare_signature) e) (h.2 (bare_signature n) (in_bare q.1 n i))

  fails_bare : (ps : List Pair) (q : Pair) (c : Cause) → FailsBy p k Plain q c → ClosedIn p k Plain ps q → ⊥
  fails_bare ps q Base f (inl b) =
      f.0 (base_same q.0 q.1 (λ o. b.1 (object_erased q.0 o)) (λ o. b.1 (subst IsObject (sym b.0) (object_erased q.1 o))) b.0, λ o. b.1 (object_erased q.0 o))
  fails_bare ps q Base f (inr h) = f.1 (erased_object q.0 h.0, erased_object q.1 h.1)
  fails_bare ps q (MissingMethod name) f closed = bare_cover ps q f.0 closed f.1.0 f.1.1 None f.1.3
  fails_bare ps q (Arity name) f closed =
      let m = f.1.3 in
      let cover : Covers TypeRef (erased_methods p k) IsObject AnyEffect ps (bare_signature m.0) (bare_signature f.1.0) = bare_cover ps q f.0 closed f.1.0 f.1.1 (Some m.0) m.1 in
      m.2 (as_many ps m.0.params f.1.0.params cover.params)
  fails_bare ps q (Effect name a) f closed = let e : Plain ≡ Annotated = f.0 in absurd (cc)

  ------------------------------------------------------------
  -- In either mode

  -- a pair whose own test fails is closed in no list
  pub fails_closed : (mode : Mode) (q : Pair) (c : Cause) → FailsBy p k mode q c → (pairs : List Pair) → ClosedIn p k mode pairs q → ⊥
  fails_closed Annotated q c f pairs closed = fails_open p k Annotated pairs q c f closed
  fails_closed Plain q c f pairs closed = fails_bare pairs q c f closed

  -- a pair whose own test passes is closed in the lists that have all that it asks for
  pub asks_closed : (mode : Mode) (q : Pair) (asked : List UnfoldedPair) → Asks p k mode q asked → (pairs : List Pair) →
      ((c : UnfoldedPair) → In c asked → In {X = Pair} (looked_up mode (sides c)) pairs) ↔ ClosedIn p k mode pairs q
  asks_closed Annotated q asked a pairs = (
    λ h. a.closes pairs (λ r i. (let u = In-unmap sides r asked i in let P : Pair → Type 0 = λ v. In {X = Pair} v pairs in subst P u.2 (h u.0 u.1))),
    λ closed c i. closed_step TypeRef (methods_of p k) IsObject (IsWithin (bounds_of p k)) (no_methods p k) pairs q c.step (sides c) closed (a.steps c i),
  )
  asks_closed Plain q asked a pairs = (
    λ h.
        let asks : List Pair = map sides asked in
        let within : Within {X = Pair} (map bare asks) pairs = λ r i. (
        let v = In-unmap {X = Pair} {Y = Pair} bare r asks i in
        let u = In-unmap sides v.0 asked v.1 in
        let P : Pair → Type 0 = λ w. In {X = Pair} w pairs in
        subst P (ap bare u.2 ∙ v.2) (h u.0 u.1)
        ) in
        IsClosed-more TypeRef (erased_methods p k) IsObject AnyEffect (map bare asks) pairs (bare q) within (closed_bare asks q (a.closes asks (λ r i. i))),
    λ closed c i. closed_step TypeRef (erased_methods p k) IsObject AnyEffect (no_erased_methods p k) pairs (bare q) c.step (bare (sides c)) closed (step_bare q (sides c) c.step (a.steps c i)),
  )
