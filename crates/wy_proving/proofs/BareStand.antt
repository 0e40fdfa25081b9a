-- Erased types that a certificate can list by a type at the empty set, and erased methods of such types.
use Rattle.std.proofs.Common.{◌≡◌, ℕ, List, [], ◌∷◌, map, inl, inr, refl, sym, ◌∙◌, ap, subst, Option, Some, None, arith}
use Rattle.std.specs.Prelude.{slice_get}
use Rattle.std.specs.Option.{option_map}
use Rattle.wy_text.specs.Members.{In}
use Rattle.wy_text.proofs.Lists.{In-map, In-unmap}
use Rattle.wy_effects.proofs.Closure.{Decided}
use Rattle.wy_types.specs.declared.types.TypeRef.{TypeRef}
use Rattle.wy_types.specs.declared.types.TypeRef.TheVariants.{Int, Bool, Text, Unit as Nothing, Named, At, Own}
use Rattle.wy_types.specs.declared.resolved.ScopeKind.{ScopeKind}
use Rattle.wy_types.specs.declared.resolved.ScopeKind.TheVariants.{Pure, Resource, Plain, Program as Main}
use Rattle.wy_types.specs.Program.{Program, Scope}
use Rattle.wy_types.specs.Signature.{Signature, find_method}
use Rattle.wy_types.specs.Types.{IsObject, annotated, erased, methods_of}
use Rattle.wy_types.specs.Fitting.{FitsType}
use Rattle.wy_types.specs.Core.{IsCore, ScopeFits}
use Rattle.wy_types.specs.Subtyping.{ParamsIn, HasCover, IsClosed, IsPlainSubtype, AnyEffect}
use Rattle.wy_types.proofs.Deciding.{decide_type}
use Rattle.wy_types.proofs.FindingMethods.{find_mapped}
use Rattle.wy_rules.specs.PlainMethods.{erased_methods, IsPlainSubtypeOver}
use Rattle.wy_proving.specs.Certified.{Pair, bare}
use Rattle.wy_proving.specs.Proving.{TypeStands, IsEmptyIn}
use Rattle.wy_proving.proofs.Erasing.{erased_erased, object_erased, erased_object, bare_signature, methods_agree}
use Rattle.wy_proving.proofs.ReachedStand.{NamesHave, read_method, own_method}
use Rattle.wy_proving.proofs.StandingDecided.{decide_stands}

------------------------------------------------------------
-- A plain subtyping of types is one of their erasures, by erased methods

params_erased : (ps : List Pair) (xs zs : List TypeRef) → ParamsIn ps xs zs → ParamsIn (map bare ps) (map erased xs) (map erased zs)
params_erased ps [] [] h = tt
params_erased ps [] (b ∷ zs) h = absurd h
params_erased ps (a ∷ xs) [] h = absurd h
params_erased ps (a ∷ xs) (b ∷ zs) h = (In-map {X = Pair} {Y = Pair} bare (b, a) ps h.0, params_erased ps xs zs h.1)

module _ (p : Program) (k : ℕ) where
  cover_erased : (ps : List Pair) (o : Option (Signature TypeRef)) (m : Signature TypeRef) → HasCover TypeRef (methods_of p k) IsObject AnyEffect ps o m →
      HasCover TypeRef (erased_methods p k) IsObject AnyEffect (map bare ps) (option_map bare_signature o) (bare_signature m)
  cover_erased ps None m h = absurd h
  cover_erased ps (Some n) m h = record { params = params_erased ps n.params m.params h.params; effect = tt; result = In-map {X = Pair} {Y = Pair} bare (n.result, m.result) ps h.result }

  erased_method : (ps : List Pair) (u v : TypeRef) → ((m : Signature TypeRef) → In m (methods_of p k v) → HasCover TypeRef (methods_of p k) IsObject AnyEffect ps (find_method m.name (methods_of p k u)) m) → (m : Signature TypeRef) →
      In m (erased_methods p k (erased v)) → HasCover TypeRef (erased_methods p k) IsObject AnyEffect (map bare ps) (find_method m.name (erased_methods p k (erased u))) m
  erased_method ps u v h m i =
      let r = In-unmap bare_signature m (methods_of p k v) (subst (λ ms. In m ms) (methods_agree p k v) i) in
      let found : find_method r.0.name (erased_methods p k (erased u)) ≡ option_map bare_signature (find_method r.0.name (methods_of p k u)) =
      ap (λ ms. find_method r.0.name ms) (methods_agree p k u) ∙ find_mapped erased (λ e. []) r.0.name (methods_of p k u) in
      let P : Signature TypeRef → Type 0 = λ v. HasCover TypeRef (erased_methods p k) IsObject AnyEffect (map bare ps) (find_method v.name (erased_methods p k (erased u))) v in
      subst P r.2
      (subst (λ o. HasCover TypeRef (erased_methods p k) IsObject AnyEffect (map bare ps) o (bare_signature r.0)) (sym found) (cover_erased ps (find_method r.0.name (methods_of p k u)) r.0 (h r.0 r.1)))

  pair_erased : (ps : List Pair) (q : Pair) → IsClosed TypeRef (methods_of p k) IsObject AnyEffect ps q → IsClosed TypeRef (erased_methods p k) IsObject AnyEffect (map bare ps) (bare q)
  pair_erased ps q h = elim h [
    | inl base ↦ inl (ap erased base.0, λ o. base.1 (erased_object q.0 o))
    | inr object ↦ inr (object_erased q.0 object.0, object_erased q.1 object.1, λ m i. erased_method ps q.0 q.1 object.2 m i)
  ]

  -- the erasures are a subtyping by erased methods
  pub erased_subtype : (a b : TypeRef) → IsPlainSubtype p k a b → IsPlainSubtypeOver (erased_methods p k) (erased a) (erased b)
  erased_subtype a b h = record {
    pairs = map bare h.pairs;
    first = In-map {X = Pair} {Y = Pair} bare (a, b) h.pairs h.first;
    closed = λ q i.
        let r = In-unmap {X = Pair} {Y = Pair} bare q h.pairs i in
        let P : Pair → Type 0 = IsClosed TypeRef (erased_methods p k) IsObject AnyEffect (map bare h.pairs) in
        subst P r.2 (pair_erased h.pairs r.0 (h.closed r.0 r.1));
  }

------------------------------------------------------------
-- Erased types that can be listed

annotated_erased : (e : List ℕ) (t : TypeRef) → annotated e (erased t) ≡ annotated e t
annotated_erased e Int = refl
annotated_erased e Bool = refl
annotated_erased e Text = refl
annotated_erased e Nothing = refl
annotated_erased e (Named d es) = refl
annotated_erased e (At d b) = refl
annotated_erased e (Own l) = refl

-- an erased type is what is erased of it at the empty set
pub erased_annotated_bare : (t : TypeRef) → erased t ≡ t → erased (annotated [] t) ≡ t
erased_annotated_bare Int e = refl
erased_annotated_bare Bool e = refl
erased_annotated_bare Text e = refl
erased_annotated_bare Nothing e = refl
erased_annotated_bare (Named d es) e = e
erased_annotated_bare (At d b) e = absurd (cc)
erased_annotated_bare (Own l) e = refl

empty_in : (kind : ScopeKind) → IsEmptyIn kind []
empty_in Pure = tt
empty_in Resource = tt
empty_in Plain = refl
empty_in Main = tt

-- it is erased, and at the empty set it can stand
abbrev pub BareStands : Program → Scope → TypeRef → Type 0
BareStands p s t = (erased t ≡ t) × TypeStands p s (annotated [] t)

module _ (p : Program) (s : Scope) where
  -- whether it is so is decided
  pub decide_bare : (t : TypeRef) → Decided (BareStands p s t)
  decide_bare t = elim (decide_type (erased t) t) [
    | inr n ↦ inr (λ h. n h.0)
    | inl e ↦ elim (decide_stands p s (annotated [] t)) [ inl h ↦ inl (e, h) | inr n ↦ inr (λ h. n h.1) ]
  ]

  at_empty : (t : TypeRef) → TypeStands p s (annotated [] t) → BareStands p s (erased t)
  at_empty t h = (erased_erased t, subst (TypeStands p s) (sym (annotated_erased [] t)) h)

  -- the erasure of a type that stands
  pub bare_of_standing : (t : TypeRef) → TypeStands p s t → BareStands p s (erased t)
  bare_of_standing Int h = at_empty Int tt
  bare_of_standing Bool h = at_empty Bool tt
  bare_of_standing Text h = at_empty Text tt
  bare_of_standing Nothing h = at_empty Nothing tt
  bare_of_standing (Named d es) h = at_empty (Named d es) (h.0, tt, empty_in s.kind)
  bare_of_standing (At d e) h = at_empty (At d e) (h.0, tt, empty_in s.kind)
  bare_of_standing (Own l) h = at_empty (Own l) h

  -- .. of a type in range that is no own type
  pub bare_of_fitting : (n : ℕ) (t : TypeRef) → FitsType p n 0 t → BareStands p s (erased t)
  bare_of_fitting n Int h = at_empty Int tt
  bare_of_fitting n Bool h = at_empty Bool tt
  bare_of_fitting n Text h = at_empty Text tt
  bare_of_fitting n Nothing h = at_empty Nothing tt
  bare_of_fitting n (Named d es) h = at_empty (Named d es) (h.0, tt, empty_in s.kind)
  bare_of_fitting n (At d e) h = at_empty (At d e) (h.0, tt, empty_in s.kind)
  bare_of_fitting n (Own l) h = absurd (omega (arith, h))

module _ (p : Program) (core : IsCore p) (k : ℕ) (s : Scope) (at : slice_get p.scopes k ≡ Some s) (fits : ScopeFits p s) where
  own_bare : (l : ℕ) (m : Signature TypeRef) → In m (map bare_signature (methods_of p k (Own l))) → NamesHave p core k s at fits (BareStands p s) m
  own_bare l m i =
      let r = In-unmap bare_signature m (methods_of p k (Own l)) i in
      let h = own_method p core k s at fits l r.0 r.1 in
      let P : Signature TypeRef → Type 0 = NamesHave p core k s at fits (BareStands p s) in
      subst P r.2 ((λ t j. (let u = In-unmap erased t r.0.params j in subst (BareStands p s) u.2 (bare_of_standing p s u.0 (h.0 u.0 u.1)))), bare_of_standing p s r.0.result h.1)

  -- the erased methods of a type name erased types that can be listed
  pub bare_method_stands : (t : TypeRef) → (m : Signature TypeRef) → In m (erased_methods p k t) → NamesHave p core k s at fits (BareStands p s) m
  bare_method_stands Int m i = absurd i
  bare_method_stands Bool m i = absurd i
  bare_method_stands Text m i = absurd i
  bare_method_stands Nothing m i = absurd i
  bare_method_stands (Named d es) m i = read_method p core k s at fits (BareStands p s) erased (λ e. []) (λ n u w. bare_of_fitting p s n u w.0) (slice_get p.declarations d) d refl m i
  bare_method_stands (At d e) m i = read_method p core k s at fits (BareStands p s) erased (λ e. []) (λ n u w. bare_of_fitting p s n u w.0) (slice_get p.declarations d) d refl m i
  bare_method_stands (Own l) m i = own_bare l m i
