-- Pairs that are closed with no regard to effects, compared by erasure, make a plain subtyping of the types themselves.
use Rattle.std.proofs.Common.{◌≡◌, ℕ, List, [], ◌∷◌, ◌++◌, map, inl, inr, refl, sym, ◌∙◌, ap, subst, Option, Some, None}
use Rattle.std.specs.Option.{option_map}
use Rattle.wy_text.specs.Members.{In, Within}
use Rattle.wy_text.proofs.Lists.{In-left, In-right, In-cases, In-map}
use Rattle.wy_effects.proofs.Closure.{in_decided}
use Rattle.wy_types.specs.declared.types.TypeRef.{TypeRef}
use Rattle.wy_types.specs.declared.types.TypeRef.TheVariants.{Int, Bool, Text, Unit as Nothing, Named, At, Own}
use Rattle.wy_types.specs.Program.{Program}
use Rattle.wy_types.specs.Signature.{Signature, find_method, signature_types}
use Rattle.wy_types.specs.Types.{IsObject, erased, methods_of}
use Rattle.wy_types.specs.Subtyping.{ParamsIn, HasCover, IsClosed, IsPlainSubtype, AnyEffect}
use Rattle.wy_types.proofs.Deciding.{decide_type, decide_pair}
use Rattle.wy_types.proofs.FindingMethods.{find_mapped}
use Rattle.wy_types.proofs.Closing.{find_in}
use Rattle.wy_rules.specs.PlainMethods.{erased_methods}
use Rattle.wy_proving.specs.Certified.{Pair, bare}
use Rattle.wy_proving.proofs.Erasing.{methods_agree, bare_signature, object_erased, erased_object}
use Rattle.wy_proving.proofs.ClosedTypes.{ClosedList, named}

-- the pairs of a list whose erasures are in another
abbrev kept : List Pair → List Pair → List Pair
kept ps [] = []
kept ps (q ∷ qs) = elim (in_decided {X = Pair} (decide_pair decide_type decide_type) (bare q) ps) [ inl h ↦ q ∷ kept ps qs | inr n ↦ kept ps qs ]

in_kept : (ps qs : List Pair) (q : Pair) → In {X = Pair} q qs → In {X = Pair} (bare q) ps → In {X = Pair} q (kept ps qs)
in_kept ps [] q i h = absurd i
in_kept ps (a ∷ qs) q i h =
    elim (in_decided {X = Pair} (decide_pair decide_type decide_type) (bare a) ps) as (λ d. In {X = Pair} q (elim d [ inl g ↦ a ∷ kept ps qs | inr n ↦ kept ps qs ])) [
      | inl g ↦ elim i [ inl e ↦ inl e | inr j ↦ inr (in_kept ps qs q j h) ]
      | inr n ↦ elim i [ inl e ↦ absurd (n (let P : Pair → Type 0 = λ v. In {X = Pair} (bare v) ps in subst P (sym e) h)) | inr j ↦ in_kept ps qs q j h ]
    ]

kept_in : (ps qs : List Pair) (q : Pair) → In {X = Pair} q (kept ps qs) → In {X = Pair} q qs × In {X = Pair} (bare q) ps
kept_in ps [] q i = absurd i
kept_in ps (a ∷ qs) q i =
    elim (in_decided {X = Pair} (decide_pair decide_type decide_type) (bare a) ps) as (λ d. In {X = Pair} q (elim d [ inl g ↦ a ∷ kept ps qs | inr n ↦ kept ps qs ]) → In {X = Pair} q (a ∷ qs) × In {X = Pair} (bare q) ps) [
      | inl g ↦ λ h. elim h [ inl e ↦ (let P : Pair → Type 0 = λ v. In {X = Pair} (bare v) ps in (inl e, subst P e g)) | inr j ↦ (let r = kept_in ps qs q j in (inr r.0, r.1)) ]
      | inr n ↦ λ h. (let r = kept_in ps qs q h in (inr r.0, r.1))
    ] i

-- all pairs of two lists
abbrev row : TypeRef → List TypeRef → List Pair
row u [] = []
row u (v ∷ vs) = (u, v) ∷ row u vs

abbrev products : List TypeRef → List TypeRef → List Pair
products [] vs = []
products (u ∷ us) vs = row u vs ++ products us vs

in_row : (u v : TypeRef) (vs : List TypeRef) → In v vs → In {X = Pair} (u, v) (row u vs)
in_row u v [] i = absurd i
in_row u v (w ∷ vs) (inl e) = inl (cc)
in_row u v (w ∷ vs) (inr i) = inr (in_row u v vs i)

in_products : (u v : TypeRef) (us vs : List TypeRef) → In u us → In v vs → In {X = Pair} (u, v) (products us vs)
in_products u v [] vs i j = absurd i
in_products u v (w ∷ us) vs (inl e) j = In-left {X = Pair} (u, v) (row w vs) (products us vs) (let P : TypeRef → Type 0 = λ x. In {X = Pair} (u, v) (row x vs) in subst P (sym e) (in_row u v vs j))
in_products u v (w ∷ us) vs (inr i) j = In-right {X = Pair} (u, v) (row w vs) (products us vs) (in_products u v us vs i j)

row_in : (u : TypeRef) (q : Pair) (vs : List TypeRef) → In {X = Pair} q (row u vs) → (u ≡ q.0) × In q.1 vs
row_in u q [] i = absurd i
row_in u q (v ∷ vs) (inl e) = (ap (λ (r : Pair). r.0) e, inl (ap (λ (r : Pair). r.1) e))
row_in u q (v ∷ vs) (inr i) = (let r = row_in u q vs i in (r.0, inr r.1))

products_in : (q : Pair) (us vs : List TypeRef) → In {X = Pair} q (products us vs) → In q.0 us × In q.1 vs
products_in q [] vs i = absurd i
products_in q (u ∷ us) vs i = elim (In-cases {X = Pair} q (row u vs) (products us vs) i) [
  | inl j ↦ (let r = row_in u q vs j in (inl r.0, r.1))
  | inr j ↦ (let r = products_in q us vs j in (inr r.0, r.1))
]

-- base types whose erasures are the same are the same
pub base_same : (s t : TypeRef) → (IsObject s → ⊥) → (IsObject t → ⊥) → erased s ≡ erased t → s ≡ t
base_same Int Int n m e = refl
base_same Bool Bool n m e = refl
base_same Text Text n m e = refl
base_same Nothing Nothing n m e = refl
base_same (Named d es) t n m e = absurd (n tt)
base_same (At d b) t n m e = absurd (n tt)
base_same (Own l) t n m e = absurd (n tt)
base_same s (Named d es) n m e = absurd (m tt)
base_same s (At d b) n m e = absurd (m tt)
base_same s (Own l) n m e = absurd (m tt)
base_same s t n m e = absurd (cc)

param_named : (ms : List (Signature TypeRef)) (m : Signature TypeRef) → In m ms → (t : TypeRef) → In t m.params → In t (signature_types ms)
param_named [] m i t j = absurd i
param_named (a ∷ ms) m (inl e) t j = In-left t (a.params ++ a.result ∷ []) (signature_types ms) (In-left t a.params (a.result ∷ []) (subst (λ (v : Signature TypeRef). In t v.params) (sym e) j))
param_named (a ∷ ms) m (inr i) t j = In-right t (a.params ++ a.result ∷ []) (signature_types ms) (param_named ms m i t j)

result_named : (ms : List (Signature TypeRef)) (m : Signature TypeRef) → In m ms → In m.result (signature_types ms)
result_named [] m i = absurd i
result_named (a ∷ ms) m (inl e) = In-left m.result (a.params ++ a.result ∷ []) (signature_types ms) (In-right m.result a.params (a.result ∷ []) (inl (ap (λ (v : Signature TypeRef). v.result) e)))
result_named (a ∷ ms) m (inr i) = In-right m.result (a.params ++ a.result ∷ []) (signature_types ms) (result_named ms m i)

module _ (p : Program) (k : ℕ) (ps : List Pair) (closed : (q : Pair) → In {X = Pair} q ps → IsClosed TypeRef (erased_methods p k) IsObject AnyEffect ps q) where
  module _ (all : List TypeRef) (going : (t : TypeRef) → In t all → Within (named p k t) all) where
    abbrev among : List Pair
    among = kept ps (products all all)

    params_kept : (xs zs : List TypeRef) → ((t : TypeRef) → In t xs → In t all) → ((t : TypeRef) → In t zs → In t all) → ParamsIn ps (map erased xs) (map erased zs) → ParamsIn among xs zs
    params_kept [] [] f g h = tt
    params_kept [] (b ∷ zs) f g h = absurd h
    params_kept (a ∷ xs) [] f g h = absurd h
    params_kept (a ∷ xs) (b ∷ zs) f g h =
        (in_kept ps (products all all) (b, a) (in_products b a all all (g b (inl refl)) (f a (inl refl))) h.0, params_kept xs zs (λ t i. f t (inr i)) (λ t i. g t (inr i)) h.1)

    cover_kept : (u v : TypeRef) → In u all → In v all → (m : Signature TypeRef) → In m (methods_of p k v) → (o : Option (Signature TypeRef)) → find_method m.name (methods_of p k u) ≡ o →
        HasCover TypeRef (erased_methods p k) IsObject AnyEffect ps (option_map bare_signature o) (bare_signature m) → HasCover TypeRef (methods_of p k) IsObject AnyEffect among o m
    cover_kept u v i j m l None e h = absurd h
    cover_kept u v i j m l (Some n) e h =
        let a = find_in m.name (methods_of p k u) n e in
        record {
          params = params_kept n.params m.params (λ t o. going u i t (param_named (methods_of p k u) n a t o)) (λ t o. going v j t (param_named (methods_of p k v) m l t o)) h.params;
          effect = tt;
          result = in_kept ps (products all all) (n.result, m.result)
              (in_products n.result m.result all all (going u i n.result (result_named (methods_of p k u) n a)) (going v j m.result (result_named (methods_of p k v) m l))) h.result;
        }

    pair_kept : (u v : TypeRef) → In {X = Pair} (u, v) among → IsClosed TypeRef (methods_of p k) IsObject AnyEffect among (u, v)
    pair_kept u v i =
        let r = kept_in ps (products all all) (u, v) i in
        let s = products_in (u, v) all all r.0 in
        elim (closed (erased u, erased v) r.1) [
          | inl base ↦ inl (
            base_same u v (λ o. base.1 (object_erased u o)) (λ o. base.1 (subst IsObject (sym base.0) (object_erased v o))) base.0,
            λ o. base.1 (object_erased u o),
          )
          | inr object ↦ inr (
            erased_object u object.0,
            erased_object v object.1,
            λ m j.
                let f = object.2 (bare_signature m) (subst (λ ms. In (bare_signature m) ms) (sym (methods_agree p k v)) (In-map bare_signature m (methods_of p k v) j)) in
                let e : find_method m.name (erased_methods p k (erased u)) ≡ option_map bare_signature (find_method m.name (methods_of p k u)) =
                ap (λ ms. find_method m.name ms) (methods_agree p k u) ∙ find_mapped erased (λ f. []) m.name (methods_of p k u) in
                cover_kept u v s.0 s.1 m j (find_method m.name (methods_of p k u)) refl
                (subst (λ o. HasCover TypeRef (erased_methods p k) IsObject AnyEffect ps o (bare_signature m)) e f),
          )
        ]

  pub plain_subtype : (a b : TypeRef) → ClosedList p k a → ClosedList p k b → In {X = Pair} (erased a, erased b) ps → IsPlainSubtype p k a b
  plain_subtype a b x z i =
      let all = x.list ++ z.list in
      let going : (t : TypeRef) → In t all → Within (named p k t) all = λ t j. elim (In-cases t x.list z.list j) [
        | inl l ↦ λ u o. In-left u x.list z.list (x.closed t l u o)
        | inr l ↦ λ u o. In-right u x.list z.list (z.closed t l u o)
      ] in
      record {
        pairs = kept ps (products all all);
        first = in_kept ps (products all all) (a, b) (in_products a b all all (In-left a x.list z.list x.first) (In-right b x.list z.list z.first)) i;
        closed = λ q j. pair_kept all going q.0 q.1 j;
      }
