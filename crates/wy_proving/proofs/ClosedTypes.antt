-- Lists of types that have all that the methods of their types name: of a type in range, and of any type in a plain module.
use Rattle.std.proofs.Common.{◌≡◌, ℕ, zero, suc, ◌<◌, List, [], ◌∷◌, ◌++◌, map, length, inl, inr, refl, sym, ap, subst, Option, Some, None, Bool as Truth, true, false, arith}
use Rattle.std.specs.Prelude.{slice_get}
use Rattle.wy_text.specs.Members.{In, Within}
use Rattle.wy_text.proofs.Lists.{In-left, In-right, In-cases, In-unmap}
use Rattle.wy_effects.proofs.Closure.{closure}
use Rattle.wy_effects.proofs.SetLaws.{cases_equal}
use Rattle.wy_types.specs.declared.types.TypeRef.{TypeRef}
use Rattle.wy_types.specs.declared.types.TypeRef.TheVariants.{Int, Bool, Text, Unit as Nothing, Named, At, Own}
use Rattle.wy_types.specs.declared.resolved.TypeDecl.{TypeDecl}
use Rattle.wy_types.specs.Program.{Program, Scope}
use Rattle.wy_types.specs.Signature.{Signature, mapped_signature, signature_types}
use Rattle.wy_types.specs.Types.{annotated, erased, signature, declared_methods, named_methods, scope_is_plain, scope_bodies, methods_of_owner, methods_of}
use Rattle.wy_types.specs.Fitting.{FitsType, AllSignaturesFit, IsTypeOf, scope_literals}
use Rattle.wy_types.specs.Core.{IsCore}
use Rattle.wy_types.specs.Few.{type_bound}
use Rattle.wy_types.proofs.Deciding.{decide_type}
use Rattle.wy_types.proofs.Finite.{Fits-methods, owner_among, length-le-type_bound}
use Rattle.wy_types.proofs.Kept.{core_signatures_fit}

-- the types that a type's methods name
abbrev pub named : Program → ℕ → TypeRef → List TypeRef
named p k t = signature_types (methods_of p k t)

-- a list that has the type, and with each type all that its methods name
pub record ClosedList (p : Program) (k : ℕ) (t : TypeRef) : Type 0 where
  pub list : List TypeRef
  pub first : In t list
  pub closed : (u : TypeRef) → In u list → Within (named p k u) list

-- the types of signatures that are in range are in range
types_fit : (p : Program) (atoms owns : ℕ) (ms : List (Signature TypeRef)) → AllSignaturesFit p atoms owns ms → (t : TypeRef) → In t (signature_types ms) → FitsType p atoms owns t
types_fit p atoms owns [] h t i = absurd i
types_fit p atoms owns (m ∷ ms) h t i = elim (In-cases t (m.params ++ m.result ∷ []) (signature_types ms) i) [
  | inr j ↦ types_fit p atoms owns ms (λ n o. h n (inr o)) t j
  | inl j ↦ elim (In-cases t m.params (m.result ∷ []) j) [
    | inl l ↦ (h m (inl refl)).params t l
    | inr l ↦ elim l [ inl e ↦ subst (FitsType p atoms owns) e (h m (inl refl)).result | inr z ↦ absurd z ]
  ]
]

-- a type of signatures that are read in another way is one of theirs, read so
mapped_type : (f : TypeRef → TypeRef) (g : List ℕ → List ℕ) (ms : List (Signature TypeRef)) (u : TypeRef) → In u (signature_types (map (mapped_signature f g) ms)) → (t : TypeRef) × In t (signature_types ms) × (f t ≡ u)
mapped_type f g [] u i = absurd i
mapped_type f g (m ∷ ms) u i =
    let here = m.params ++ m.result ∷ [] in
    elim (In-cases u (map f m.params ++ f m.result ∷ []) (signature_types (map (mapped_signature f g) ms)) i) [
      | inr j ↦ (let r = mapped_type f g ms u j in (r.0, In-right r.0 here (signature_types ms) r.1, r.2))
      | inl j ↦ elim (In-cases u (map f m.params) (f m.result ∷ []) j) [
        | inl l ↦ (let r = In-unmap f u m.params l in (r.0, In-left r.0 here (signature_types ms) (In-left r.0 m.params (m.result ∷ []) r.1), r.2))
        | inr l ↦ elim l [ inl e ↦ (m.result, In-left m.result here (signature_types ms) (In-right m.result m.params (m.result ∷ []) (inl refl)), e) | inr z ↦ absurd z ]
      ]
    ]

module _ (p : Program) (core : IsCore p) (k : ℕ) where
  goes_on : (t u : TypeRef) → IsTypeOf p k t → In u (named p k t) → IsTypeOf p k u
  goes_on t u f i = types_fit p _ _ (methods_of p k t) (Fits-methods p (core_signatures_fit p core) k t f) u i

  pub of_range : (t : TypeRef) → IsTypeOf p k t → ClosedList p k t
  of_range t f =
      let r = closure TypeRef decide_type (named p k) (IsTypeOf p k) goes_on (type_bound p k) (length-le-type_bound p k) t f in
      record { list = r.list; first = r.new t (inl refl); closed = r.closed }

  -- .. of several types
  record ClosedOver (ts : List TypeRef) : Type 0 where
    pub list : List TypeRef
    pub has : Within ts list
    pub closed : (u : TypeRef) → In u list → Within (named p k u) list

  over : (ts : List TypeRef) → ((u : TypeRef) → In u ts → IsTypeOf p k u) → ClosedOver ts
  over [] h = record { list = []; has = λ u i. absurd i; closed = λ u i. absurd i }
  over (t ∷ ts) h =
      let a = of_range t (h t (inl refl)) in
      let b = over ts (λ u i. h u (inr i)) in
      record {
        list = a.list ++ b.list;
        has = λ u i. elim i [ inl e ↦ In-left u a.list b.list (subst (λ v. In v a.list) e a.first) | inr j ↦ In-right u a.list b.list (b.has u j) ];
        closed = λ u i v j. elim (In-cases u a.list b.list i) [ inl l ↦ In-left v a.list b.list (a.closed u l v j) | inr l ↦ In-right v a.list b.list (b.closed u l v j) ];
      }

  -- of a type whose methods name types in range
  above : (t : TypeRef) → ((u : TypeRef) → In u (named p k t) → IsTypeOf p k u) → ClosedList p k t
  above t h =
      let r = over (named p k t) h in
      record {
        list = t ∷ r.list;
        first = inl refl;
        closed = λ u i v j. elim i [ inl e ↦ inr (r.has v (subst (λ w. In v (named p k w)) (sym e) j)) | inr l ↦ inr (r.closed u l v j) ];
      }

  -- what a declaration's methods name is in range, read as erased and at a set
  declared_fit : (d : ℕ) (o : Option TypeDecl) → slice_get p.declarations d ≡ o → (t : TypeRef) → In t (signature_types (declared_methods o)) → (atoms : ℕ) × FitsType p atoms 0 t
  declared_fit d None e t i = absurd i
  declared_fit d (Some a) e t i = (length a.members, types_fit p (length a.members) 0 (map signature a.methods) ((core_signatures_fit p core).declarations d a e) t i)

  pub erased_fit : (atoms : ℕ) (t : TypeRef) → FitsType p atoms 0 t → IsTypeOf p k (erased t)
  erased_fit atoms Int f = tt
  erased_fit atoms Bool f = tt
  erased_fit atoms Text f = tt
  erased_fit atoms Nothing f = tt
  erased_fit atoms (Named d es) f = (f.0, inr refl, (λ s i. absurd i))
  erased_fit atoms (At d e) f = (f.0, inr refl, (λ s i. absurd i))
  erased_fit atoms (Own l) f = absurd (omega arith)

  ------------------------------------------------------------
  -- Of a type at a set: all declared types at that set, and the base types

  abbrev all_at : List ℕ → ℕ → List TypeRef
  all_at e zero = []
  all_at e (suc n) = At n e ∷ all_at e n

  at_there : (e : List ℕ) (n d : ℕ) → d < n → In (At d e) (all_at e n)
  at_there e zero d h = absurd (omega arith)
  at_there e (suc n) d h = elim (cases_equal n d) [ inl same ↦ inl (ap (λ v. At v e) same) | inr other ↦ inr (at_there e n d (omega (arith, h, other))) ]

  at_from : (e : List ℕ) (n : ℕ) (u : TypeRef) → In u (all_at e n) → (d : ℕ) × (At d e ≡ u)
  at_from e zero u i = absurd i
  at_from e (suc n) u i = elim i [ inl same ↦ (n, same) | inr j ↦ at_from e n u j ]

  abbrev bases : List TypeRef
  bases = Int ∷ Bool ∷ Text ∷ Nothing ∷ []

  abbrev at_and_bases : List ℕ → List TypeRef
  at_and_bases e = all_at e (length p.declarations) ++ bases

  a_base : (e : List ℕ) (t : TypeRef) → In t bases → In t (at_and_bases e)
  a_base e t i = In-right t (all_at e (length p.declarations)) bases i

  an_at : (e : List ℕ) (d : ℕ) → d < length p.declarations → In (At d e) (at_and_bases e)
  an_at e d h = In-left (At d e) (all_at e (length p.declarations)) bases (at_there e (length p.declarations) d h)

  annotated_there : (e : List ℕ) (atoms : ℕ) (t : TypeRef) → FitsType p atoms 0 t → In (annotated e t) (at_and_bases e)
  annotated_there e atoms Int f = a_base e Int (inl refl)
  annotated_there e atoms Bool f = a_base e Bool (inr (inl refl))
  annotated_there e atoms Text f = a_base e Text (inr (inr (inl refl)))
  annotated_there e atoms Nothing f = a_base e Nothing (inr (inr (inr (inl refl))))
  annotated_there e atoms (Named d es) f = an_at e d f.0
  annotated_there e atoms (At d b) f = an_at e d f.0
  annotated_there e atoms (Own l) f = absurd (omega arith)

  at_names : (e : List ℕ) (d : ℕ) → Within (named p k (At d e)) (at_and_bases e)
  at_names e d u i =
      let r = mapped_type (annotated e) (λ b. e) (declared_methods (slice_get p.declarations d)) u i in
      let f = declared_fit d (slice_get p.declarations d) refl r.0 r.1 in
      subst (λ v. In v (at_and_bases e)) r.2 (annotated_there e f.0 r.0 f.1)

  base_names : (u : TypeRef) → In u bases → (v : TypeRef) → In v (named p k u) → ⊥
  base_names u i v j = elim i [
    | inl a ↦ subst (λ w. In v (named p k w)) (sym a) j
    | inr i2 ↦ elim i2 [
      | inl a ↦ subst (λ w. In v (named p k w)) (sym a) j
      | inr i3 ↦ elim i3 [
        | inl a ↦ subst (λ w. In v (named p k w)) (sym a) j
        | inr i4 ↦ elim i4 [ inl a ↦ subst (λ w. In v (named p k w)) (sym a) j | inr z ↦ z ]
      ]
    ]
  ]

  of_set : (d : ℕ) (e : List ℕ) → ClosedList p k (At d e)
  of_set d e = record {
    list = At d e ∷ at_and_bases e;
    first = inl refl;
    closed = λ u i v j. inr (elim i [
      | inl same ↦ at_names e d v (subst (λ w. In v (named p k w)) (sym same) j)
      | inr l ↦ elim (In-cases u (all_at e (length p.declarations)) bases l) [
        | inl o ↦ (let r = at_from e (length p.declarations) u o in at_names e r.0 v (subst (λ w. In v (named p k w)) (sym r.1) j))
        | inr o ↦ absurd (base_names u o v j)
      ]
    ]);
  }

  ------------------------------------------------------------
  -- Of any type, in a plain module

  own_fit : (l : ℕ) (o : Option Scope) → slice_get p.scopes k ≡ o → AllSignaturesFit p 512 (length (scope_literals o)) (methods_of_owner l (scope_bodies o))
  own_fit l None e m i = absurd i
  own_fit l (Some s) e m i = (core_signatures_fit p core).bodies k s e m (owner_among l s.bodies m i)

  bare_names : (plain : Truth) → plain ≡ true → (d : ℕ) (es : List (List ℕ)) (u : TypeRef) → In u (signature_types (named_methods plain es (declared_methods (slice_get p.declarations d)))) → IsTypeOf p k u
  bare_names true e d es u i =
      let r = mapped_type erased (λ b. []) (declared_methods (slice_get p.declarations d)) u i in
      let f = declared_fit d (slice_get p.declarations d) refl r.0 r.1 in
      subst (IsTypeOf p k) r.2 (erased_fit f.0 r.0 f.1)
  bare_names false e d es u i = absurd (cc)

  pub of_plain : scope_is_plain (slice_get p.scopes k) ≡ true → (t : TypeRef) → ClosedList p k t
  of_plain plain Int = of_range Int tt
  of_plain plain Bool = of_range Bool tt
  of_plain plain Text = of_range Text tt
  of_plain plain Nothing = of_range Nothing tt
  of_plain plain (Named d es) = above (Named d es) (λ u i. bare_names (scope_is_plain (slice_get p.scopes k)) plain d es u i)
  of_plain plain (At d e) = of_set d e
  of_plain plain (Own l) = above (Own l) (λ u i. types_fit p 512 _ (methods_of_owner l (scope_bodies (slice_get p.scopes k))) (own_fit l (slice_get p.scopes k) refl) u i)
