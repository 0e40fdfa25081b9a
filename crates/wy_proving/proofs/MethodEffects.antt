-- The effects of methods of types that stand are sets of the scope's atoms, and empty in a plain module.
use Rattle.std.proofs.Common.{◌≡◌, ℕ, List, [], map, length, refl, sym, ◌∙◌, ap, subst, Some, Bool as Truth, true, false}
use Rattle.std.specs.Prelude.{slice_get}
use Rattle.wy_text.specs.Members.{In}
use Rattle.wy_effects.specs.EffSet.{IsSet, AreSets, replace}
use Rattle.wy_text.proofs.Lists.{In-unmap}
use Rattle.wy_effects.proofs.Replacing.{IsSet-replace}
use Rattle.wy_types.specs.declared.types.TypeRef.{TypeRef}
use Rattle.wy_types.specs.declared.types.TypeRef.TheVariants.{Int, Bool, Text, Unit as Nothing, Named, At, Own}
use Rattle.wy_types.specs.declared.resolved.ScopeKind.{ScopeKind}
use Rattle.wy_types.specs.declared.resolved.ScopeKind.TheVariants.{Pure, Resource, Plain, Program as Main}
use Rattle.wy_types.specs.Program.{Program, Scope, Body}
use Rattle.wy_types.specs.Signature.{Signature, mapped_signature}
use Rattle.wy_types.specs.Types.{is_plain, scope_is_plain, substituted, annotated, erased, signature, declared_methods, named_methods, methods_of_owner, scope_bodies, methods_of}
use Rattle.wy_types.specs.Core.{ScopeFits, BodiesHaveNoEffect}
use Rattle.wy_types.proofs.Finite.{owner_among}
use Rattle.wy_proving.specs.Proving.{TypeStands, IsEmptyIn}

named_set : (n : ℕ) (plain : Truth) (es : List (List ℕ)) (ms : List (Signature TypeRef)) → AreSets n es → (m : Signature TypeRef) → In m (named_methods plain es ms) → IsSet n m.effect
named_set n true es ms h m i = (let r = In-unmap (mapped_signature erased (λ e. [])) m ms i in subst (λ (v : Signature TypeRef). IsSet n v.effect) r.2 tt)
named_set n false es ms h m i =
    let r = In-unmap (mapped_signature (substituted es) (replace es)) m ms i in
    subst (λ (v : Signature TypeRef). IsSet n v.effect) r.2 (IsSet-replace n es r.0.effect h)

no_named : (es : List (List ℕ)) (ms : List (Signature TypeRef)) (m : Signature TypeRef) → In m (named_methods true es ms) → m.effect ≡ []
no_named es ms m i = (let r = In-unmap (mapped_signature erased (λ e. [])) m ms i in subst (λ (v : Signature TypeRef). v.effect ≡ []) r.2 refl)

at_effect : (e : List ℕ) (ms : List (Signature TypeRef)) (m : Signature TypeRef) → In m (map (mapped_signature (annotated e) (λ f. e)) ms) → e ≡ m.effect
at_effect e ms m i = (let r = In-unmap (mapped_signature (annotated e) (λ f. e)) m ms i in subst (λ (v : Signature TypeRef). e ≡ v.effect) r.2 refl)

is_empty_in : (kind : ScopeKind) (e : List ℕ) → is_plain kind ≡ true → IsEmptyIn kind e → e ≡ []
is_empty_in Pure e q h = absurd (cc)
is_empty_in Resource e q h = absurd (cc)
is_empty_in Plain e q h = h
is_empty_in Main e q h = absurd (cc)

no_effect : (kind : ScopeKind) (e : List ℕ) (bs : List Body) → is_plain kind ≡ true → BodiesHaveNoEffect kind e bs → (b : Body) → In b bs → b.signature.effect ≡ []
no_effect Pure e bs q h = absurd (cc)
no_effect Resource e bs q h = absurd (cc)
no_effect Plain e bs q h = h.1
no_effect Main e bs q h = absurd (cc)

module _ (p : Program) (k : ℕ) (s : Scope) (at : slice_get p.scopes k ≡ Some s) (fits : ScopeFits p s) where
  -- a method of an own type is one of the scope's bodies
  own_body : (l : ℕ) (m : Signature TypeRef) → In m (methods_of p k (Own l)) → (b : Body) × In b s.bodies × (signature b.signature ≡ m)
  own_body l m i = In-unmap (λ (b : Body). signature b.signature) m s.bodies (owner_among l s.bodies m (subst (λ o. In m (methods_of_owner l (scope_bodies o))) at i))

  -- of a method of a type that stands
  pub method_set : (t : TypeRef) → TypeStands p s t → (m : Signature TypeRef) → In m (methods_of p k t) → IsSet (length s.atoms) m.effect
  method_set Int h m i = absurd i
  method_set Bool h m i = absurd i
  method_set Text h m i = absurd i
  method_set Nothing h m i = absurd i
  method_set (Named d es) h m i = named_set (length s.atoms) (scope_is_plain (slice_get p.scopes k)) es (declared_methods (slice_get p.declarations d)) h.2 m i
  method_set (At d e) h m i = subst (IsSet (length s.atoms)) (at_effect e (declared_methods (slice_get p.declarations d)) m i) h.1
  method_set (Own l) h m i = (let r = own_body l m i in subst (λ (v : Signature TypeRef). IsSet (length s.atoms) v.effect) r.2 (fits.written r.0 r.1).1)

  -- in a plain module
  pub method_empty : is_plain s.kind ≡ true → (t : TypeRef) → TypeStands p s t → (m : Signature TypeRef) → In m (methods_of p k t) → m.effect ≡ []
  method_empty e Int h m i = absurd i
  method_empty e Bool h m i = absurd i
  method_empty e Text h m i = absurd i
  method_empty e Nothing h m i = absurd i
  method_empty e (Named d es) h m i =
      no_named es (declared_methods (slice_get p.declarations d)) m (subst (λ b. In m (named_methods b es (declared_methods (slice_get p.declarations d)))) (ap scope_is_plain at ∙ e) i)
  method_empty e (At d f) h m i = sym (at_effect f (declared_methods (slice_get p.declarations d)) m i) ∙ is_empty_in s.kind f e h.2
  method_empty e (Own l) h m i = (let r = own_body l m i in subst (λ (v : Signature TypeRef). v.effect ≡ []) r.2 (no_effect s.kind s.start_effect s.bodies e fits.no_effect r.0 r.1))
