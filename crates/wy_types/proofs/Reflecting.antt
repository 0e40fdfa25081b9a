-- Each type in range is a subtype of itself.
use Rattle.std.proofs.Common.{ℕ, List, map, inl, inr, sym, subst, Option, Bool as Truth, true, false}
use Rattle.std.specs.Prelude.{slice_get}
use Rattle.wy_text.specs.Members.{In, Apart}
use Rattle.wy_effects.specs.Bounds.{IsWithin, by_member}
use Rattle.wy_text.proofs.Lists.{In-slice_get}
use Rattle.wy_effects.proofs.Ordering.{onward_within}
use Rattle.wy_types.specs.declared.types.TypeRef.{TypeRef}
use Rattle.wy_types.specs.declared.types.TypeRef.TheVariants.{Int, Bool, Text, Unit as Nothing, Named, At, Own}
use Rattle.wy_types.specs.declared.resolved.TypeDecl.{TypeDecl}
use Rattle.wy_types.specs.Program.{Program, Scope}
use Rattle.wy_types.specs.Bounds.{bounds_of}
use Rattle.wy_types.specs.Signature.{mapped_signature, signature_types}
use Rattle.wy_types.specs.Types.{IsObject, declared_methods, methods_of_owner, named_methods, scope_is_plain, scope_bodies, methods_of}
use Rattle.wy_types.specs.Subtyping.{IsSubtype, AnyEffect}
use Rattle.wy_types.specs.Fitting.{IsTypeOf}
use Rattle.wy_types.specs.Core.{IsCore}
use Rattle.wy_types.specs.Order.{IsReflexive, IsTransitive}
use Rattle.wy_types.specs.Few.{type_bound}
use Rattle.wy_types.proofs.Finite.{read, Fits-methods, length-le-type_bound}
use Rattle.wy_types.proofs.Deciding.{decide_type, object_cases}
use Rattle.wy_types.proofs.Kept.{core_signatures_fit, Fits-part}
pub use Rattle.wy_types.proofs.Itself.{find_once}
use Rattle.wy_types.proofs.Itself.{names_of, names_of-mapped, subtype_itself}
use Rattle.wy_types.proofs.Reaching.{part_of_signature}
use Rattle.wy_types.proofs.Composing.{transitive}

module _ (p : Program) (c : IsCore p) (scope : ℕ) where
  declared_differ : (k : ℕ) → Apart (names_of (declared_methods (slice_get p.declarations k)))
  declared_differ k =
      let P : Option TypeDecl → Type 0 = λ o. Apart (names_of (declared_methods o)) in
      elim (read (slice_get p.declarations k)) [
        | inl e ↦ subst P (sym e) tt
        | inr r ↦ subst P (sym r.1) (c.declarations r.0 (In-slice_get p.declarations k r.0 r.1)).method_names
      ]

  mapped_differ : (k : ℕ) (kind : TypeRef → TypeRef) (effect : List ℕ → List ℕ) → Apart (names_of (map (mapped_signature kind effect) (declared_methods (slice_get p.declarations k))))
  mapped_differ k kind effect =
      let P : List (List ℕ) → Type 0 = λ l. Apart l in
      subst P (sym (names_of-mapped kind effect (declared_methods (slice_get p.declarations k)))) (declared_differ k)

  named_differ : (k : ℕ) (plain : Truth) (by : List (List ℕ)) → Apart (names_of (named_methods plain by (declared_methods (slice_get p.declarations k))))
  named_differ k true by = mapped_differ k _ _
  named_differ k false by = mapped_differ k _ _

  own_differ : (l : ℕ) → Apart (names_of (methods_of_owner l (scope_bodies (slice_get p.scopes scope))))
  own_differ l =
      let P : Option Scope → Type 0 = λ o. Apart (names_of (methods_of_owner l (scope_bodies o))) in
      elim (read (slice_get p.scopes scope)) [
        | inl e ↦ subst P (sym e) tt
        | inr r ↦ subst P (sym r.1) ((c.scopes r.0 (In-slice_get p.scopes scope r.0 r.1)).method_names l)
      ]

  -- the methods of a type have names that differ
  pub methods_differ : (t : TypeRef) → Apart (names_of (methods_of p scope t))
  methods_differ Int = tt
  methods_differ Bool = tt
  methods_differ Text = tt
  methods_differ Nothing = tt
  methods_differ (Named d members) = named_differ d (scope_is_plain (slice_get p.scopes scope)) members
  methods_differ (At d bound) = mapped_differ d _ _
  methods_differ (Own l) = own_differ l

  Fits-next : (t u : TypeRef) → IsTypeOf p scope t → In u (signature_types (methods_of p scope t)) → IsTypeOf p scope u
  Fits-next t u f i =
      let r = part_of_signature TypeRef (methods_of p scope) (methods_of p scope t) u i in
      Fits-part p scope r.0 r.2.0 u (Fits-methods p (core_signatures_fit p c) scope t f r.0 r.1) r.2.1

  reflexive : (Includes : List ℕ → List ℕ → Type 0) → ((e : List ℕ) → Includes e e) → (t : TypeRef) → IsTypeOf p scope t → IsSubtype TypeRef (methods_of p scope) IsObject Includes t t
  reflexive =
      subtype_itself TypeRef decide_type (methods_of p scope) IsObject object_cases (IsTypeOf p scope) Fits-next (type_bound p scope)
      (length-le-type_bound p scope) methods_differ

pub reflexivity : IsReflexive
reflexivity p c scope t f = (reflexive p c scope (IsWithin (bounds_of p scope)) (λ e a i. by_member a i) t f, reflexive p c scope AnyEffect (λ e. tt) t f)

pub transitivity : IsTransitive
transitivity p scope a b d = (
  transitive TypeRef decide_type (methods_of p scope) IsObject (IsWithin (bounds_of p scope)) (onward_within (bounds_of p scope)) a b d,
  transitive TypeRef decide_type (methods_of p scope) IsObject AnyEffect (λ e f g v w. tt) a b d,
)
