-- The methods of a core's types have few parameters.
use Rattle.std.proofs.Common.{◌≡◌, ℕ, ◌≤◌, List, [], ◌∷◌, map, inl, inr, length, refl, sym, subst, Option, Bool as Truth, true, false, arith}
use Rattle.std.specs.Prelude.{slice_get, nat_eq, if◌then◌else◌}
use Rattle.std.proofs.lemmas.List.{length-map}
use Rattle.wy_effects.specs.EffSet.{replace}
use Rattle.wy_effects.proofs.Ordering.{fit_down}
use Rattle.wy_text.specs.Members.{In}
use Rattle.wy_text.proofs.Lists.{In-map, In-unmap, In-slice_get}
use Rattle.wy_types.specs.declared.types.TypeRef.{TypeRef}
use Rattle.wy_types.specs.declared.types.TypeRef.TheVariants.{Int, Bool, Text, Unit as Nothing, Named, At, Own}
use Rattle.wy_types.specs.declared.types.Method.{Method}
use Rattle.wy_types.specs.declared.resolved.TypeDecl.{TypeDecl}
use Rattle.wy_types.specs.Program.{Program, Scope, Body}
use Rattle.wy_types.specs.Signature.{Signature, mapped_signature}
use Rattle.wy_types.specs.Types.{signature, substituted, annotated, erased, declared_methods, methods_of_owner, named_methods, scope_is_plain, scope_bodies, methods_of}
use Rattle.wy_types.specs.Core.{IsCore}
use Rattle.wy_types.proofs.Finite.{read}
use Rattle.wy_types.proofs.Kept.{core_signatures_fit}
use Rattle.wy_types.specs.InRange.{IsInRange}

abbrev FewParams : List (Signature TypeRef) → Type 0
FewParams ms = (m : Signature TypeRef) → In m ms → length m.params ≤ 16

few_mapped : (kind : TypeRef → TypeRef) (effect : List ℕ → List ℕ) (ms : List (Signature TypeRef)) → FewParams ms → FewParams (map (mapped_signature kind effect) ms)
few_mapped kind effect ms h m i =
    let r = In-unmap (mapped_signature kind effect) m ms i in
    let P : Signature TypeRef → Type 0 = λ v. length v.params ≤ 16 in
    let Q : ℕ → Type 0 = λ n. n ≤ 16 in
    subst P r.2 (subst Q (sym (length-map r.0.params kind)) (h r.0 r.1))

few_declared : (p : Program) → IsInRange p → (d : ℕ) → FewParams (declared_methods (slice_get p.declarations d))
few_declared p c d =
    let P : Option TypeDecl → Type 0 = λ o. FewParams (declared_methods o) in
    elim (read (slice_get p.declarations d)) [
      | inl e ↦ subst P (sym e) (λ m i. absurd i)
      | inr r ↦ subst P (sym r.1) (c.declared r.0 (In-slice_get p.declarations d r.0 r.1))
    ]

few_named : (p : Program) → IsInRange p → (plain : Truth) (members : List (List ℕ)) (d : ℕ) → FewParams (named_methods plain members (declared_methods (slice_get p.declarations d)))
few_named p c true members d = few_mapped erased (λ e. []) _ (few_declared p c d)
few_named p c false members d = few_mapped (substituted members) (replace members) _ (few_declared p c d)

-- an owner's method is the signature of a body
body_of_owner : (l : ℕ) (bs : List Body) (m : Signature TypeRef) → In m (methods_of_owner l bs) → (b : Body) × In b bs × (signature b.signature ≡ m)
body_of_owner l [] m i = absurd i
body_of_owner l (b ∷ bs) m i =
    elim (nat_eq b.owner l) as (λ t. In m (if t then (signature b.signature ∷ methods_of_owner l bs) else methods_of_owner l bs) → (x : Body) × In x (b ∷ bs) × (signature x.signature ≡ m)) [
      | true ↦ λ h. elim h [ inl e ↦ (b, inl refl, e) | inr g ↦ (let r = body_of_owner l bs m g in (r.0, inr r.1, r.2)) ]
      | false ↦ λ h. (let r = body_of_owner l bs m h in (r.0, inr r.1, r.2))
    ] i

few_own : (p : Program) → IsInRange p → (scope l : ℕ) → FewParams (methods_of_owner l (scope_bodies (slice_get p.scopes scope)))
few_own p c scope l =
    let P : Option Scope → Type 0 = λ o. FewParams (methods_of_owner l (scope_bodies o)) in
    let Q : Signature TypeRef → Type 0 = λ v. length v.params ≤ 16 in
    elim (read (slice_get p.scopes scope)) [
      | inl e ↦ subst P (sym e) (λ m i. absurd i)
      | inr s ↦ subst P (sym s.1) (λ m i.
          let b = body_of_owner l s.0.bodies m i in
          subst Q b.2 (c.written s.0 (In-slice_get p.scopes scope s.0 s.1) b.0 b.1))
    ]

few_methods_of : (p : Program) → IsInRange p → (scope : ℕ) (t : TypeRef) → FewParams (methods_of p scope t)
few_methods_of p c scope Int = λ m i. absurd i
few_methods_of p c scope Bool = λ m i. absurd i
few_methods_of p c scope Text = λ m i. absurd i
few_methods_of p c scope Nothing = λ m i. absurd i
few_methods_of p c scope (Named d members) = few_named p c (scope_is_plain (slice_get p.scopes scope)) members d
few_methods_of p c scope (At d bound) = few_mapped (annotated bound) (λ e. bound) _ (few_declared p c d)
few_methods_of p c scope (Own l) = few_own p c scope l

-- those that the code has listed
pub few_parameters : (p : Program) → IsInRange p → (scope : ℕ) (t : TypeRef) (ms : List Method) → map signature ms ≡ methods_of p scope t → (m : Method) → In m ms → length m.params ≤ 16
few_parameters p c scope t ms e m i =
    let P : List (Signature TypeRef) → Type 0 = λ l. In (signature m) l in
    few_methods_of p c scope t (signature m) (subst P e (In-map signature m ms i))

-- every core is in range
pub core_in_range : (p : Program) → IsCore p → IsInRange p
core_in_range p c = record {
  signatures = core_signatures_fit p c;
  declared = λ d i. (c.declarations d i).few_parameters;
  written = λ s i. (c.scopes s i).few_parameters;
  bounds = λ s i. (let f = c.scopes s i in (fit_down (length s.atoms) s.bounds f.bounds, (let e = f.bounds.0 in let n = f.atoms in omega (arith, e, n))));
}
