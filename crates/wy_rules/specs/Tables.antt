-- Laws of subtyping over tables of methods: the methods of each type, whatever they are.
use Rattle.std.specs.Prelude.{◌≡◌, ℕ, List, [], map, slice_get, false}
use Rattle.wy_text.specs.Members.{In, Within, Apart}
use Rattle.wy_effects.specs.EffSet.{AreSets, replace}
use Rattle.wy_effects.specs.Bounds.{Bounds, IsWithin, Respects}
use Rattle.wy_types.specs.declared.types.TypeRef.{TypeRef}
use Rattle.wy_types.specs.declared.types.TypeRef.TheVariants.{Int, Bool, Text, Unit as Nothing, Named, At, Own}
use Rattle.wy_types.specs.Program.{Program}
use Rattle.wy_types.specs.Signature.{Signature, mapped_signature}
use Rattle.wy_types.specs.Types.{IsObject, substituted, annotated, declared_methods, named_methods, bounded_methods, methods_of_owner, scope_bodies, methods_of}
use Rattle.wy_types.specs.Subtyping.{IsSubtype}
use Rattle.wy_rules.specs.PlainMethods.{IsPlainSubtypeOver, Methods}

-- subtyping over bounds and a table, with effects and without
abbrev pub IsSubtypeOver : Bounds → Methods → TypeRef → TypeRef → Type 0
IsSubtypeOver bounds methods s t = IsSubtype TypeRef methods IsObject (IsWithin bounds) s t

-- the methods of the list's types have names that differ, and name types of the list
pub record IsClosedUnder (methods : Methods) (ts : List TypeRef) : Type 0 where
  pub names : (t : TypeRef) → In t ts → Apart (map (λ (m : Signature TypeRef). m.name) (methods t))
  pub params : (t : TypeRef) → In t ts → (m : Signature TypeRef) → In m (methods t) → Within m.params ts
  pub results : (t : TypeRef) → In t ts → (m : Signature TypeRef) → In m (methods t) → In m.result ts

-- each type of a list that is closed so is a subtype of itself
abbrev pub ReflexiveOverTables : Type 0
ReflexiveOverTables =
    (bounds : Bounds) (methods : Methods) (ts : List TypeRef) → IsClosedUnder methods ts → (t : TypeRef) → In t ts → IsSubtypeOver bounds methods t t × IsPlainSubtypeOver methods t t

-- a subtype of a subtype is a subtype
abbrev pub TransitiveOverTables : Type 0
TransitiveOverTables =
    (bounds : Bounds) (methods : Methods) (a b c : TypeRef) →
    (IsSubtypeOver bounds methods a b → IsSubtypeOver bounds methods b c → IsSubtypeOver bounds methods a c) ×
    (IsPlainSubtypeOver methods a b → IsPlainSubtypeOver methods b c → IsPlainSubtypeOver methods a c)

-- the methods of a type after the replacement are its methods with the sets put in
abbrev pub Agree : List (List ℕ) → Methods → Methods → Type 0
Agree by methods methods' = (t : TypeRef) → methods' (substituted by t) ≡ map (mapped_signature (substituted by) (replace by)) (methods t)

-- subtyping over one table is kept over another that agrees with it under the replacement, where the sets respect the bounds
abbrev pub KeptUnderReplacement : Type 0
KeptUnderReplacement =
    (bounds bounds' : Bounds) (by : List (List ℕ)) → Respects bounds bounds' by → (methods methods' : Methods) → Agree by methods methods' → (s t : TypeRef) →
    (IsSubtypeOver bounds methods s t → IsSubtypeOver bounds' methods' (substituted by s) (substituted by t)) ×
    (IsPlainSubtypeOver methods s t → IsPlainSubtypeOver methods' (substituted by s) (substituted by t))

-- the methods of a scope's types after a replacement: those of an own type have the sets put in
abbrev pub replaced_methods : Program → ℕ → List (List ℕ) → Methods
replaced_methods p scope by Int = methods_of p scope Int
replaced_methods p scope by Bool = methods_of p scope Bool
replaced_methods p scope by Text = methods_of p scope Text
replaced_methods p scope by Nothing = methods_of p scope Nothing
replaced_methods p scope by (Named d members) = methods_of p scope (Named d members)
replaced_methods p scope by (At d bound) = methods_of p scope (At d bound)
replaced_methods p scope by (Own l) = map (mapped_signature (substituted by) (replace by)) (methods_of_owner l (scope_bodies (slice_get p.scopes scope)))

-- they agree with the scope's own
abbrev pub ReplacedTablesAgree : Type 0
ReplacedTablesAgree = (p : Program) (scope : ℕ) (by : List (List ℕ)) → AreSets 512 by → Agree by (methods_of p scope) (replaced_methods p scope by)

-- the methods of a plain module's types at a set: every declared type at it, every effect the set
abbrev pub retyped_methods : Program → ℕ → List ℕ → Methods
retyped_methods p scope e Int = []
retyped_methods p scope e Bool = []
retyped_methods p scope e Text = []
retyped_methods p scope e Nothing = []
retyped_methods p scope e (Named d members) = named_methods false members (declared_methods (slice_get p.declarations d))
retyped_methods p scope e (At d bound) = bounded_methods bound (declared_methods (slice_get p.declarations d))
retyped_methods p scope e (Own l) = map (mapped_signature (annotated e) (λ f. e)) (methods_of_owner l (scope_bodies (slice_get p.scopes scope)))
