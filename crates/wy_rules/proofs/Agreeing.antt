-- Subtyping over tables of methods, and the tables of a scope before and after a replacement.
use Rattle.std.proofs.Common.{◌≡◌, ℕ, List, [], ◌∷◌, map, inl, inr, refl, sym, ap, ◌∙◌, subst, Option, Bool as Truth, true, false}
use Rattle.std.specs.Prelude.{slice_get}
use Rattle.wy_text.specs.Members.{In}
use Rattle.wy_effects.specs.EffSet.{AreSets, replace}
use Rattle.wy_effects.specs.Bounds.{IsWithin, IsUnder, by_member}
use Rattle.wy_text.proofs.Lists.{In-map, In-unmap}
use Rattle.wy_effects.proofs.Replacing.{replace-replace}
use Rattle.wy_effects.proofs.Ordering.{onward_within, replaced_within}
use Rattle.wy_types.specs.declared.types.TypeRef.{TypeRef}
use Rattle.wy_types.specs.declared.types.TypeRef.TheVariants.{Int, Bool, Text, Unit as Nothing, Named, At, Own}
use Rattle.wy_types.specs.Signature.{Signature, mapped_signature}
use Rattle.wy_types.specs.Types.{IsObject, substituted, annotated, erased, declared_methods, named_methods, scope_is_plain}
use Rattle.wy_types.specs.Bounds.{bounds_of}
use Rattle.wy_types.specs.Subtyping.{ParamsIn, HasCover, IsClosed, IsSubtype, AnyEffect, IsAnnotatedSubtype}
use Rattle.wy_types.proofs.Annotating.{annotation, dual_annotation, annotated-erased}
use Rattle.wy_types.proofs.Closing.{subtype_read}
use Rattle.wy_types.proofs.Composing.{transitive}
use Rattle.wy_types.proofs.Deciding.{decide_type, object_cases}
use Rattle.wy_types.proofs.Reflecting.{find_once}
use Rattle.wy_rules.specs.Polarity.{Annotation, DualAnnotation}
use Rattle.wy_rules.specs.Tables.{IsClosedUnder, ReflexiveOverTables, TransitiveOverTables, KeptUnderReplacement, ReplacedTablesAgree}
use Rattle.wy_rules.specs.PlainMethods.{Methods}

params_same : (ps : List (TypeRef × TypeRef)) (ts : List TypeRef) → ((t : TypeRef) → In t ts → In {X = TypeRef × TypeRef} (t, t) ps) → ParamsIn ps ts ts
params_same ps [] h = tt
params_same ps (t ∷ ts) h = (h t (inl refl), params_same ps ts (λ u i. h u (inr i)))

reflexive_over : (Includes : List ℕ → List ℕ → Type 0) (same : (e : List ℕ) → Includes e e) (methods : Methods) (ts : List TypeRef) → IsClosedUnder methods ts → (t : TypeRef) → In t ts → IsSubtype TypeRef methods IsObject Includes t t
reflexive_over Includes same methods ts c t i =
    let twice : TypeRef → TypeRef × TypeRef = λ u. (u, u) in
    let ps : List (TypeRef × TypeRef) = map twice ts in
    let there : (u : TypeRef) → In u ts → In {X = TypeRef × TypeRef} (u, u) ps = λ u j. In-map twice u ts j in
    let close : (u : TypeRef) → In u ts → IsClosed TypeRef methods IsObject Includes ps (twice u) = λ u j.
    elim (object_cases u) [
      | inr base ↦ inl (refl, base)
      | inl object ↦ inr (
        object,
        object,
        λ n k.
            let P : Option (Signature TypeRef) → Type 0 = λ o. HasCover TypeRef methods IsObject Includes ps o n in
            subst P (sym (find_once (methods u) n (c.names u j) k)) (record {
              params = params_same ps n.params (λ v l. there v (c.params u j n k v l));
              effect = same n.effect;
              result = there n.result (c.results u j n k);
            }),
      )
    ] in
    record {
      pairs = ps;
      first = there t i;
      closed = λ q j.
          let s = In-unmap twice q ts j in
          let P : TypeRef × TypeRef → Type 0 = λ v. IsClosed TypeRef methods IsObject Includes ps v in
          subst P s.2 (close s.0 s.1);
    }

pub reflexive_over_tables : ReflexiveOverTables
reflexive_over_tables bounds methods ts c t i = (reflexive_over (IsWithin bounds) (λ e a j. by_member a j) methods ts c t i, reflexive_over AnyEffect (λ e. tt) methods ts c t i)

pub transitive_over_tables : TransitiveOverTables
transitive_over_tables bounds methods a b c = (
  transitive TypeRef decide_type methods IsObject (IsWithin bounds) (onward_within bounds) a b c,
  transitive TypeRef decide_type methods IsObject AnyEffect (λ e f g v w. tt) a b c,
)

pub object-substituted : (by : List (List ℕ)) (t : TypeRef) → IsObject t → IsObject (substituted by t)
object-substituted by Int o = o
object-substituted by Bool o = o
object-substituted by Text o = o
object-substituted by Nothing o = o
object-substituted by (Named d ms) o = tt
object-substituted by (At d e) o = tt
object-substituted by (Own l) o = tt

pub substituted-object : (by : List (List ℕ)) (t : TypeRef) → IsObject (substituted by t) → IsObject t
substituted-object by Int o = o
substituted-object by Bool o = o
substituted-object by Text o = o
substituted-object by Nothing o = o
substituted-object by (Named d ms) o = tt
substituted-object by (At d e) o = tt
substituted-object by (Own l) o = tt

pub kept_under_replacement : KeptUnderReplacement
kept_under_replacement bounds bounds' by r methods methods' agree s t = (
  subtype_read TypeRef TypeRef methods methods' IsObject IsObject (IsWithin bounds) (IsWithin bounds') (substituted by) (replace by) agree (object-substituted by) (substituted-object by) (replaced_within bounds bounds' by r) s t,
  subtype_read TypeRef TypeRef methods methods' IsObject IsObject AnyEffect AnyEffect (substituted by) (replace by) agree (object-substituted by) (substituted-object by) (λ e f h. tt) s t,
)

------------------------------------------------------------
-- The tables of a scope

pub map-after : {X Y Z : Type 0} (f : Y → Z) (g : X → Y) (h : X → Z) → ((x : X) → f (g x) ≡ h x) → (xs : List X) → map f (map g xs) ≡ map h xs
map-after f g h e [] = refl
map-after f g h e (x ∷ xs) = ap (λ y. y ∷ map f (map g xs)) (e x) ∙ ap (λ l. h x ∷ l) (map-after f g h e xs)

-- a signature that is read in one way and then in another
pub mapped-after : (f g h : TypeRef → TypeRef) (e d c : List ℕ → List ℕ) → ((t : TypeRef) → f (g t) ≡ h t) → ((s : List ℕ) → e (d s) ≡ c s) → (m : Signature TypeRef) →
    mapped_signature f e (mapped_signature g d m) ≡ mapped_signature h c m
mapped-after f g h e d c types effects m =
    ap (λ ps. let v : Signature TypeRef = record { name = m.name; params = ps; effect = e (d m.effect); result = f (g m.result) } in v) (map-after f g h types m.params) ∙
    ap (λ s. let v : Signature TypeRef = record { name = m.name; params = map h m.params; effect = s; result = f (g m.result) } in v) (effects m.effect) ∙
    ap (λ r. let v : Signature TypeRef = record { name = m.name; params = map h m.params; effect = c m.effect; result = r } in v) (types m.result)

substituted-substituted : (by sets : List (List ℕ)) → AreSets 512 by → (t : TypeRef) → substituted by (substituted sets t) ≡ substituted (map (replace by) sets) t
substituted-substituted by sets s Int = refl
substituted-substituted by sets s Bool = refl
substituted-substituted by sets s Text = refl
substituted-substituted by sets s Nothing = refl
substituted-substituted by sets s (Named d ms) = ap (λ l. Named d l) (map-after (replace by) (replace sets) (replace (map (replace by) sets)) (λ x. replace-replace 512 by sets x s) ms)
substituted-substituted by sets s (At d b) = ap (λ l. At d l) (replace-replace 512 by sets b s)
substituted-substituted by sets s (Own l) = refl

substituted-annotated : (by : List (List ℕ)) (e : List ℕ) (t : TypeRef) → substituted by (annotated e t) ≡ annotated (replace by e) t
substituted-annotated by e Int = refl
substituted-annotated by e Bool = refl
substituted-annotated by e Text = refl
substituted-annotated by e Nothing = refl
substituted-annotated by e (Named d ms) = refl
substituted-annotated by e (At d b) = refl
substituted-annotated by e (Own l) = refl

substituted-erased : (by : List (List ℕ)) (t : TypeRef) → substituted by (erased t) ≡ erased t
substituted-erased by Int = refl
substituted-erased by Bool = refl
substituted-erased by Text = refl
substituted-erased by Nothing = refl
substituted-erased by (Named d ms) = refl
substituted-erased by (At d b) = refl
substituted-erased by (Own l) = refl

named_agree : (by : List (List ℕ)) → AreSets 512 by → (plain : Truth) (members : List (List ℕ)) (ds : List (Signature TypeRef)) →
    named_methods plain (map (replace by) members) ds ≡ map (mapped_signature (substituted by) (replace by)) (named_methods plain members ds)
named_agree by s true members ds =
    sym (map-after (mapped_signature (substituted by) (replace by)) (mapped_signature erased (λ e. [])) (mapped_signature erased (λ e. []))
    (mapped-after (substituted by) erased erased (replace by) (λ e. []) (λ e. []) (substituted-erased by) (λ e. refl)) ds)
named_agree by s false members ds =
    sym (map-after (mapped_signature (substituted by) (replace by)) (mapped_signature (substituted members) (replace members)) (mapped_signature (substituted (map (replace by) members)) (replace (map (replace by) members)))
    (mapped-after (substituted by) (substituted members) (substituted (map (replace by) members)) (replace by) (replace members) (replace (map (replace by) members)) (substituted-substituted by members s) (λ e. replace-replace 512 by members e s)) ds)

pub replaced_tables_agree : ReplacedTablesAgree
replaced_tables_agree p scope by s Int = refl
replaced_tables_agree p scope by s Bool = refl
replaced_tables_agree p scope by s Text = refl
replaced_tables_agree p scope by s Nothing = refl
replaced_tables_agree p scope by s (Named d members) = named_agree by s (scope_is_plain (slice_get p.scopes scope)) members (declared_methods (slice_get p.declarations d))
replaced_tables_agree p scope by s (At d b) =
    sym (map-after (mapped_signature (substituted by) (replace by)) (mapped_signature (annotated b) (λ e. b)) (mapped_signature (annotated (replace by b)) (λ e. replace by b))
    (mapped-after (substituted by) (annotated b) (annotated (replace by b)) (replace by) (λ e. b) (λ e. replace by b) (substituted-annotated by b) (λ e. refl)) (declared_methods (slice_get p.declarations d)))
replaced_tables_agree p scope by s (Own l) = refl

------------------------------------------------------------
-- Annotation of the erasure

pub annotation_of_erasure : Annotation
annotation_of_erasure p w scope e t f =
    let P : TypeRef → Type 0 = λ v. IsAnnotatedSubtype p scope t v in
    let r = annotation (IsUnder (bounds_of p scope)) p w scope e t f in
    (λ h. subst P (sym (annotated-erased e t)) (r.0 h), λ h. r.1 (subst P (annotated-erased e t) h))

pub dual_of_erasure : DualAnnotation
dual_of_erasure p w scope e t f =
    let P : TypeRef → Type 0 = λ v. IsAnnotatedSubtype p scope v t in
    let r = dual_annotation (IsUnder (bounds_of p scope)) p w scope e t f in
    (λ h. subst P (sym (annotated-erased e t)) (r.0 h), λ h. r.1 (subst P (annotated-erased e t) h))
