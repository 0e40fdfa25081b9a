-- Erased types and their methods.
use Rattle.std.proofs.Common.{◌≡◌, ℕ, List, [], map, refl, sym, Bool as Truth, true, false}
use Rattle.std.specs.Prelude.{slice_get}
use Rattle.wy_effects.specs.EffSet.{replace}
use Rattle.wy_types.specs.declared.types.TypeRef.{TypeRef}
use Rattle.wy_types.specs.declared.types.TypeRef.TheVariants.{Int, Bool, Text, Unit as Nothing, Named, At, Own}
use Rattle.wy_types.specs.Program.{Program}
use Rattle.wy_types.specs.Signature.{Signature, mapped_signature}
use Rattle.wy_types.specs.Types.{IsObject, substituted, annotated, erased, declared_methods, named_methods, scope_is_plain, methods_of}
use Rattle.wy_rules.specs.PlainMethods.{erased_methods}
use Rattle.wy_rules.proofs.Agreeing.{map-after, mapped-after}

pub erased_erased : (t : TypeRef) → erased (erased t) ≡ erased t
erased_erased Int = refl
erased_erased Bool = refl
erased_erased Text = refl
erased_erased Nothing = refl
erased_erased (Named d es) = refl
erased_erased (At d e) = refl
erased_erased (Own l) = refl

erased_substituted : (by : List (List ℕ)) (t : TypeRef) → erased (substituted by t) ≡ erased t
erased_substituted by Int = refl
erased_substituted by Bool = refl
erased_substituted by Text = refl
erased_substituted by Nothing = refl
erased_substituted by (Named d es) = refl
erased_substituted by (At d e) = refl
erased_substituted by (Own l) = refl

erased_annotated : (e : List ℕ) (t : TypeRef) → erased (annotated e t) ≡ erased t
erased_annotated e Int = refl
erased_annotated e Bool = refl
erased_annotated e Text = refl
erased_annotated e Nothing = refl
erased_annotated e (Named d es) = refl
erased_annotated e (At d b) = refl
erased_annotated e (Own l) = refl

-- object types stay such
pub object_erased : (t : TypeRef) → IsObject t → IsObject (erased t)
object_erased Int o = o
object_erased Bool o = o
object_erased Text o = o
object_erased Nothing o = o
object_erased (Named d es) o = tt
object_erased (At d e) o = tt
object_erased (Own l) o = tt

pub erased_object : (t : TypeRef) → IsObject (erased t) → IsObject t
erased_object Int o = o
erased_object Bool o = o
erased_object Text o = o
erased_object Nothing o = o
erased_object (Named d es) o = tt
erased_object (At d e) o = tt
erased_object (Own l) o = tt

abbrev pub bare_signature : Signature TypeRef → Signature TypeRef
bare_signature = mapped_signature erased (λ e. [])

named_agree : (plain : Truth) (es : List (List ℕ)) (ms : List (Signature TypeRef)) → map bare_signature ms ≡ map bare_signature (named_methods plain es ms)
named_agree true es ms = sym (map-after bare_signature (mapped_signature erased (λ e. [])) bare_signature (mapped-after erased erased erased (λ e. []) (λ e. []) (λ e. []) erased_erased (λ e. refl)) ms)
named_agree false es ms =
    sym (map-after bare_signature (mapped_signature (substituted es) (replace es)) bare_signature (mapped-after erased (substituted es) erased (λ e. []) (replace es) (λ e. []) (erased_substituted es) (λ e. refl)) ms)

-- the methods of the erased type are the type's methods, erased
pub methods_agree : (p : Program) (k : ℕ) (t : TypeRef) → erased_methods p k (erased t) ≡ map bare_signature (methods_of p k t)
methods_agree p k Int = refl
methods_agree p k Bool = refl
methods_agree p k Text = refl
methods_agree p k Nothing = refl
methods_agree p k (Named d es) = named_agree (scope_is_plain (slice_get p.scopes k)) es (declared_methods (slice_get p.declarations d))
methods_agree p k (At d b) =
    sym (map-after bare_signature (mapped_signature (annotated b) (λ e. b)) bare_signature (mapped-after erased (annotated b) erased (λ e. []) (λ e. b) (λ e. []) (erased_annotated b) (λ e. refl)) (declared_methods (slice_get p.declarations d)))
methods_agree p k (Own l) = refl
