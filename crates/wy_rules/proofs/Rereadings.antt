-- The laws of erasure, substitution and retyping: each is one way of reading on.
use Rattle.std.proofs.Common.{◌≡◌, ℕ, List, [], map, refl, sym, Bool as Truth, true, false}
use Rattle.std.specs.Prelude.{slice_get}
use Rattle.wy_text.specs.Members.{Within}
use Rattle.wy_effects.specs.EffSet.{AreSets, union, replace}
use Rattle.wy_effects.specs.Bounds.{Bounds, Respects}
use Rattle.wy_effects.proofs.Replacing.{Within-replace}
use Rattle.wy_effects.proofs.SetLaws.{In-union-left, In-union-right, Within-union, Within-unions}
use Rattle.wy_effects.proofs.Ordering.{same_within, onward_within, unions_within, replaced_within}
use Rattle.wy_types.specs.declared.types.TypeRef.{TypeRef}
use Rattle.wy_types.specs.declared.types.TypeRef.TheVariants.{Int, Bool, Text, Unit as Nothing, Named, At, Own}
use Rattle.wy_types.specs.Program.{Program}
use Rattle.wy_types.specs.Signature.{Signature, mapped_signature}
use Rattle.wy_types.specs.Types.{IsObject, substituted, annotated, erased, declared_methods, named_methods, bounded_methods, scope_is_plain, methods_of}
use Rattle.wy_types.specs.Bounds.{bounds_of}
use Rattle.wy_types.proofs.Composing.{transitive}
use Rattle.wy_types.proofs.Deciding.{decide_type}
use Rattle.wy_rules.specs.Tables.{replaced_methods, retyped_methods}
use Rattle.wy_rules.specs.PlainMethods.{erased_methods}
use Rattle.wy_rules.specs.Readings.{annotated_reading, plain_reading, replaced_reading, erased_reading, retyped_reading}
use Rattle.wy_rules.specs.Rereading.{Erasure, Substitution, Retyping}
use Rattle.wy_rules.proofs.Agreeing.{map-after, mapped-after, object-substituted, substituted-object, replaced_tables_agree, transitive_over_tables}
use Rattle.wy_rules.proofs.Carrying.{ReadsOn, scope_carried}

------------------------------------------------------------
-- Substitution

union-replace : (by : List (List ℕ)) (e f : List ℕ) → Within (union (replace by e) (replace by f)) (replace by (union e f))
union-replace by e f =
    Within-union (replace by e) (replace by f) (replace by (union e f))
    (Within-replace by e (union e f) (λ a i. In-union-left a e f i))
    (Within-replace by f (union e f) (λ a i. In-union-right a e f i))

replaced_reads_on : (p : Program) (scope : ℕ) (by : List (List ℕ)) (bounds : Bounds) → AreSets 512 by → Respects (bounds_of p scope) bounds by → ReadsOn (annotated_reading p scope) (replaced_reading p scope by bounds)
replaced_reads_on p scope by bounds w r = record {
  kind = substituted by;
  effect = replace by;
  read = λ t. refl;
  methods = replaced_tables_agree p scope by w;
  object = object-substituted by;
  object_before = substituted-object by;
  includes = Within-replace by;
  allows = replaced_within (bounds_of p scope) bounds by r;
  nothing = λ e a i. absurd i;
  unions = union-replace by;
  declared = λ e a i. i;
  lawful = record {
    same = λ e a i. i;
    within = λ e f g v u a i. u a (v a i);
    unions = λ e f g h i j. Within-unions e f g h i j;
    allows = same_within bounds;
    onward = onward_within bounds;
    unite = unions_within bounds;
    below = λ a b c. (transitive_over_tables bounds (replaced_methods p scope by) a b c).0;
  };
}

pub substitution : Substitution
substitution p scope s by bounds w r h = scope_carried (annotated_reading p scope) (replaced_reading p scope by bounds) (replaced_reads_on p scope by bounds w r) s h

------------------------------------------------------------
-- Erasure

erased-substituted : (by : List (List ℕ)) (t : TypeRef) → erased (substituted by t) ≡ erased t
erased-substituted by Int = refl
erased-substituted by Bool = refl
erased-substituted by Text = refl
erased-substituted by Nothing = refl
erased-substituted by (Named d ms) = refl
erased-substituted by (At d b) = refl
erased-substituted by (Own l) = refl

erased-erased : (t : TypeRef) → erased (erased t) ≡ erased t
erased-erased Int = refl
erased-erased Bool = refl
erased-erased Text = refl
erased-erased Nothing = refl
erased-erased (Named d ms) = refl
erased-erased (At d b) = refl
erased-erased (Own l) = refl

erased-annotated : (e : List ℕ) (t : TypeRef) → erased (annotated e t) ≡ erased t
erased-annotated e Int = refl
erased-annotated e Bool = refl
erased-annotated e Text = refl
erased-annotated e Nothing = refl
erased-annotated e (Named d ms) = refl
erased-annotated e (At d b) = refl
erased-annotated e (Own l) = refl

object-erased : (t : TypeRef) → IsObject t → IsObject (erased t)
object-erased Int o = o
object-erased Bool o = o
object-erased Text o = o
object-erased Nothing o = o
object-erased (Named d ms) o = tt
object-erased (At d e) o = tt
object-erased (Own l) o = tt

erased-object : (t : TypeRef) → IsObject (erased t) → IsObject t
erased-object Int o = o
erased-object Bool o = o
erased-object Text o = o
erased-object Nothing o = o
erased-object (Named d ms) o = tt
erased-object (At d e) o = tt
erased-object (Own l) o = tt

abbrev bare_signature : Signature TypeRef → Signature TypeRef
bare_signature = mapped_signature erased (λ e. [])

erased_named : (plain : Truth) (members : List (List ℕ)) (ds : List (Signature TypeRef)) → map bare_signature ds ≡ map bare_signature (named_methods plain members ds)
erased_named true members ds = sym (map-after bare_signature (mapped_signature erased (λ e. [])) bare_signature (mapped-after erased erased erased (λ e. []) (λ e. []) (λ e. []) erased-erased (λ e. refl)) ds)
erased_named false members ds =
    sym (map-after bare_signature (mapped_signature (substituted members) (replace members)) bare_signature (mapped-after erased (substituted members) erased (λ e. []) (replace members) (λ e. []) (erased-substituted members) (λ e. refl)) ds)

erased_agree : (p : Program) (scope : ℕ) (t : TypeRef) → erased_methods p scope (erased t) ≡ map bare_signature (methods_of p scope t)
erased_agree p scope Int = refl
erased_agree p scope Bool = refl
erased_agree p scope Text = refl
erased_agree p scope Nothing = refl
erased_agree p scope (Named d members) = erased_named (scope_is_plain (slice_get p.scopes scope)) members (declared_methods (slice_get p.declarations d))
erased_agree p scope (At d b) =
    sym (map-after bare_signature (mapped_signature (annotated b) (λ e. b)) bare_signature (mapped-after erased (annotated b) erased (λ e. []) (λ e. b) (λ e. []) (erased-annotated b) (λ e. refl)) (declared_methods (slice_get p.declarations d)))
erased_agree p scope (Own l) = refl

erased_reads_on : (p : Program) (scope : ℕ) → ReadsOn (annotated_reading p scope) (erased_reading p scope)
erased_reads_on p scope = record {
  kind = erased;
  effect = λ e. [];
  read = λ t. refl;
  methods = erased_agree p scope;
  object = object-erased;
  object_before = erased-object;
  includes = λ e f h. tt;
  allows = λ e f h. tt;
  nothing = λ e. tt;
  unions = λ e f. tt;
  declared = λ e. tt;
  lawful = record { same = λ e. tt; within = λ e f g v u. tt; unions = λ e f g h i j. tt; allows = λ e f h. tt; onward = λ e f g v u. tt; unite = λ e f g h i j. tt; below = λ a b c. (transitive_over_tables [] (erased_methods p scope) a b c).1 };
}

pub erasure : Erasure
erasure p scope s h = scope_carried (annotated_reading p scope) (erased_reading p scope) (erased_reads_on p scope) s h

------------------------------------------------------------
-- Retyping

pub annotated-substituted : (e : List ℕ) (by : List (List ℕ)) (t : TypeRef) → annotated e (substituted by t) ≡ annotated e t
annotated-substituted e by Int = refl
annotated-substituted e by Bool = refl
annotated-substituted e by Text = refl
annotated-substituted e by Nothing = refl
annotated-substituted e by (Named d ms) = refl
annotated-substituted e by (At d b) = refl
annotated-substituted e by (Own l) = refl

pub annotated-annotated : (e b : List ℕ) (t : TypeRef) → annotated e (annotated b t) ≡ annotated e t
annotated-annotated e b Int = refl
annotated-annotated e b Bool = refl
annotated-annotated e b Text = refl
annotated-annotated e b Nothing = refl
annotated-annotated e b (Named d ms) = refl
annotated-annotated e b (At d c) = refl
annotated-annotated e b (Own l) = refl

pub annotated-bare : (e : List ℕ) (t : TypeRef) → annotated e (erased t) ≡ annotated e t
annotated-bare e Int = refl
annotated-bare e Bool = refl
annotated-bare e Text = refl
annotated-bare e Nothing = refl
annotated-bare e (Named d ms) = refl
annotated-bare e (At d c) = refl
annotated-bare e (Own l) = refl

object-annotated : (e : List ℕ) (t : TypeRef) → IsObject t → IsObject (annotated e t)
object-annotated e Int o = o
object-annotated e Bool o = o
object-annotated e Text o = o
object-annotated e Nothing o = o
object-annotated e (Named d ms) o = tt
object-annotated e (At d b) o = tt
object-annotated e (Own l) o = tt

annotated-object : (e : List ℕ) (t : TypeRef) → IsObject (annotated e t) → IsObject t
annotated-object e Int o = o
annotated-object e Bool o = o
annotated-object e Text o = o
annotated-object e Nothing o = o
annotated-object e (Named d ms) o = tt
annotated-object e (At d b) o = tt
annotated-object e (Own l) o = tt

abbrev set_signature : List ℕ → Signature TypeRef → Signature TypeRef
set_signature e = mapped_signature (annotated e) (λ f. e)

retyped_named : (e : List ℕ) (plain : Truth) (members : List (List ℕ)) (ds : List (Signature TypeRef)) → bounded_methods e ds ≡ map (set_signature e) (named_methods plain members ds)
retyped_named e true members ds =
    sym (map-after (set_signature e) (mapped_signature erased (λ f. [])) (set_signature e) (mapped-after (annotated e) erased (annotated e) (λ f. e) (λ f. []) (λ f. e) (annotated-bare e) (λ f. refl)) ds)
retyped_named e false members ds =
    sym (map-after (set_signature e) (mapped_signature (substituted members) (replace members)) (set_signature e) (mapped-after (annotated e) (substituted members) (annotated e) (λ f. e) (replace members) (λ f. e) (annotated-substituted e members) (λ f. refl)) ds)

retyped_agree : (p : Program) (scope : ℕ) (e : List ℕ) (t : TypeRef) → retyped_methods p scope e (annotated e t) ≡ map (set_signature e) (methods_of p scope t)
retyped_agree p scope e Int = refl
retyped_agree p scope e Bool = refl
retyped_agree p scope e Text = refl
retyped_agree p scope e Nothing = refl
retyped_agree p scope e (Named d members) = retyped_named e (scope_is_plain (slice_get p.scopes scope)) members (declared_methods (slice_get p.declarations d))
retyped_agree p scope e (At d b) =
    sym (map-after (set_signature e) (mapped_signature (annotated b) (λ f. b)) (set_signature e) (mapped-after (annotated e) (annotated b) (annotated e) (λ f. e) (λ f. b) (λ f. e) (annotated-annotated e b) (λ f. refl)) (declared_methods (slice_get p.declarations d)))
retyped_agree p scope e (Own l) = refl

retyped_reads_on : (p : Program) (scope : ℕ) (e : List ℕ) → ReadsOn (plain_reading p scope) (retyped_reading p scope e)
retyped_reads_on p scope e = record {
  kind = annotated e;
  effect = λ f. e;
  read = λ t. refl;
  methods = retyped_agree p scope e;
  object = object-annotated e;
  object_before = annotated-object e;
  includes = λ f g h a i. i;
  allows = λ f g h a i. i;
  nothing = λ f a i. absurd i;
  unions = λ f g. Within-union e e e (λ a i. i) (λ a i. i);
  declared = λ f a i. i;
  lawful = record {
    same = λ f a i. i;
    within = λ f g h v u a i. u a (v a i);
    unions = λ f g h k i j. Within-unions f g h k i j;
    allows = λ f g h. h;
    onward = λ f g h v u a i. u a (v a i);
    unite = λ f g h k i j. Within-unions f g h k i j;
    below = transitive TypeRef decide_type (retyped_methods p scope e) IsObject Within (λ f g h v w x i. w x (v x i));
  };
}

pub retyping : Retyping
retyping p scope s e h = scope_carried (plain_reading p scope) (retyped_reading p scope e) (retyped_reads_on p scope e) s h
