-- Each type that a scope of a core reaches can stand: it is a base type, an own one, written in the scope, or named by a method of such a type.
use Rattle.std.proofs.Common.{◌≡◌, ℕ, zero, suc, ◌+◌, ◌<◌, ◌≤◌, List, [], ◌∷◌, map, length, inl, inr, refl, ◌∙◌, ap, subst, Option, Some, None, Bool as Truth, true, false, arith}
use Rattle.std.specs.Prelude.{slice_get, ◌-◌}
use Rattle.std.specs.List.{range_with_len}
use Rattle.std.proofs.Math.ListN.{length-map}
use Rattle.wy_text.specs.Members.{In}
use Rattle.wy_effects.specs.EffSet.{IsSet, AreSets, replace}
use Rattle.wy_text.proofs.Lists.{In-left, In-right, In-unmap, In-at, In-slice_get}
use Rattle.wy_effects.proofs.Replacing.{IsSet-replace, AreSets-map}
use Rattle.wy_types.specs.declared.types.TypeRef.{TypeRef}
use Rattle.wy_types.specs.declared.types.TypeRef.TheVariants.{Int, Bool, Text, Unit as Nothing, Named, At, Own}
use Rattle.wy_types.specs.declared.resolved.TypeDecl.{TypeDecl}
use Rattle.wy_types.specs.declared.resolved.Field.{Field}
use Rattle.wy_types.specs.declared.resolved.Literal.{Literal}
use Rattle.wy_types.specs.declared.resolved.ScopeKind.{ScopeKind}
use Rattle.wy_types.specs.declared.resolved.ScopeKind.TheVariants.{Pure, Resource, Plain, Program as Main}
use Rattle.wy_types.specs.Program.{Program, Scope, Body}
use Rattle.wy_types.specs.Signature.{Signature, mapped_signature}
use Rattle.wy_types.specs.Types.{IsObject, is_plain, scope_is_plain, substituted, annotated, erased, signature, declared_methods, named_methods, methods_of_owner, scope_bodies, methods_of}
use Rattle.wy_types.specs.Fitting.{FitsType}
use Rattle.wy_types.specs.MemberCount.{member_count}
use Rattle.wy_types.specs.Core.{IsCore, ScopeFits, IsWritten, HasSets}
use Rattle.wy_types.specs.Vals.{literal_fields}
use Rattle.wy_types.specs.Reached.{own_types}
use Rattle.wy_types.proofs.Finite.{owner_among}
use Rattle.wy_rules.specs.Readings.{Reading}
use Rattle.wy_rules.specs.Reached.{IsReached, of_number, of_truth, of_text, of_nothing, of_own, of_field, of_parameter, of_answer, of_name, of_start, of_body, of_argument, of_result, EachReached}
use Rattle.wy_rules.proofs.OwnTypes.{own_is}
use Rattle.wy_proving.specs.Proving.{TypeStands, sets_of, IsEmptyIn, IsOwn, ReachedTypesStand}
use Rattle.wy_proving.proofs.WrittenTypes.{block_written, start_written}

from_first : (n a l : ℕ) → In l (range_with_len a n) → a ≤ l
from_first zero a l i = absurd i
from_first (suc n) a l i = elim i [ inl e ↦ omega (arith, e) | inr j ↦ (let h = from_first n (a + 1) l j in omega (arith, h)) ]

-- the own types of a scope, without the program's own object
own_stands : (kind : ScopeKind) (n : ℕ) (t : TypeRef) → In t (own_types kind n) → (l : ℕ) × (l < n) × IsOwn kind l × (Own l ≡ t)
own_stands Pure n t i = (let r = own_is Pure n t i in (r.0, r.1, tt, r.2))
own_stands Resource n t i = (let r = own_is Resource n t i in (r.0, r.1, tt, r.2))
own_stands Plain n t i = (let r = own_is Plain n t i in (r.0, r.1, tt, r.2))
own_stands Main n t i =
    let r = own_is Main n t i in
    let u = In-unmap (λ l. Own l) t (range_with_len 1 (n - 1)) i in
    let same : u.0 ≡ r.0 = (let e = u.2 in let f = r.2 in cc) in
    let positive : 0 < u.0 = (let h = from_first (n - 1) 1 u.0 u.1 in omega (arith, h)) in
    (r.0, r.1, subst (λ l. 0 < l) same positive, r.2)

module _ (p : Program) (core : IsCore p) (k : ℕ) (s : Scope) (at : slice_get p.scopes k ≡ Some s) (fits : ScopeFits p s) where
  ------------------------------------------------------------
  -- Types that are written in the scope

  written_sets : (kind : ScopeKind) (d : ℕ) (es : List (List ℕ)) → HasSets p (is_plain kind) (Named d es) → length es ≡ sets_of p kind d
  written_sets Pure d es h = h
  written_sets Resource d es h = h
  written_sets Plain d es h = ap (λ (v : List (List ℕ)). length v) h
  written_sets Main d es h = h

  written_bound : (kind : ScopeKind) (d : ℕ) (e : List ℕ) → HasSets p (is_plain kind) (At d e) → IsEmptyIn kind e
  written_bound Pure d e h = tt
  written_bound Resource d e h = tt
  written_bound Plain d e h = absurd h
  written_bound Main d e h = tt

  -- what is written in the scope can stand
  pub written_stands : (t : TypeRef) → IsWritten p s t → TypeStands p s t
  written_stands Int h = tt
  written_stands Bool h = tt
  written_stands Text h = tt
  written_stands Nothing h = tt
  written_stands (Named d es) h = (h.0.0, written_sets s.kind d es h.1, h.0.2)
  written_stands (At d e) h = (h.0.0, h.0.1, written_bound s.kind d e h.1)
  written_stands (Own l) h = absurd h.1

  ------------------------------------------------------------
  -- Types of declarations, as a method of a type reads them: bare, with sets put in, or at a set

  -- a type of a declaration with so many members
  abbrev pub IsDeclared : ℕ → TypeRef → Type 0
  IsDeclared n t = FitsType p n 0 t × HasSets p false t

  no_sets : (kind : ScopeKind) → is_plain kind ≡ true → (d : ℕ) → 0 ≡ sets_of p kind d
  no_sets Pure e d = absurd (cc)
  no_sets Resource e d = absurd (cc)
  no_sets Plain e d = refl
  no_sets Main e d = absurd (cc)

  bare_stands : is_plain s.kind ≡ true → (n : ℕ) (t : TypeRef) → IsDeclared n t → TypeStands p s (erased t)
  bare_stands e n Int h = tt
  bare_stands e n Bool h = tt
  bare_stands e n Text h = tt
  bare_stands e n Nothing h = tt
  bare_stands e n (Named d es) h = (h.0.0, no_sets s.kind e d, λ v i. absurd i)
  bare_stands e n (At d b) h = (h.0.0, no_sets s.kind e d, λ v i. absurd i)
  bare_stands e n (Own l) h = absurd h.1

  all_sets : (kind : ScopeKind) → is_plain kind ≡ false → (d : ℕ) → member_count (slice_get p.declarations d) ≡ sets_of p kind d
  all_sets Pure e d = refl
  all_sets Resource e d = refl
  all_sets Plain e d = absurd (cc)
  all_sets Main e d = refl

  -- at any set
  pub any_bound : (kind : ScopeKind) → is_plain kind ≡ false → (e : List ℕ) → IsEmptyIn kind e
  any_bound Pure e b = tt
  any_bound Resource e b = tt
  any_bound Plain e b = absurd (cc)
  any_bound Main e b = tt

  -- .. with sets put in, where the scope is not plain
  pub put_stands : is_plain s.kind ≡ false → (n : ℕ) (es : List (List ℕ)) → AreSets (length s.atoms) es → (t : TypeRef) → IsDeclared n t → TypeStands p s (substituted es t)
  put_stands f n es w Int h = tt
  put_stands f n es w Bool h = tt
  put_stands f n es w Text h = tt
  put_stands f n es w Nothing h = tt
  put_stands f n es w (Named d ms) h = (h.0.0, length-map ms (replace es) ∙ h.1 ∙ all_sets s.kind f d, AreSets-map (length s.atoms) es ms w)
  put_stands f n es w (At d b) h = (h.0.0, IsSet-replace (length s.atoms) es b w, any_bound s.kind f (replace es b))
  put_stands f n es w (Own l) h = absurd h.1

  -- .. at a set
  pub at_stands : (n : ℕ) (e : List ℕ) → IsSet (length s.atoms) e → IsEmptyIn s.kind e → (t : TypeRef) → IsDeclared n t → TypeStands p s (annotated e t)
  at_stands n e w f Int h = tt
  at_stands n e w f Bool h = tt
  at_stands n e w f Text h = tt
  at_stands n e w f Nothing h = tt
  at_stands n e w f (Named d ms) h = (h.0.0, w, f)
  at_stands n e w f (At d b) h = (h.0.0, w, f)
  at_stands n e w f (Own l) h = absurd h.1

  ------------------------------------------------------------
  -- Methods of types that stand

  -- each type of a signature has a property
  abbrev pub NamesHave : (TypeRef → Type 0) → Signature TypeRef → Type 0
  NamesHave P m = ((t : TypeRef) → In t m.params → P t) × P m.result

  abbrev NamesStand : Signature TypeRef → Type 0
  NamesStand m = NamesHave (TypeStands p s) m

  -- of a declaration's method, each of its types read in one way
  pub read_method : (P : TypeRef → Type 0) (f : TypeRef → TypeRef) (g : List ℕ → List ℕ) → ((n : ℕ) (t : TypeRef) → IsDeclared n t → P (f t)) → (o : Option TypeDecl) (d : ℕ) → slice_get p.declarations d ≡ o →
      (m : Signature TypeRef) → In m (map (mapped_signature f g) (declared_methods o)) → NamesHave P m
  read_method P f g h None d e m i = absurd i
  read_method P f g h (Some a) d e m i =
      let r = In-unmap (mapped_signature f g) m (map signature a.methods) i in
      let w = (core.declarations a (In-slice_get p.declarations d a e)).written r.0 r.1 in
      let param : (t : TypeRef) → In t r.0.params → P (f t) = λ t j. h (length a.members) t (w.0.params t j, w.1 t (In-left t r.0.params (r.0.result ∷ []) j)) in
      let result : P (f r.0.result) = h (length a.members) r.0.result (w.0.result, w.1 r.0.result (In-right r.0.result r.0.params (r.0.result ∷ []) (inl refl))) in
      subst (NamesHave P) r.2 ((λ t j. (let u = In-unmap f t r.0.params j in subst P u.2 (param u.0 u.1))), result)

  param_stands : (b : Body) → In b s.bodies → (t : TypeRef) → In t b.signature.params → TypeStands p s t
  param_stands b i t j = written_stands t ((fits.written b i).0 t (In-left t b.signature.params (b.signature.result ∷ []) j))

  result_stands : (b : Body) → In b s.bodies → TypeStands p s b.signature.result
  result_stands b i = written_stands b.signature.result ((fits.written b i).0 b.signature.result (In-right b.signature.result b.signature.params (b.signature.result ∷ []) (inl refl)))

  -- of the scope's own types
  pub own_method : (l : ℕ) (m : Signature TypeRef) → In m (methods_of p k (Own l)) → NamesStand m
  own_method l m i =
      let j = subst (λ o. In m (methods_of_owner l (scope_bodies o))) at i in
      let r = In-unmap (λ (b : Body). signature b.signature) m s.bodies (owner_among l s.bodies m j) in
      subst NamesStand r.2 (param_stands r.0 r.1, result_stands r.0 r.1)

  by_kind : (d : ℕ) (es : List (List ℕ)) → AreSets (length s.atoms) es → (plain : Truth) → is_plain s.kind ≡ plain → (m : Signature TypeRef) →
      In m (named_methods plain es (declared_methods (slice_get p.declarations d))) → NamesStand m
  by_kind d es h true e m i = read_method (TypeStands p s) erased (λ f. []) (λ n u w. bare_stands e n u w) (slice_get p.declarations d) d refl m i
  by_kind d es h false e m i = read_method (TypeStands p s) (substituted es) (replace es) (λ n u w. put_stands e n es h u w) (slice_get p.declarations d) d refl m i

  -- what the methods of a type that stands name can stand
  pub method_stands : (t : TypeRef) → TypeStands p s t → (m : Signature TypeRef) → In m (methods_of p k t) → NamesStand m
  method_stands Int h m i = absurd i
  method_stands Bool h m i = absurd i
  method_stands Text h m i = absurd i
  method_stands Nothing h m i = absurd i
  method_stands (Named d es) h m i = by_kind d es h.2 (is_plain s.kind) refl m (subst (λ o. In m (named_methods (scope_is_plain o) es (declared_methods (slice_get p.declarations d)))) at i)
  method_stands (At d e) h m i = read_method (TypeStands p s) (annotated e) (λ f. e) (λ n u w. at_stands n e h.1 h.2 u w) (slice_get p.declarations d) d refl m i
  method_stands (Own l) h m i = own_method l m i

  ------------------------------------------------------------
  -- Reached types

  own_there : (t : TypeRef) → In t (own_types s.kind (length s.literals)) → TypeStands p s t
  own_there t i = (let r = own_stands s.kind (length s.literals) t i in subst (TypeStands p s) r.3 (r.1, r.2))

  field_stands : (o : Option Literal) → ((l : Literal) → o ≡ Some l → In l s.literals) → (t : TypeRef) → In t (map (λ (f : Field). f.typ) (literal_fields o)) → TypeStands p s t
  field_stands None h t i = absurd i
  field_stands (Some l) h t i = written_stands t (fits.fields l (h l refl) t i)

  module _ (Includes Allows : List ℕ → List ℕ → Type 0) (Under : List ℕ → ℕ → Type 0) where
    abbrev over : Reading
    over = record { Kind = TypeRef; read = λ t. t; effect = λ e. e; methods = methods_of p k; IsObject = IsObject; Includes = Includes; Allows = Allows; Under = Under }

    -- what is reached stands, whatever the tests of effects
    pub reached_stands : (t : TypeRef) → IsReached over s t → TypeStands p s t
    reached_stands t of_number = tt
    reached_stands t of_truth = tt
    reached_stands t of_text = tt
    reached_stands t of_nothing = tt
    reached_stands t (of_own u i) = own_there u i
    reached_stands t (of_field l u i) = field_stands (slice_get s.literals l) (λ a e. In-slice_get s.literals l a e) u i
    reached_stands t (of_parameter b i u j) = param_stands b i u j
    reached_stands t (of_answer b i) = result_stands b i
    reached_stands t (of_name n i) = (let r = In-at n s.names i in written_stands n.typ (fits.names r.0 n r.2).0)
    reached_stands t (of_start u i) = written_stands u (start_written p s s.start fits.starts.1 u i)
    reached_stands t (of_body b i u j) = (let r = In-at b s.bodies i in written_stands u (block_written p s (Some b.owner) b.block _ (fits.bodies r.0 b r.2).1 u j))
    reached_stands t (of_argument u h m i v j) = (method_stands u (reached_stands u h) m i).0 v j
    reached_stands t (of_result u h m i) = (method_stands u (reached_stands u h) m i).1

  each_stands : (plain : Truth) → EachReached (TypeStands p s) p k s plain
  each_stands true = λ t h. reached_stands _ _ _ t h
  each_stands false = λ t h. reached_stands _ _ _ t h

pub reached_types_stand : ReachedTypesStand
reached_types_stand p k s core at = each_stands p core k s at (core.scopes s (In-slice_get p.scopes k s at)) (is_plain s.kind)
