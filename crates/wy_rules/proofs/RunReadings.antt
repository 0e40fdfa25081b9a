-- An instance's reading of its scope's types agrees with the table of the run, for all types or for those that are no own types.
use Rattle.std.proofs.Common.{◌≡◌, ℕ, List, [], ◌∷◌, map, inl, inr, refl, sym, ◌∙◌, ap, ap₂, Option, Some, None, Bool as Truth, true, false, arith}
use Rattle.std.specs.Prelude.{slice_get, IsTrue}
use Rattle.wy_text.specs.Members.{In}
use Rattle.wy_text.proofs.Lists.{In-slice_get}
use Rattle.wy_effects.specs.EffSet.{AreSets, replace}
use Rattle.wy_effects.proofs.Closure.{Decided}
use Rattle.wy_effects.proofs.Replacing.{replace-replace}
use Rattle.wy_effects.proofs.SetLaws.{cases_equal}
use Rattle.wy_types.specs.declared.types.TypeRef.{TypeRef}
use Rattle.wy_types.specs.declared.types.TypeRef.TheVariants as of
use Rattle.wy_types.specs.declared.resolved.TypeDecl.{TypeDecl}
use Rattle.wy_types.specs.Program.{Program}
use Rattle.wy_types.specs.Signature.{Signature, mapped_signature}
use Rattle.wy_types.specs.Types.{IsObject, substituted, annotated, erased, declared_methods, named_methods, bounded_methods, scope_is_plain, methods_of}
use Rattle.wy_types.specs.Fitting.{FitsType}
use Rattle.wy_types.specs.Core.{IsCore}
use Rattle.wy_types.proofs.Deciding.{decide_list}
use Rattle.wy_rules.specs.GroundTypes.{GroundType, Int, Bool, Text, Nothing, Named, At, Own, IsGroundObject, type_at, read_by, effect_by, ground_methods}
use Rattle.wy_rules.proofs.Rereadings.{annotated-bare, annotated-substituted, annotated-annotated}

------------------------------------------------------------
-- Types of a run are equal or not

pub decide_ground : (s t : GroundType) → Decided (s ≡ t)
decide_ground Int Int = inl refl
decide_ground Bool Bool = inl refl
decide_ground Text Text = inl refl
decide_ground Nothing Nothing = inl refl
decide_ground (Named d ms) (Named e ns) =
    elim (cases_equal d e) [
      | inl f ↦ elim (decide_list (decide_list cases_equal) ms ns) [ inl g ↦ inl (cc) | inr n ↦ inr (λ h. n (cc)) ]
      | inr n ↦ inr (λ h. n (cc))
    ]
decide_ground (At d b) (At e c) =
    elim (cases_equal d e) [
      | inl f ↦ elim (decide_list cases_equal b c) [ inl g ↦ inl (cc) | inr n ↦ inr (λ h. n (cc)) ]
      | inr n ↦ inr (λ h. n (cc))
    ]
decide_ground (Own x l) (Own y k) =
    elim (cases_equal x y) [
      | inl f ↦ elim (cases_equal l k) [ inl g ↦ inl (cc) | inr n ↦ inr (λ h. n (cc)) ]
      | inr n ↦ inr (λ h. n (cc))
    ]
decide_ground s t = inr (λ e. cc)

------------------------------------------------------------
-- Types that name no own type

abbrev pub NoOwn : TypeRef → Type 0
NoOwn of.Int = Unit {0}
NoOwn of.Bool = Unit {0}
NoOwn of.Text = Unit {0}
NoOwn of.Unit = Unit {0}
NoOwn (of.Named d ms) = Unit {0}
NoOwn (of.At d b) = Unit {0}
NoOwn (of.Own l) = ⊥

pub no_own : (p : Program) (n : ℕ) (t : TypeRef) → FitsType p n 0 t → NoOwn t
no_own p n of.Int h = tt
no_own p n of.Bool h = tt
no_own p n of.Text h = tt
no_own p n of.Unit h = tt
no_own p n (of.Named d ms) h = tt
no_own p n (of.At d b) h = tt
no_own p n (of.Own l) h = absurd (omega arith)

pub same_at : (x y : ℕ) (t : TypeRef) → NoOwn t → type_at x t ≡ type_at y t
same_at x y of.Int h = refl
same_at x y of.Bool h = refl
same_at x y of.Text h = refl
same_at x y of.Unit h = refl
same_at x y (of.Named d ms) h = refl
same_at x y (of.At d b) h = refl
same_at x y (of.Own l) h = absurd h

pub no_own_read : (o : Option (List ℕ)) (sets : List (List ℕ)) (t : TypeRef) → NoOwn t → NoOwn (read_by o sets t)
no_own_read None sets of.Int h = tt
no_own_read None sets of.Bool h = tt
no_own_read None sets of.Text h = tt
no_own_read None sets of.Unit h = tt
no_own_read None sets (of.Named d ms) h = tt
no_own_read None sets (of.At d b) h = tt
no_own_read (Some e) sets of.Int h = tt
no_own_read (Some e) sets of.Bool h = tt
no_own_read (Some e) sets of.Text h = tt
no_own_read (Some e) sets of.Unit h = tt
no_own_read (Some e) sets (of.Named d ms) h = tt
no_own_read (Some e) sets (of.At d b) h = tt
no_own_read o sets (of.Own l) h = absurd h

pub no_own_erased : (t : TypeRef) → NoOwn t → NoOwn (erased t)
no_own_erased of.Int h = tt
no_own_erased of.Bool h = tt
no_own_erased of.Text h = tt
no_own_erased of.Unit h = tt
no_own_erased (of.Named d ms) h = tt
no_own_erased (of.At d b) h = tt
no_own_erased (of.Own l) h = absurd h

abbrev pub AllNoOwn : List (Signature TypeRef) → Type 0
AllNoOwn ms = (m : Signature TypeRef) → In m ms → ((t : TypeRef) → In t m.params → NoOwn t) × NoOwn m.result

declared_no_own : (p : Program) → IsCore p → (o : Option TypeDecl) → ((d : TypeDecl) → o ≡ Some d → In d p.declarations) → AllNoOwn (declared_methods o)
declared_no_own p c None there m i = absurd i
declared_no_own p c (Some d) there m i =
    let fits = ((c.declarations d (there d refl)).written m i).0 in
    (λ t j. no_own p _ t (fits.params t j), no_own p _ m.result fits.result)

pub no_own_of : (p : Program) → IsCore p → (d : ℕ) → AllNoOwn (declared_methods (slice_get p.declarations d))
no_own_of p c d = declared_no_own p c (slice_get p.declarations d) (λ decl e. In-slice_get p.declarations d decl e)

------------------------------------------------------------
-- Signatures that are read twice, in two ways that come to the same

module _ {K : Type 0} (f f' : TypeRef → K) (g g' : TypeRef → TypeRef) (e e' d d' : List ℕ → List ℕ)
    (types : (t : TypeRef) → NoOwn t → f (g t) ≡ f' (g' t)) (effects : (s : List ℕ) → e (d s) ≡ e' (d' s)) where
  types_twice : (ts : List TypeRef) → ((t : TypeRef) → In t ts → NoOwn t) → map f (map g ts) ≡ map f' (map g' ts)
  types_twice [] h = refl
  types_twice (t ∷ ts) h = ap₂ (λ u us. u ∷ us) (types t (h t (inl refl))) (types_twice ts (λ u i. h u (inr i)))

  signatures_twice : (ms : List (Signature TypeRef)) → AllNoOwn ms →
      map (mapped_signature f e) (map (mapped_signature g d) ms) ≡ map (mapped_signature f' e') (map (mapped_signature g' d') ms)
  signatures_twice [] h = refl
  signatures_twice (m ∷ ms) h =
      let params = types_twice m.params (h m (inl refl)).0 in
      let result = types m.result (h m (inl refl)).1 in
      let one : mapped_signature f e (mapped_signature g d m) ≡ mapped_signature f' e' (mapped_signature g' d' m) =
      λ i. record { name = m.name; params = params i; effect = effects m.effect i; result = result i } in
      ap₂ (λ u us. u ∷ us) one (signatures_twice ms (λ n i. h n (inr i)))

------------------------------------------------------------
-- Types that are read twice

replaced-twice : (sets ms : List (List ℕ)) → AreSets 512 sets → (ns : List (List ℕ)) →
    map (replace (map (replace sets) ms)) ns ≡ map (replace sets) (map (replace ms) ns)
replaced-twice sets ms w [] = refl
replaced-twice sets ms w (n ∷ ns) = ap₂ (λ u us. u ∷ us) (sym (replace-replace 512 sets ms n w)) (replaced-twice sets ms w ns)

pub substituted-at : (x : ℕ) (sets ms : List (List ℕ)) → AreSets 512 sets → (t : TypeRef) → NoOwn t →
    type_at 0 (substituted (map (replace sets) ms) t) ≡ type_at x (substituted sets (substituted ms t))
substituted-at x sets ms w of.Int o = refl
substituted-at x sets ms w of.Bool o = refl
substituted-at x sets ms w of.Text o = refl
substituted-at x sets ms w of.Unit o = refl
substituted-at x sets ms w (of.Named d ns) o = ap (Named d) (replaced-twice sets ms w ns)
substituted-at x sets ms w (of.At d b) o = ap (At d) (sym (replace-replace 512 sets ms b w))
substituted-at x sets ms w (of.Own l) o = absurd o

pub bounded-at : (x : ℕ) (sets : List (List ℕ)) (b : List ℕ) (t : TypeRef) → NoOwn t →
    type_at 0 (annotated (replace sets b) t) ≡ type_at x (substituted sets (annotated b t))
bounded-at x sets b of.Int o = refl
bounded-at x sets b of.Bool o = refl
bounded-at x sets b of.Text o = refl
bounded-at x sets b of.Unit o = refl
bounded-at x sets b (of.Named d ns) o = refl
bounded-at x sets b (of.At d c) o = refl
bounded-at x sets b (of.Own l) o = absurd o

annotated-at : (x : ℕ) (e : List ℕ) (g : TypeRef → TypeRef) → ((t : TypeRef) → annotated e (g t) ≡ annotated e t) → (t : TypeRef) → NoOwn t →
    type_at 0 (annotated e t) ≡ type_at x (annotated e (g t))
annotated-at x e g h t o = same_at 0 x (annotated e t) (no_own_read (Some e) [] t o) ∙ ap (type_at x) (sym (h t))

pub object-at : (x : ℕ) (o : Option (List ℕ)) (sets : List (List ℕ)) (t : TypeRef) → IsObject t → IsGroundObject (type_at x (read_by o sets t))
object-at x o sets of.Int h = absurd h
object-at x o sets of.Bool h = absurd h
object-at x o sets of.Text h = absurd h
object-at x o sets of.Unit h = absurd h
object-at x None sets (of.Named d ms) h = tt
object-at x (Some e) sets (of.Named d ms) h = tt
object-at x None sets (of.At d b) h = tt
object-at x (Some e) sets (of.At d b) h = tt
object-at x None sets (of.Own l) h = tt
object-at x (Some e) sets (of.Own l) h = tt

pub at-object : (x : ℕ) (o : Option (List ℕ)) (sets : List (List ℕ)) (t : TypeRef) → IsGroundObject (type_at x (read_by o sets t)) → IsObject t
at-object x None sets of.Int h = h
at-object x None sets of.Bool h = h
at-object x None sets of.Text h = h
at-object x None sets of.Unit h = h
at-object x (Some e) sets of.Int h = h
at-object x (Some e) sets of.Bool h = h
at-object x (Some e) sets of.Text h = h
at-object x (Some e) sets of.Unit h = h
at-object x o sets (of.Named d ms) h = tt
at-object x o sets (of.At d b) h = tt
at-object x o sets (of.Own l) h = tt

------------------------------------------------------------
-- The table of the run

-- the type's methods over the run are those of its scope, read so
abbrev pub Agrees : Program → ℕ → ℕ → List (List ℕ) → Option (List ℕ) → TypeRef → Type 0
Agrees p x k sets o t =
    ground_methods p (type_at x (read_by o sets t)) ≡ map (mapped_signature (λ u. type_at x (read_by o sets u)) (effect_by o sets)) (methods_of p k t)

-- own types count, or they do not
abbrev pub Counts : Truth → TypeRef → Type 0
Counts true t = Unit {0}
Counts false t = NoOwn t

module _ (p : Program) (c : IsCore p) (x k : ℕ) (sets : List (List ℕ)) (are_sets : AreSets 512 sets) where
  annotated_named : (d : ℕ) (ms : List (List ℕ)) (plain : Truth) → plain ≡ false →
      map (mapped_signature (type_at 0) (λ e. e)) (named_methods false (map (replace sets) ms) (declared_methods (slice_get p.declarations d))) ≡
      map (mapped_signature (λ u. type_at x (substituted sets u)) (replace sets)) (named_methods plain ms (declared_methods (slice_get p.declarations d)))
  annotated_named d ms true e = absurd (cc)
  annotated_named d ms false e =
      signatures_twice (type_at 0) (λ u. type_at x (substituted sets u)) (substituted (map (replace sets) ms)) (substituted ms) (λ f. f)
      (replace sets) (replace (map (replace sets) ms)) (replace ms)
      (substituted-at x sets ms are_sets) (λ f. sym (replace-replace 512 sets ms f are_sets)) (declared_methods (slice_get p.declarations d))
      (no_own_of p c d)

  -- of an annotated scope
  pub annotated_agrees : scope_is_plain (slice_get p.scopes k) ≡ false → (owns : Truth) → (IsTrue owns → (l : ℕ) → Agrees p x k sets None (of.Own l)) →
      (t : TypeRef) → Counts owns t → Agrees p x k sets None t
  annotated_agrees e owns own of.Int h = refl
  annotated_agrees e owns own of.Bool h = refl
  annotated_agrees e owns own of.Text h = refl
  annotated_agrees e owns own of.Unit h = refl
  annotated_agrees e owns own (of.Named d ms) h = annotated_named d ms (scope_is_plain (slice_get p.scopes k)) e
  annotated_agrees e owns own (of.At d b) h =
      signatures_twice (type_at 0) (λ u. type_at x (substituted sets u)) (annotated (replace sets b)) (annotated b) (λ f. f) (replace sets)
      (λ f. replace sets b) (λ f. b)
      (bounded-at x sets b) (λ f. refl) (declared_methods (slice_get p.declarations d)) (no_own_of p c d)
  annotated_agrees e true own (of.Own l) h = own refl l
  annotated_agrees e false own (of.Own l) h = absurd h

  plain_named : (d : ℕ) (bound : List ℕ) (ms : List (List ℕ)) (plain : Truth) →
      map (mapped_signature (type_at 0) (λ e. e)) (bounded_methods bound (declared_methods (slice_get p.declarations d))) ≡
      map (mapped_signature (λ u. type_at x (annotated bound u)) (λ f. bound)) (named_methods plain ms (declared_methods (slice_get p.declarations d)))
  plain_named d bound ms true =
      signatures_twice (type_at 0) (λ u. type_at x (annotated bound u)) (annotated bound) erased (λ f. f) (λ f. bound) (λ f. bound) (λ f. [])
      (annotated-at x bound erased (annotated-bare bound)) (λ f. refl) (declared_methods (slice_get p.declarations d)) (no_own_of p c d)
  plain_named d bound ms false =
      signatures_twice (type_at 0) (λ u. type_at x (annotated bound u)) (annotated bound) (substituted ms) (λ f. f) (λ f. bound) (λ f. bound) (replace ms)
      (annotated-at x bound (substituted ms) (annotated-substituted bound ms)) (λ f. refl) (declared_methods (slice_get p.declarations d))
      (no_own_of p c d)

  -- of any scope, at a bound
  pub bounded_agrees : (bound : List ℕ) (owns : Truth) → (IsTrue owns → (l : ℕ) → Agrees p x k sets (Some bound) (of.Own l)) → (t : TypeRef) → Counts owns t →
      Agrees p x k sets (Some bound) t
  bounded_agrees bound owns own of.Int h = refl
  bounded_agrees bound owns own of.Bool h = refl
  bounded_agrees bound owns own of.Text h = refl
  bounded_agrees bound owns own of.Unit h = refl
  bounded_agrees bound owns own (of.Named d ms) h = plain_named d bound ms (scope_is_plain (slice_get p.scopes k))
  bounded_agrees bound owns own (of.At d b) h =
      signatures_twice (type_at 0) (λ u. type_at x (annotated bound u)) (annotated bound) (annotated b) (λ f. f) (λ f. bound) (λ f. bound) (λ f. b)
      (annotated-at x bound (annotated b) (annotated-annotated bound b)) (λ f. refl) (declared_methods (slice_get p.declarations d)) (no_own_of p c d)
  bounded_agrees bound true own (of.Own l) h = own refl l
  bounded_agrees bound false own (of.Own l) h = absurd h
