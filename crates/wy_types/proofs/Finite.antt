-- Finitely many types are reached: each is in a list that the program and the scope determine.
use Rattle.std.proofs.Common.{◌≡◌, ℕ, zero, suc, ◌+◌, ◌^◌, ◌<◌, ◌≤◌, List, [], ◌∷◌, ◌++◌, map, ◌⊎◌, inl, inr, length, refl, sym, ap, ap₂, ◌∙◌, subst, arith, Option, Some, None, Bool as Truth, true, false, length-append}
use Rattle.std.specs.Prelude.{slice_get, nat_eq, if◌then◌else◌}
use Rattle.std.specs.List.{range_with_len}
use Rattle.std.proofs.Math.ListN.{length-map}
use Rattle.std.proofs.Math.Nat.{add_assoc, zero-add}
use Rattle.std.proofs.lemmas.List.FromFn.{length-range_with_len, get_or-range_with_len}
use Rattle.wy_text.specs.Members.{In, Apart}
use Rattle.wy_effects.specs.EffSet.{IsSet, AreSets, replace}
use Rattle.wy_text.proofs.Lists.{In-left, In-right, In-map, In-unmap, In-read, length-apart}
use Rattle.wy_effects.proofs.Listing.{sets_from, In-sets_from, length-sets_from, tuples, In-tuples, length-tuples, pairs_of, In-pairs_of}
use Rattle.wy_effects.proofs.Replacing.{IsSet-replace, AreSets-map}
use Rattle.wy_types.specs.declared.types.TypeRef.{TypeRef}
use Rattle.wy_types.specs.declared.types.TypeRef.TheVariants.{Int, Bool, Text, Unit as Nothing, Named, At, Own}
use Rattle.wy_types.specs.declared.resolved.TypeDecl.{TypeDecl}
use Rattle.wy_types.specs.Program.{Program, Scope, Body}
use Rattle.wy_types.specs.Signature.{Signature, mapped_signature}
use Rattle.wy_types.specs.Types.{substituted, annotated, erased, signature, declared_methods, methods_of_owner, named_methods, scope_is_plain, scope_bodies, methods_of}
use Rattle.wy_types.specs.Fitting.{scope_literals, own_count, FitsType, AllFit, FitsSignature, AllSignaturesFit, SignaturesFit, IsTypeOf}
use Rattle.wy_types.specs.MemberCount.{member_count}
use Rattle.wy_types.specs.Few.{declared_count, type_count, type_bound}

length-map' : {X Y : Type 0} (f : X → Y) (xs : List X) → length (map f xs) ≡ length xs
length-map' f [] = refl
length-map' f (x ∷ xs) = ap suc (length-map' f xs)

module _ (p : Program) (owns : ℕ) where
  pub Fits-substituted : (atoms : ℕ) (by : List (List ℕ)) (t : TypeRef) → AreSets 512 by → FitsType p atoms 0 t → FitsType p 512 owns (substituted by t)
  Fits-substituted atoms by Int h f = tt
  Fits-substituted atoms by Bool h f = tt
  Fits-substituted atoms by Text h f = tt
  Fits-substituted atoms by Nothing h f = tt
  Fits-substituted atoms by (Named d members) h f =
      (f.0, elim f.1 [ inl e ↦ inl (length-map' (replace by) members ∙ e) | inr e ↦ inr (ap (map (replace by)) e) ], AreSets-map 512 by members h)
  Fits-substituted atoms by (At d bound) h f = (f.0, IsSet-replace 512 by bound h)
  Fits-substituted atoms by (Own l) h f = absurd (omega arith)

  pub Fits-annotated : (atoms : ℕ) (e : List ℕ) (t : TypeRef) → IsSet 512 e → FitsType p atoms 0 t → FitsType p 512 owns (annotated e t)
  Fits-annotated atoms e Int h f = tt
  Fits-annotated atoms e Bool h f = tt
  Fits-annotated atoms e Text h f = tt
  Fits-annotated atoms e Nothing h f = tt
  Fits-annotated atoms e (Named d members) h f = (f.0, h)
  Fits-annotated atoms e (At d bound) h f = (f.0, h)
  Fits-annotated atoms e (Own l) h f = absurd (omega arith)

  Fits-erased : (atoms : ℕ) (t : TypeRef) → FitsType p atoms 0 t → FitsType p 512 owns (erased t)
  Fits-erased atoms Int f = tt
  Fits-erased atoms Bool f = tt
  Fits-erased atoms Text f = tt
  Fits-erased atoms Nothing f = tt
  Fits-erased atoms (Named d members) f = (f.0, inr refl, (λ s i. absurd i))
  Fits-erased atoms (At d bound) f = (f.0, inr refl, (λ s i. absurd i))
  Fits-erased atoms (Own l) f = absurd (omega arith)

  Fits-map : (atoms : ℕ) (f : TypeRef → TypeRef) (ts : List TypeRef) → ((t : TypeRef) → FitsType p atoms 0 t → FitsType p 512 owns (f t)) → AllFit p atoms 0 ts → AllFit p 512 owns (map f ts)
  Fits-map atoms f ts g h t i =
      let r = In-unmap f t ts i in
      let P : TypeRef → Type 0 = λ v. FitsType p 512 owns v in
      subst P r.2 (g r.0 (h r.0 r.1))

  -- signatures read in another way fit where the types and effects read so do
  Fits-mapped : (atoms : ℕ) (kind : TypeRef → TypeRef) (effect : List ℕ → List ℕ) (ms : List (Signature TypeRef)) →
      ((t : TypeRef) → FitsType p atoms 0 t → FitsType p 512 owns (kind t)) → ((e : List ℕ) → IsSet atoms e → IsSet 512 (effect e)) →
      AllSignaturesFit p atoms 0 ms → AllSignaturesFit p 512 owns (map (mapped_signature kind effect) ms)
  Fits-mapped atoms kind effect ms g h all m i =
      let r = In-unmap (mapped_signature kind effect) m ms i in
      let old : FitsSignature p atoms 0 r.0 = all r.0 r.1 in
      let P : Signature TypeRef → Type 0 = λ v. FitsSignature p 512 owns v in
      let new : FitsSignature p 512 owns (mapped_signature kind effect r.0) = record {
        params = Fits-map atoms kind r.0.params g old.params;
        effect = h r.0.effect old.effect;
        result = g r.0.result old.result;
      } in
      subst P r.2 new

-- the option read at a place, with its equation
pub read : {X : Type 0} (o : Option X) → (o ≡ None) ⊎ ((x : X) × (o ≡ Some x))
read None = inl refl
read (Some x) = inr (x, refl)

pub Fits-declared : (p : Program) (w : SignaturesFit p) (owns k : ℕ) (kind : TypeRef → TypeRef) (effect : List ℕ → List ℕ) →
    ((atoms : ℕ) (t : TypeRef) → FitsType p atoms 0 t → FitsType p 512 owns (kind t)) → ((e : List ℕ) → IsSet 512 (effect e)) →
    AllSignaturesFit p 512 owns (map (mapped_signature kind effect) (declared_methods (slice_get p.declarations k)))
Fits-declared p w owns k kind effect g h =
    let P : Option TypeDecl → Type 0 = λ o. AllSignaturesFit p 512 owns (map (mapped_signature kind effect) (declared_methods o)) in
    elim (read (slice_get p.declarations k)) [
      | inl e ↦ subst P (sym e) (λ m i. absurd i)
      | inr r ↦ subst P (sym r.1) (Fits-mapped p owns (length r.0.members) kind effect (map signature r.0.methods) (g (length r.0.members)) (λ e s. h e) (w.declarations k r.0 r.1))
    ]

pub Fits-named : (p : Program) (w : SignaturesFit p) (owns k : ℕ) (plain : Truth) (by : List (List ℕ)) → AreSets 512 by →
    AllSignaturesFit p 512 owns (named_methods plain by (declared_methods (slice_get p.declarations k)))
Fits-named p w owns k true by h = Fits-declared p w owns k erased (λ e. []) (Fits-erased p owns) (λ e. tt)
Fits-named p w owns k false by h =
    Fits-declared p w owns k (substituted by) (replace by) (λ atoms t f. Fits-substituted p owns atoms by t h f) (λ e. IsSet-replace 512 by e h)

pub owner_among : (l : ℕ) (bs : List Body) (m : Signature TypeRef) → In m (methods_of_owner l bs) → In m (map (λ (b : Body). signature b.signature) bs)
owner_among l [] m i = absurd i
owner_among l (b ∷ bs) m i =
    elim (nat_eq b.owner l) as (λ t. In m (if t then (signature b.signature ∷ methods_of_owner l bs) else methods_of_owner l bs) → In m (map (λ (b : Body). signature b.signature) (b ∷ bs))) [
      | true ↦ λ h. elim h [ inl e ↦ inl e | inr g ↦ inr (owner_among l bs m g) ]
      | false ↦ λ h. inr (owner_among l bs m h)
    ] i

Fits-own : (p : Program) (w : SignaturesFit p) (scope l : ℕ) → AllSignaturesFit p 512 (own_count p scope) (methods_of_owner l (scope_bodies (slice_get p.scopes scope)))
Fits-own p w scope l =
    let P : Option Scope → Type 0 = λ o. AllSignaturesFit p 512 (length (scope_literals o)) (methods_of_owner l (scope_bodies o)) in
    elim (read (slice_get p.scopes scope)) [
      | inl q ↦ subst P (sym q) (λ m i. absurd i)
      | inr s ↦ subst P (sym s.1) (λ m i. w.bodies scope s.0 s.1 m (owner_among l s.0.bodies m i))
    ]

-- the methods of a type that is in range are in range
pub Fits-methods : (p : Program) (w : SignaturesFit p) (scope : ℕ) (t : TypeRef) → IsTypeOf p scope t → AllSignaturesFit p 512 (own_count p scope) (methods_of p scope t)
Fits-methods p w scope Int f = λ m i. absurd i
Fits-methods p w scope Bool f = λ m i. absurd i
Fits-methods p w scope Text f = λ m i. absurd i
Fits-methods p w scope Nothing f = λ m i. absurd i
Fits-methods p w scope (Named d members) f = Fits-named p w (own_count p scope) d (scope_is_plain (slice_get p.scopes scope)) members f.2
Fits-methods p w scope (At d bound) f = Fits-declared p w (own_count p scope) d (annotated bound) (λ e. bound) (λ atoms t g. Fits-annotated p (own_count p scope) atoms bound t f.1 g) (λ e. f.1)
Fits-methods p w scope (Own l) f = Fits-own p w scope l

-- the methods of a type that can be written name types that can be written
pub Fits-written : (p : Program) (w : SignaturesFit p) (scope : ℕ) (t : TypeRef) → FitsType p 512 0 t → AllSignaturesFit p 512 0 (methods_of p scope t)
Fits-written p w scope Int f = λ m i. absurd i
Fits-written p w scope Bool f = λ m i. absurd i
Fits-written p w scope Text f = λ m i. absurd i
Fits-written p w scope Nothing f = λ m i. absurd i
Fits-written p w scope (Named d members) f = Fits-named p w 0 d (scope_is_plain (slice_get p.scopes scope)) members f.2
Fits-written p w scope (At d bound) f = Fits-declared p w 0 d (annotated bound) (λ e. bound) (λ atoms t g. Fits-annotated p 0 atoms bound t f.1 g) (λ e. f.1)
Fits-written p w scope (Own l) f = absurd (omega arith)

-- all types that the declaration of a number stands for
types_of : ℕ → TypeDecl → List TypeRef
types_of k d = (Named k [] ∷ map (λ ms. Named k ms) (tuples (length d.members) (sets_from 0 512))) ++ map (λ e. At k e) (sets_from 0 512)

-- .. and those of the next ones
types_from : ℕ → List TypeDecl → List TypeRef
types_from k [] = []
types_from k (d ∷ ds) = types_of k d ++ types_from (k + 1) ds

-- all types in range
pub all_types : Program → ℕ → List TypeRef
all_types p owns = (Int ∷ Bool ∷ Text ∷ Nothing ∷ []) ++ (types_from 0 p.declarations ++ map (λ l. Own l) (range_with_len 0 owns))

element : {X : Type 0} (xs : List X) (k : ℕ) → k < length xs → (x : X) × (slice_get xs k ≡ Some x)
element [] k lt = absurd (omega arith)
element (x ∷ xs) zero lt = (x, refl)
element (x ∷ xs) (suc k) lt = element xs k (omega (arith, lt))

In-types_from : (k j : ℕ) (ds : List TypeDecl) (d : TypeDecl) (t : TypeRef) → slice_get ds j ≡ Some d → In t (types_of (j + k) d) → In t (types_from k ds)
unfolding types_from
In-types_from k j [] d t e i = absurd (cc)
In-types_from k zero (x ∷ ds) d t e i = In-left t (types_of k x) (types_from (k + 1) ds) (let same : d ≡ x = cc in let at : 0 + k ≡ k = omega arith in subst (λ n. In t (types_of n x)) at (subst (λ v. In t (types_of (0 + k) v)) same i))
In-types_from k (suc j) (x ∷ ds) d t e i =
    In-right t (types_of k x) (types_from (k + 1) ds)
    (In-types_from (k + 1) j ds d t e (let at : suc j + k ≡ j + (k + 1) = omega arith in subst (λ n. In t (types_of n d)) at i))

In-named : (k : ℕ) (d : TypeDecl) (members : List (List ℕ)) → (length members ≡ length d.members) ⊎ (members ≡ []) → AreSets 512 members → In (Named k members) (types_of k d)
unfolding types_of
In-named k d members (inr e) h = inl (ap (λ ms. Named k ms) (sym e))
In-named k d members (inl e) h =
    let P : ℕ → Type 0 = λ n. In (Named k members) (map (λ ms. Named k ms) (tuples n (sets_from 0 512))) in
    inr (In-left (Named k members) (map (λ ms. Named k ms) (tuples (length d.members) (sets_from 0 512))) (map (λ e. At k e) (sets_from 0 512))
    (subst P e (In-map (λ ms. Named k ms) members (tuples (length members) (sets_from 0 512)) (In-tuples (sets_from 0 512) members (λ s i. In-sets_from 0 512 512 s refl (h s i))))))

In-at : (k : ℕ) (d : TypeDecl) (bound : List ℕ) → IsSet 512 bound → In (At k bound) (types_of k d)
unfolding types_of
In-at k d bound h =
    In-right (At k bound) (Named k [] ∷ map (λ ms. Named k ms) (tuples (length d.members) (sets_from 0 512))) (map (λ e. At k e) (sets_from 0 512))
    (In-map (λ e. At k e) bound (sets_from 0 512) (In-sets_from 0 512 512 bound refl h))

module _ (p : Program) (owns : ℕ) where
  later : (t : TypeRef) → In t (types_from 0 p.declarations ++ map (λ l. Own l) (range_with_len 0 owns)) → In t (all_types p owns)
  unfolding all_types
  later t i = inr (inr (inr (inr i)))

  declared : (k : ℕ) (t : TypeRef) → k < length p.declarations → ((d : TypeDecl) → slice_get p.declarations k ≡ Some d → In t (types_of k d)) → In t (all_types p owns)
  declared k t lt each =
      let r = element p.declarations k lt in
      let at : k ≡ k + 0 = omega arith in
      later t (In-left t (types_from 0 p.declarations) (map (λ l. Own l) (range_with_len 0 owns))
      (In-types_from 0 k p.declarations r.0 t r.1 (subst (λ n. In t (types_of n r.0)) at (each r.0 r.1))))

  pub In-all_types : (t : TypeRef) → FitsType p 512 owns t → In t (all_types p owns)
  unfolding all_types
  In-all_types Int f = inl refl
  In-all_types Bool f = inr (inl refl)
  In-all_types Text f = inr (inr (inl refl))
  In-all_types Nothing f = inr (inr (inr (inl refl)))
  In-all_types (Named d members) f =
      declared d (Named d members) f.0
      (λ x e. In-named d x members (subst (λ o. (length members ≡ member_count o) ⊎ (members ≡ [])) e f.1) f.2)
  In-all_types (At d bound) f = declared d (At d bound) f.0 (λ x e. In-at d x bound f.1)
  In-all_types (Own l) f =
      later (Own l) (In-right (Own l) (types_from 0 p.declarations) (map (λ l. Own l) (range_with_len 0 owns))
      (In-map (λ l. Own l) l (range_with_len 0 owns) (In-read (range_with_len 0 owns) l 0 l (rw (length-range_with_len 0 owns) f) (sym (get_or-range_with_len 0 owns l 0 f ∙ zero-add l)))))

------------------------------------------------------------
-- How many there are

one_more : (m n : ℕ) → suc m + n ≡ (1 + m) + n
one_more m n = omega arith

four_more : (n : ℕ) → suc (suc (suc (suc n))) ≡ 4 + n
four_more n = omega arith

length-types_of : (k : ℕ) (d : TypeDecl) → length (types_of k d) ≡ (1 + (2 ^ 512) ^ length d.members) + 2 ^ 512
unfolding types_of
length-types_of k d =
    let lists = tuples (length d.members) (sets_from 0 512) in
    let sets : length (sets_from 0 512) ≡ 2 ^ 512 = length-sets_from 0 512 in
    let named : length (map (λ ms. Named k ms) lists) ≡ (2 ^ 512) ^ length d.members =
    length-map lists (λ ms. Named k ms) ∙ length-tuples (length d.members) (sets_from 0 512) ∙ ap (λ n. n ^ length d.members) sets in
    length-append (Named k [] ∷ map (λ ms. Named k ms) lists) (map (λ e. At k e) (sets_from 0 512)) ∙
    ap₂ (λ m n. suc m + n) named (length-map (sets_from 0 512) (λ e. At k e) ∙ sets) ∙
    one_more ((2 ^ 512) ^ length d.members) (2 ^ 512)

length-types_from : (k : ℕ) (ds : List TypeDecl) → length (types_from k ds) ≡ declared_count 512 ds
unfolding types_from
length-types_from k [] = refl
length-types_from k (d ∷ ds) =
    let here = length-types_of k d in
    let rest = length-types_from (k + 1) ds in
    length-append (types_of k d) (types_from (k + 1) ds) ∙ ap₂ (λ m n. m + n) here rest ∙ add_assoc (1 + (2 ^ 512) ^ length d.members) (2 ^ 512) (declared_count 512 ds)

-- .. of each kind
pub length-all_types : (p : Program) (owns : ℕ) → length (all_types p owns) ≡ type_count p 512 owns
unfolding all_types
length-all_types p owns =
    let declared = length-types_from 0 p.declarations in
    let own : length (map (λ l. Own l) (range_with_len 0 owns)) ≡ owns = length-map (range_with_len 0 owns) (λ l. Own l) ∙ length-range_with_len 0 owns in
    four_more (length (types_from 0 p.declarations ++ map (λ l. Own l) (range_with_len 0 owns))) ∙
    ap (λ n. 4 + n) (length-append (types_from 0 p.declarations) (map (λ l. Own l) (range_with_len 0 owns)) ∙ ap₂ (λ m n. m + n) declared own)

-- how many pairs of types there are in a scope, and how many types with a truth value beside them
pub pair_bound : Program → ℕ → ℕ
pair_bound p scope = length (pairs_of (all_types p (own_count p scope)) (all_types p (own_count p scope)))

pub marked_bound : Program → ℕ → ℕ
marked_bound p scope = length (pairs_of (all_types p (own_count p scope)) (true ∷ false ∷ []))

pub length-le-type_bound : (p : Program) (scope : ℕ) (ts : List TypeRef) → Apart ts → ((t : TypeRef) → In t ts → IsTypeOf p scope t) → length ts ≤ type_bound p scope
length-le-type_bound p scope ts d f =
    subst (λ n. length ts ≤ n) (length-all_types p (own_count p scope))
    (length-apart ts (all_types p (own_count p scope)) d (λ t i. In-all_types p (own_count p scope) t (f t i)))

pub length-le-pair_bound : (p : Program) (scope : ℕ) (ps : List (TypeRef × TypeRef)) → Apart ps → ((q : TypeRef × TypeRef) → In q ps → IsTypeOf p scope q.0 × IsTypeOf p scope q.1) → length ps ≤ pair_bound p scope
unfolding pair_bound
length-le-pair_bound p scope ps d f =
    let us : List TypeRef = all_types p (own_count p scope) in
    length-apart ps (pairs_of us us) d
    (λ q i. In-pairs_of q.0 q.1 us us (In-all_types p (own_count p scope) q.0 (f q i).0) (In-all_types p (own_count p scope) q.1 (f q i).1))

pub length-le-marked_bound : (p : Program) (scope : ℕ) (ms : List (TypeRef × Truth)) → Apart ms → ((m : TypeRef × Truth) → In m ms → IsTypeOf p scope m.0) → length ms ≤ marked_bound p scope
unfolding marked_bound
length-le-marked_bound p scope ms d f =
    length-apart ms (pairs_of (all_types p (own_count p scope)) (true ∷ false ∷ []))
    d (λ m i. In-pairs_of m.0 m.1 (all_types p (own_count p scope)) (true ∷ false ∷ []) (In-all_types p (own_count p scope) m.0 (f m i)) (either m.1))
  where
    either : (b : Truth) → In b (true ∷ false ∷ [])
    either true = inl refl
    either false = inr (inl refl)
