-- The law of annotation: a type is a subtype of itself at a bound exactly where its effects are in the bound and the bound is safe for what it takes.
use Rattle.std.proofs.Common.{◌≡◌, ℕ, zero, suc, List, [], ◌∷◌, ◌++◌, map, inl, inr, refl, sym, ap, ◌∙◌, subst, arith, Option, Some, Bool as Truth, true, false}
use Rattle.std.specs.Prelude.{slice_get, not, ◌↔◌}
use Rattle.wy_text.specs.Members.{In}
use Rattle.wy_effects.specs.Bounds.{Inside}
use Rattle.wy_effects.specs.EffSet.{replace}
use Rattle.wy_effects.proofs.Closure.{Closes, closure}
use Rattle.wy_text.proofs.Lists.{In-left, In-right, In-cases, In-map, In-unmap, In-at, In-slice_get}
use Rattle.wy_types.specs.declared.types.TypeRef.{TypeRef}
use Rattle.wy_types.specs.declared.types.TypeRef.TheVariants.{Int, Bool, Text, Unit as Nothing, Named, At, Own}
use Rattle.wy_types.specs.declared.path.Part.{Part}
use Rattle.wy_types.specs.declared.path.Part.TheVariants.{Parameter, Result}
use Rattle.wy_types.specs.declared.path.Step.{Step}
use Rattle.wy_types.specs.Program.{Program}
use Rattle.wy_types.specs.Signature.{Signature, mapped_signature, find_method}
use Rattle.wy_types.specs.Types.{IsObject, substituted, annotated, erased, declared_methods, named_methods, scope_is_plain, methods_of}
use Rattle.wy_types.specs.Subtyping.{ParamsIn, Covers, HasCover, IsClosed, IsSubtype, LeadsBy, IsStep}
use Rattle.wy_types.specs.Paths.{IsPartOf, Goes, Walks, turned, is_positive, Reaches, EffectsWithin, IsSafe}
use Rattle.wy_types.specs.Fitting.{FitsType, FitsSignature, own_count}
use Rattle.wy_types.specs.Core.{IsCore}
use Rattle.wy_types.proofs.Finite.{Fits-written, marked_bound, length-le-marked_bound}
use Rattle.wy_types.proofs.Kept.{core_signatures_fit, Fits-wider}
use Rattle.wy_types.proofs.Closing.{closed_step, find-mapped}
use Rattle.wy_types.proofs.Deciding.{decide_type, decide_truth, decide_pair, object_cases}
use Rattle.wy_types.proofs.Reaching.{no_methods, object_of, walks_more}
use Rattle.wy_types.proofs.Reflecting.{find_once, methods_differ}

-- a type that can be written: its numbers are in range, and it is the own type of nothing
abbrev pub Writable : Program → TypeRef → Type 0
Writable p t = FitsType p 512 0 t

abbrev pub at_bound : List ℕ → Signature TypeRef → Signature TypeRef
at_bound e m = mapped_signature (annotated e) (λ f. e) m

-- a type and the one at the bound, on the sides that the polarity gives
abbrev pub sided : List ℕ → Truth → TypeRef → TypeRef × TypeRef
sided e true u = (u, annotated e u)
sided e false u = (annotated e u, u)

annotated-substituted : (e : List ℕ) (by : List (List ℕ)) (t : TypeRef) → annotated e (substituted by t) ≡ annotated e t
annotated-substituted e by Int = refl
annotated-substituted e by Bool = refl
annotated-substituted e by Text = refl
annotated-substituted e by Nothing = refl
annotated-substituted e by (Named d ms) = refl
annotated-substituted e by (At d b) = refl
annotated-substituted e by (Own l) = refl

annotated-annotated : (e b : List ℕ) (t : TypeRef) → annotated e (annotated b t) ≡ annotated e t
annotated-annotated e b Int = refl
annotated-annotated e b Bool = refl
annotated-annotated e b Text = refl
annotated-annotated e b Nothing = refl
annotated-annotated e b (Named d ms) = refl
annotated-annotated e b (At d c) = refl
annotated-annotated e b (Own l) = refl

pub annotated-erased : (e : List ℕ) (t : TypeRef) → annotated e (erased t) ≡ annotated e t
annotated-erased e Int = refl
annotated-erased e Bool = refl
annotated-erased e Text = refl
annotated-erased e Nothing = refl
annotated-erased e (Named d ms) = refl
annotated-erased e (At d c) = refl
annotated-erased e (Own l) = refl

map-after : {X Y Z : Type 0} (f : Y → Z) (g : X → Y) (h : X → Z) → ((x : X) → f (g x) ≡ h x) → (xs : List X) → map f (map g xs) ≡ map h xs
map-after f g h e [] = refl
map-after f g h e (x ∷ xs) = ap (λ y. y ∷ map f (map g xs)) (e x) ∙ ap (λ l. h x ∷ l) (map-after f g h e xs)

-- what was read in another way first is at the bound as it would have been
at_bound-mapped : (e : List ℕ) (kind : TypeRef → TypeRef) (effect : List ℕ → List ℕ) → ((t : TypeRef) → annotated e (kind t) ≡ annotated e t) → (m : Signature TypeRef) → at_bound e (mapped_signature kind effect m) ≡ at_bound e m
at_bound-mapped e kind effect same m =
    ap (λ ps. let v : Signature TypeRef = record { name = m.name; params = ps; effect = e; result = annotated e (kind m.result) } in v) (map-after (annotated e) kind (annotated e) same m.params) ∙
    ap (λ r. let v : Signature TypeRef = record { name = m.name; params = map (annotated e) m.params; effect = e; result = r } in v) (same m.result)

methods_named : (e : List ℕ) (plain : Truth) (ms : List (List ℕ)) (ds : List (Signature TypeRef)) → map (at_bound e) ds ≡ map (at_bound e) (named_methods plain ms ds)
methods_named e true ms ds = sym (map-after (at_bound e) (mapped_signature erased (λ f. [])) (at_bound e) (at_bound-mapped e erased (λ f. []) (annotated-erased e)) ds)
methods_named e false ms ds = sym (map-after (at_bound e) (mapped_signature (substituted ms) (replace ms)) (at_bound e) (at_bound-mapped e (substituted ms) (replace ms) (annotated-substituted e ms)) ds)

-- the methods of the type at the bound are those of the type, at the bound
pub methods-bound : (p : Program) (scope : ℕ) (e : List ℕ) (t : TypeRef) → Writable p t → methods_of p scope (annotated e t) ≡ map (at_bound e) (methods_of p scope t)
methods-bound p scope e Int f = refl
methods-bound p scope e Bool f = refl
methods-bound p scope e Text f = refl
methods-bound p scope e Nothing f = refl
methods-bound p scope e (Named d ms) f = methods_named e (scope_is_plain (slice_get p.scopes scope)) ms (declared_methods (slice_get p.declarations d))
methods-bound p scope e (At d b) f = sym (map-after (at_bound e) (mapped_signature (annotated b) (λ g. b)) (at_bound e) (at_bound-mapped e (annotated b) (λ g. b) (annotated-annotated e b)) (declared_methods (slice_get p.declarations d)))
methods-bound p scope e (Own l) f = absurd (omega arith)

find-bounded : (e : List ℕ) (name : List ℕ) (ms : List (Signature TypeRef)) (m : Signature TypeRef) → find_method name ms ≡ Some m → find_method name (map (at_bound e) ms) ≡ Some (at_bound e m)
find-bounded e name ms m h = find-mapped (annotated e) (λ f. e) name ms m h

names : (p : Program) (w : IsCore p) (scope : ℕ) (t : TypeRef) (m : Signature TypeRef) → In m (methods_of p scope t) → find_method m.name (methods_of p scope t) ≡ Some m
names p w scope t m i = find_once (methods_of p scope t) m (methods_differ p w scope t) i

slice_get-map' : {X Y : Type 0} (f : X → Y) (xs : List X) (k : ℕ) (x : X) → slice_get xs k ≡ Some x → slice_get (map f xs) k ≡ Some (f x)
slice_get-map' f [] k x e = cc
slice_get-map' f (y ∷ xs) zero x e = (let g : y ≡ x = cc in ap (λ v. Some (f v)) g)
slice_get-map' f (y ∷ xs) (suc k) x e = slice_get-map' f xs k x e

bound-base : (e : List ℕ) (t : TypeRef) → (IsObject t → ⊥) → annotated e t ≡ t
bound-base e Int n = refl
bound-base e Bool n = refl
bound-base e Text n = refl
bound-base e Nothing n = refl
bound-base e (Named d ms) n = absurd (n tt)
bound-base e (At d b) n = absurd (n tt)
bound-base e (Own l) n = refl

object-bound : (e : List ℕ) (t : TypeRef) → IsObject t → IsObject (annotated e t)
object-bound e Int o = absurd o
object-bound e Bool o = absurd o
object-bound e Text o = absurd o
object-bound e Nothing o = absurd o
object-bound e (Named d ms) o = tt
object-bound e (At d b) o = tt
object-bound e (Own l) o = tt

-- a part of a method leads from a sided pair to a sided pair
leads_true : (Under : List ℕ → ℕ → Type 0) (p : Program) (scope : ℕ) (e : List ℕ) (m : Signature TypeRef) (part : Part) (u : TypeRef) → IsPartOf TypeRef (methods_of p scope) m part u → LeadsBy TypeRef (methods_of p scope) IsObject (Inside Under) m (at_bound e m) part (sided e (turned part true) u)
leads_true Under p scope e m Result u h = (sym h, ap (annotated e) (sym h))
leads_true Under p scope e m (Parameter i) u h = (slice_get-map' (annotated e) m.params i u h, h)

leads_false : (Under : List ℕ → ℕ → Type 0) (p : Program) (scope : ℕ) (e : List ℕ) (m : Signature TypeRef) (part : Part) (u : TypeRef) → IsPartOf TypeRef (methods_of p scope) m part u → LeadsBy TypeRef (methods_of p scope) IsObject (Inside Under) (at_bound e m) m part (sided e (turned part false) u)
leads_false Under p scope e m Result u h = (ap (annotated e) (sym h), sym h)
leads_false Under p scope e m (Parameter i) u h = (h, slice_get-map' (annotated e) m.params i u h)

Writable-part : (p : Program) (scope : ℕ) (m : Signature TypeRef) (part : Part) (u : TypeRef) → FitsSignature p 512 0 m → IsPartOf TypeRef (methods_of p scope) m part u → Writable p u
Writable-part p scope m Result u f h = let P : TypeRef → Type 0 = λ v. Writable p v in subst P h f.result
Writable-part p scope m (Parameter i) u f h = f.params u (In-slice_get m.params i u h)

module _ (Under : List ℕ → ℕ → Type 0) (p : Program) (w : IsCore p) (scope : ℕ) (e : List ℕ) where
  Written-goes : (t : TypeRef) (s : Step) (u : TypeRef) → Writable p t → Goes TypeRef (methods_of p scope) t s u → Writable p u
  Written-goes t s u f g = Writable-part p scope g.method s.part u (Fits-written p (core_signatures_fit p w) scope t f g.method g.has) g.part

  step_true : (t : TypeRef) (s : Step) (u : TypeRef) → Writable p t → Goes TypeRef (methods_of p scope) t s u → IsStep TypeRef (methods_of p scope) IsObject (Inside Under) (sided e true t) s (sided e (turned s.part true) u)
  step_true t s u f g =
      let P : List (Signature TypeRef) → Type 0 = λ l. In (at_bound e g.method) l in
      record {
        left = g.method;
        right = at_bound e g.method;
        found = names p w scope t g.method g.has;
        asked = subst P (sym (methods-bound p scope e t f)) (In-map (at_bound e) g.method (methods_of p scope t) g.has);
        named = g.named;
        leads = leads_true Under p scope e g.method s.part u g.part;
      }

  step_false : (t : TypeRef) (s : Step) (u : TypeRef) → Writable p t → Goes TypeRef (methods_of p scope) t s u → IsStep TypeRef (methods_of p scope) IsObject (Inside Under) (sided e false t) s (sided e (turned s.part false) u)
  step_false t s u f g =
      let P : List (Signature TypeRef) → Type 0 = λ l. find_method g.method.name l ≡ Some (at_bound e g.method) in
      record {
        left = at_bound e g.method;
        right = g.method;
        found = subst P (sym (methods-bound p scope e t f)) (find-bounded e g.method.name (methods_of p scope t) g.method (names p w scope t g.method g.has));
        asked = g.has;
        named = g.named;
        leads = leads_false Under p scope e g.method s.part u g.part;
      }

  step_sided : (b : Truth) (t : TypeRef) (s : Step) (u : TypeRef) → Writable p t → Goes TypeRef (methods_of p scope) t s u → IsStep TypeRef (methods_of p scope) IsObject (Inside Under) (sided e b t) s (sided e (turned s.part b) u)
  step_sided true t s u f g = step_true t s u f g
  step_sided false t s u f g = step_false t s u f g

turned_by : List Step → Truth → Truth
turned_by [] b = b
turned_by (s ∷ path) b = turned_by path (turned s.part b)

not-turned : (part : Part) (b : Truth) → turned part (not b) ≡ not (turned part b)
not-turned Result b = refl
not-turned (Parameter i) true = refl
not-turned (Parameter i) false = refl

not-turned_by : (path : List Step) (b : Truth) → turned_by path (not b) ≡ not (turned_by path b)
unfolding turned_by
not-turned_by [] b = refl
not-turned_by (s ∷ path) b = ap (turned_by path) (not-turned s.part b) ∙ not-turned_by path (turned s.part b)

turned-turned_by : (part : Part) (path : List Step) (b : Truth) → turned_by path (turned part b) ≡ turned part (turned_by path b)
turned-turned_by Result path b = refl
turned-turned_by (Parameter i) path b = not-turned_by path b

turned_by-true : (path : List Step) → turned_by path true ≡ is_positive path
unfolding turned_by
turned_by-true [] = refl
turned_by-true (s ∷ path) = turned-turned_by s.part path true ∙ ap (turned s.part) (turned_by-true path)

-- where a path ends that begins at a polarity and has this one, or the other
turned_by-same : (path : List Step) (start : Truth) → is_positive path ≡ start → turned_by path start ≡ true
turned_by-same path true h = turned_by-true path ∙ h
turned_by-same path false h = not-turned_by path true ∙ ap not (turned_by-true path ∙ h)

turned_by-other : (path : List Step) (start : Truth) → is_positive path ≡ not start → turned_by path start ≡ false
turned_by-other path true h = turned_by-true path ∙ h
turned_by-other path false h = not-turned_by path true ∙ ap not (turned_by-true path ∙ h)

module _ (Under : List ℕ → ℕ → Type 0) (p : Program) (w : IsCore p) (scope : ℕ) (e : List ℕ)
    (ps : List (TypeRef × TypeRef)) (closed : (q : TypeRef × TypeRef) → In q ps → IsClosed TypeRef (methods_of p scope) IsObject (Inside Under) ps q) where
  walk_sided : (path : List Step) (b : Truth) (t u : TypeRef) → Writable p t → In (sided e b t) ps → Walks TypeRef (methods_of p scope) t path u → Writable p u × In (sided e (turned_by path b) u) ps
  unfolding turned_by
  walk_sided [] b t u f i walk = let P : TypeRef → Type 0 = λ v. Writable p v × In (sided e b v) ps in subst P walk (f, i)
  walk_sided (s ∷ path) b t u f i walk =
      walk_sided path (turned s.part b) walk.0 u (Written-goes Under p w scope e t s walk.0 f walk.1)
      (closed_step TypeRef (methods_of p scope) IsObject (Inside Under) (no_methods p scope) ps (sided e b t) s (sided e (turned s.part b) walk.0) (closed (sided e b t) i) (step_sided Under p w scope e b t s walk.0 f walk.1)) walk.2

  -- what a closed pair says of the effects of the type
  effect_true : (u : TypeRef) → Writable p u → IsClosed TypeRef (methods_of p scope) IsObject (Inside Under) ps (sided e true u) → (m : Signature TypeRef) → In m (methods_of p scope u) → Inside Under m.effect e
  effect_true u f (inl base) m i = absurd (base.1 (object_of p scope u m i))
  effect_true u f (inr h) m i =
      let P : List (Signature TypeRef) → Type 0 = λ l. In (at_bound e m) l in
      let Q : Option (Signature TypeRef) → Type 0 = λ o. HasCover TypeRef (methods_of p scope) IsObject (Inside Under) ps o (at_bound e m) in
      let cover : Covers TypeRef (methods_of p scope) IsObject (Inside Under) ps m (at_bound e m) =
      subst Q (names p w scope u m i) (h.2 (at_bound e m) (subst P (sym (methods-bound p scope e u f)) (In-map (at_bound e) m (methods_of p scope u) i))) in
      cover.effect

  effect_false : (u : TypeRef) → Writable p u → IsClosed TypeRef (methods_of p scope) IsObject (Inside Under) ps (sided e false u) → (m : Signature TypeRef) → In m (methods_of p scope u) → Inside Under e m.effect
  effect_false u f (inl base) m i =
      let P : TypeRef → Type 0 = λ v. IsObject v → ⊥ in
      absurd (subst P base.0 base.1 (object_of p scope u m i))
  effect_false u f (inr h) m i =
      let P : List (Signature TypeRef) → Type 0 = λ l. find_method m.name l ≡ Some (at_bound e m) in
      let Q : Option (Signature TypeRef) → Type 0 = λ o. HasCover TypeRef (methods_of p scope) IsObject (Inside Under) ps o m in
      let found : find_method m.name (methods_of p scope (annotated e u)) ≡ Some (at_bound e m) =
      subst P (sym (methods-bound p scope e u f)) (find-bounded e m.name (methods_of p scope u) m (names p w scope u m i)) in
      let cover : Covers TypeRef (methods_of p scope) IsObject (Inside Under) ps (at_bound e m) m = subst Q found (h.2 m i) in
      cover.effect

  both_ways : (start : Truth) (t : TypeRef) → Writable p t → In (sided e start t) ps → EffectsWithin TypeRef (methods_of p scope) Under t start e × IsSafe TypeRef (methods_of p scope) Under t (not start) e
  both_ways start t f i = (
    λ a x. let u = x.0 in
        let r = x.1 in
        let g = walk_sided r.0 start t u f i r.1 in
        let P : Truth → Type 0 = λ b. In (sided e b u) ps in
        effect_true u g.0 (closed (sided e true u) (subst P (turned_by-same r.0 start r.2) g.1)) x.2.0 x.2.1 a x.2.2,
    λ u r. let g = walk_sided r.0 start t u f i r.1 in
        let P : Truth → Type 0 = λ b. In (sided e b u) ps in
        effect_false u g.0 (closed (sided e false u) (subst P (turned_by-other r.0 start r.2) g.1)),
  )

effects_from_subtype : (Under : List ℕ → ℕ → Type 0) (p : Program) (w : IsCore p) (scope : ℕ) → (e : List ℕ) (start : Truth) (t : TypeRef) → Writable p t →
    IsSubtype TypeRef (methods_of p scope) IsObject (Inside Under) (sided e start t).0 (sided e start t).1 → EffectsWithin TypeRef (methods_of p scope) Under t start e × IsSafe TypeRef (methods_of p scope) Under t (not start) e
effects_from_subtype Under p w scope e start t f sub = both_ways Under p w scope e sub.pairs sub.closed start t f sub.first

-- the other way: what is reached, each type with its polarity
abbrev Mark : Type 0
Mark = TypeRef × Truth

method_marks : Truth → Signature TypeRef → List Mark
method_marks b m = map (λ v. let x : Mark = (v, not b) in x) m.params ++ (m.result, b) ∷ []

marks : Truth → List (Signature TypeRef) → List Mark
marks b [] = []
marks b (m ∷ ms) = method_marks b m ++ marks b ms

In-marks : (b : Truth) (ms : List (Signature TypeRef)) (m : Signature TypeRef) (x : Mark) → In m ms → In x (method_marks b m) → In x (marks b ms)
unfolding marks
In-marks b [] m x h i = absurd h
In-marks b (n ∷ ms) m x (inl e) i =
    let P : Signature TypeRef → Type 0 = λ v. In x (method_marks b v) in
    In-left x (method_marks b n) (marks b ms) (subst P (sym e) i)
In-marks b (n ∷ ms) m x (inr h) i = In-right x (method_marks b n) (marks b ms) (In-marks b ms m x h i)

marks-from : (b : Truth) (ms : List (Signature TypeRef)) (x : Mark) → In x (marks b ms) → (m : Signature TypeRef) × In m ms × In x (method_marks b m)
unfolding marks
marks-from b [] x h = absurd h
marks-from b (n ∷ ms) x h =
    elim (In-cases x (method_marks b n) (marks b ms) h) [
      | inl g ↦ (n, inl refl, g)
      | inr g ↦ (let r = marks-from b ms x g in (r.0, inr r.1, r.2))
    ]

In-mark-param : (b : Truth) (m : Signature TypeRef) (v : TypeRef) → In v m.params → In {X = Mark} (v, not b) (method_marks b m)
unfolding method_marks
In-mark-param b m v i = In-left {X = Mark} (v, not b) (map (λ v. let x : Mark = (v, not b) in x) m.params) ((m.result, b) ∷ []) (In-map (λ v. let x : Mark = (v, not b) in x) v m.params i)

In-mark-result : (b : Truth) (m : Signature TypeRef) → In {X = Mark} (m.result, b) (method_marks b m)
unfolding method_marks
In-mark-result b m = In-right {X = Mark} (m.result, b) (map (λ v. let x : Mark = (v, not b) in x) m.params) ((m.result, b) ∷ []) (inl refl)

-- a mark of a method is at one of its parts
mark_part : (p : Program) (scope : ℕ) (b : Truth) (m : Signature TypeRef) (x : Mark) → In x (method_marks b m) → (part : Part) × IsPartOf TypeRef (methods_of p scope) m part x.0 × (turned part b ≡ x.1)
unfolding method_marks
mark_part p scope b m x h =
    elim (In-cases x (map (λ v. let x : Mark = (v, not b) in x) m.params) ((m.result, b) ∷ []) h) [
      | inl g ↦
          let r = In-unmap (λ v. let x : Mark = (v, not b) in x) x m.params g in
          let s = In-at r.0 m.params r.1 in
          (Parameter s.0, s.2 ∙ ap (λ (v : Mark). Some v.0) r.2, ap (λ (v : Mark). v.1) r.2)
      | inr g ↦ elim g [
        | inl e ↦ (Result, ap (λ (v : Mark). v.0) e, ap (λ (v : Mark). v.1) e)
        | inr z ↦ absurd z
      ]
    ]

turned-twice : (p q : Part) (b : Truth) → turned p (turned q b) ≡ turned q (turned p b)
turned-twice Result q b = refl
turned-twice (Parameter i) Result b = refl
turned-twice (Parameter i) (Parameter j) b = refl

pub is_positive-snoc : (path : List Step) (s : Step) → is_positive (path ++ s ∷ []) ≡ turned s.part (is_positive path)
is_positive-snoc [] s = refl
is_positive-snoc (x ∷ path) s = ap (turned x.part) (is_positive-snoc path s) ∙ turned-twice x.part s.part (is_positive path)

pub Reaches-more : (p : Program) (scope : ℕ) (t u v : TypeRef) (b : Truth) (s : Step) → Reaches TypeRef (methods_of p scope) t b u → Goes TypeRef (methods_of p scope) u s v → Reaches TypeRef (methods_of p scope) t (turned s.part b) v
Reaches-more p scope t u v b s r g = (r.0 ++ s ∷ [], walks_more TypeRef (methods_of p scope) r.0 s t u v r.1 g, is_positive-snoc r.0 s ∙ ap (turned s.part) r.2)

-- the polarity of a path that begins at another polarity than the positive one
abbrev pub relative : Truth → Truth → Truth
relative true b = b
relative false b = not b

relative-self : (start : Truth) → true ≡ relative start start
relative-self true = refl
relative-self false = refl

relative-true : (start : Truth) → relative start true ≡ start
relative-true true = refl
relative-true false = refl

relative-false : (start : Truth) → relative start false ≡ not start
relative-false true = refl
relative-false false = refl

relative-turned : (start : Truth) (part : Part) (b : Truth) → turned part (relative start b) ≡ relative start (turned part b)
relative-turned true part b = refl
relative-turned false part b = not-turned part b

-- from a type on one of the two sides
module _ (Under : List ℕ → ℕ → Type 0) (p : Program) (w : IsCore p) (scope : ℕ) (e : List ℕ) (start : Truth) (t : TypeRef) where
  next_marks : Mark → List Mark
  next_marks x = marks x.1 (methods_of p scope x.0)

  abbrev Marked : Mark → Type 0
  Marked x = Writable p x.0 × Reaches TypeRef (methods_of p scope) t (relative start x.1) x.0

  mark_kept : (x y : Mark) → Marked x → In y (next_marks x) → Marked y
  unfolding next_marks
  mark_kept x y f i =
      let r = marks-from x.1 (methods_of p scope x.0) y i in
      let part = mark_part p scope x.1 r.0 y r.2 in
      let s : Step = record { method = r.0.name; part = part.0 } in
      let g : Goes TypeRef (methods_of p scope) x.0 s y.0 = record { method = r.0; has = r.1; named = refl; part = part.1 } in
      let P : Truth → Type 0 = λ b. Reaches TypeRef (methods_of p scope) t b y.0 in
      (Written-goes Under p w scope e x.0 s y.0 f.0 g, subst P (relative-turned start part.0 x.1 ∙ ap (relative start) part.2) (Reaches-more p scope t x.0 y.0 (relative start x.1) s f.1 g))

  all_marks : Writable p t → Closes Mark next_marks Marked [] ((t, start) ∷ [])
  all_marks f = closure Mark (decide_pair decide_type decide_truth) next_marks Marked mark_kept (marked_bound p scope)
      (λ ms apart each. length-le-marked_bound p scope ms apart (λ m i. Fits-wider p 512 (own_count p scope) m.0 (omega arith) (each m i).0)) (t, start) (f, ([], refl, relative-self start))

  params_true : (ps : List (TypeRef × TypeRef)) (vs : List TypeRef) → ((v : TypeRef) → In v vs → In (sided e false v) ps) → ParamsIn ps vs (map (annotated e) vs)
  params_true ps [] h = tt
  params_true ps (v ∷ vs) h = (h v (inl refl), params_true ps vs (λ u i. h u (inr i)))

  params_false : (ps : List (TypeRef × TypeRef)) (vs : List TypeRef) → ((v : TypeRef) → In v vs → In (sided e true v) ps) → ParamsIn ps (map (annotated e) vs) vs
  params_false ps [] h = tt
  params_false ps (v ∷ vs) h = (h v (inl refl), params_false ps vs (λ u i. h u (inr i)))

  module _ (effects : EffectsWithin TypeRef (methods_of p scope) Under t start e) (safe : IsSafe TypeRef (methods_of p scope) Under t (not start) e) (ps : List (TypeRef × TypeRef)) where
    close_true : (u : TypeRef) → Marked (u, true) → ((m : Signature TypeRef) → In m (methods_of p scope u) → ((v : TypeRef) → In v m.params → In (sided e false v) ps) × In (sided e true m.result) ps) → IsClosed TypeRef (methods_of p scope) IsObject (Inside Under) ps (sided e true u)
    close_true u f parts =
        elim (object_cases u) [
          | inr base ↦ inl (sym (bound-base e u base), base)
          | inl object ↦ inr (
            object,
            object-bound e u object,
            λ n i.
                let P : List (Signature TypeRef) → Type 0 = λ l. In n l in
                let r = In-unmap (at_bound e) n (methods_of p scope u) (subst P (methods-bound p scope e u f.0) i) in
                let m : Signature TypeRef = r.0 in
                let q = parts m r.1 in
                let Q : Option (Signature TypeRef) → Type 0 = λ o. HasCover TypeRef (methods_of p scope) IsObject (Inside Under) ps o (at_bound e m) in
                let R : Signature TypeRef → Type 0 = λ v. HasCover TypeRef (methods_of p scope) IsObject (Inside Under) ps (find_method v.name (methods_of p scope u)) v in
                let S : Truth → Type 0 = λ b. Reaches TypeRef (methods_of p scope) t b u in
                subst R r.2 (subst Q (sym (names p w scope u m r.1)) (record {
                  params = params_true ps m.params q.0;
                  effect = λ a j. effects a (u, subst S (relative-true start) f.1, (m, r.1, j));
                  result = q.1;
                })),
          )
        ]

    close_false : (u : TypeRef) → Marked (u, false) → ((m : Signature TypeRef) → In m (methods_of p scope u) → ((v : TypeRef) → In v m.params → In (sided e true v) ps) × In (sided e false m.result) ps) → IsClosed TypeRef (methods_of p scope) IsObject (Inside Under) ps (sided e false u)
    close_false u f parts =
        elim (object_cases u) [
          | inr base ↦
              let same : annotated e u ≡ u = bound-base e u base in
              let P : TypeRef → Type 0 = λ v. IsObject v → ⊥ in
              inl (same, subst P (sym same) base)
          | inl object ↦ inr (
            object-bound e u object,
            object,
            λ m i.
                let q = parts m i in
                let P : List (Signature TypeRef) → Type 0 = λ l. find_method m.name l ≡ Some (at_bound e m) in
                let Q : Option (Signature TypeRef) → Type 0 = λ o. HasCover TypeRef (methods_of p scope) IsObject (Inside Under) ps o m in
                let found : find_method m.name (methods_of p scope (annotated e u)) ≡ Some (at_bound e m) =
                subst P (sym (methods-bound p scope e u f.0)) (find-bounded e m.name (methods_of p scope u) m (names p w scope u m i)) in
                let S : Truth → Type 0 = λ b. Reaches TypeRef (methods_of p scope) t b u in
                subst Q (sym found) (record {
                  params = params_false ps m.params q.0;
                  effect = safe u (subst S (relative-false start) f.1) m i;
                  result = q.1;
                }),
          )
        ]

    close : (b : Truth) (u : TypeRef) → Marked (u, b) → ((m : Signature TypeRef) → In m (methods_of p scope u) → ((v : TypeRef) → In v m.params → In (sided e (not b) v) ps) × In (sided e b m.result) ps) → IsClosed TypeRef (methods_of p scope) IsObject (Inside Under) ps (sided e b u)
    close true u f parts = close_true u f parts
    close false u f parts = close_false u f parts

  sub_from : Writable p t → EffectsWithin TypeRef (methods_of p scope) Under t start e → IsSafe TypeRef (methods_of p scope) Under t (not start) e → IsSubtype TypeRef (methods_of p scope) IsObject (Inside Under) (sided e start t).0 (sided e start t).1
  unfolding next_marks
  sub_from f effects safe =
      let r : Closes Mark next_marks Marked [] ((t, start) ∷ []) = all_marks f in
      let turn : Mark → TypeRef × TypeRef = λ x. sided e x.1 x.0 in
      let ps : List (TypeRef × TypeRef) = map turn r.list in
      record {
        pairs = ps;
        first = In-map turn (t, start) r.list (r.new (t, start) (inl refl));
        closed = λ z i.
            let q = In-unmap turn z r.list i in
            let P : (TypeRef × TypeRef) → Type 0 = λ v. IsClosed TypeRef (methods_of p scope) IsObject (Inside Under) ps v in
            let x : Mark = q.0 in
            let next : (y : Mark) → In y (next_marks x) → In (turn y) ps = λ y j. In-map turn y r.list (r.closed x q.1 y j) in
            subst P q.2 (close effects safe ps x.1 x.0 (r.each x q.1) (λ m j. (
              λ v k. next (v, not x.1) (In-marks x.1 (methods_of p scope x.0) m (v, not x.1) j (In-mark-param x.1 m v k)),
              next (m.result, x.1) (In-marks x.1 (methods_of p scope x.0) m (m.result, x.1) j (In-mark-result x.1 m)),
            )));
      }

-- the law of annotation
pub annotation : (Under : List ℕ → ℕ → Type 0) (p : Program) (w : IsCore p) (scope : ℕ) → (e : List ℕ) (t : TypeRef) → Writable p t →
    (EffectsWithin TypeRef (methods_of p scope) Under t true e × IsSafe TypeRef (methods_of p scope) Under t false e) ↔ IsSubtype TypeRef (methods_of p scope) IsObject (Inside Under) t (annotated e t)
annotation Under p w scope e t f = (λ h. sub_from Under p w scope e true t f h.0 h.1, λ sub. effects_from_subtype Under p w scope e true t f sub)

-- its dual: the sides are exchanged, and so are the polarities
pub dual_annotation : (Under : List ℕ → ℕ → Type 0) (p : Program) (w : IsCore p) (scope : ℕ) → (e : List ℕ) (t : TypeRef) → Writable p t →
    (IsSafe TypeRef (methods_of p scope) Under t true e × EffectsWithin TypeRef (methods_of p scope) Under t false e) ↔ IsSubtype TypeRef (methods_of p scope) IsObject (Inside Under) (annotated e t) t
dual_annotation Under p w scope e t f = (λ h. sub_from Under p w scope e false t f h.1 h.0, λ sub. (let r = effects_from_subtype Under p w scope e false t f sub in (r.1, r.0)))
