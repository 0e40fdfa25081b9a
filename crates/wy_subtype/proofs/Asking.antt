-- What the methods of both sides ask for, and that a pair's own test is exact.
use Rattle.std.proofs.Common.{◌≡◌, ℕ, suc, ◌+◌, ◌<◌, ◌≤◌, List, [], ◌∷◌, ◌++◌, map, inl, inr, length, get_or, drop, refl, sym, ap, ◌∙◌, subst, arith, Option, Some, None, append_assoc, append-nil, drop-cons, add-one, add-zero, zero-add}
use Rattle.std.specs.Prelude.{slice_get}
use Rattle.std.specs.Option.{IfSome, IfNone}
use Rattle.wy_effects.specs.declared.atom.Atom.{Atom}
use Rattle.wy_effects.specs.EffSet.{IsSet, without}
use Rattle.wy_effects.proofs.Closure.{in_decided}
use Rattle.wy_effects.proofs.SetLaws.{cases_equal, IsSetFrom-without, at_least, without-from, In-without}
use Rattle.wy_effects.proofs.Walks.{drop_none}
use Rattle.wy_text.specs.Members.{In, Within}
use Rattle.wy_effects.specs.Bounds.{IsOneOf, IsLeastMissing, IsWidened}
use Rattle.wy_effects.proofs.Ordering.{missing_exactly, widened_exactly}
use Rattle.wy_text.proofs.Lists.{In-left, In-right, In-cases, In-map, In-unmap}
use Rattle.wy_types.specs.declared.types.TypeRef.{TypeRef}
use Rattle.wy_types.specs.declared.types.Method.{Method}
use Rattle.wy_types.specs.declared.path.Part.TheVariants.{Parameter}
use Rattle.wy_types.specs.declared.path.Step.{Step}
use Rattle.wy_types.specs.Program.{Program}
use Rattle.wy_types.specs.Signature.{Signature, find_method}
use Rattle.wy_types.specs.Types.{IsObject, signature, methods_of}
use Rattle.wy_types.specs.Bounds.{bounds_of}
use Rattle.wy_types.specs.Subtyping.{ParamsIn, HasCover, LeadsBy}
use Rattle.wy_subtype.specs.declared.verdict.Mode.{Mode}
use Rattle.wy_subtype.specs.declared.verdict.Mode.TheVariants.{Annotated}
use Rattle.wy_subtype.specs.declared.verdict.Cause.{Cause}
use Rattle.wy_subtype.specs.declared.verdict.Cause.TheVariants.{MissingMethod, Arity, Base, Effect}
use Rattle.wy_subtype.specs.declared.unfolding.UnfoldedPair.{UnfoldedPair}
use Rattle.wy_subtype.specs.declared.unfolding.Unfolding.{Unfolding}
use Rattle.wy_subtype.specs.declared.unfolding.Unfolding.TheVariants.{Fails, Closed}
use Rattle.wy_subtype.specs.Verdict.{AreObjects, FailsBy}
use Rattle.wy_subtype.specs.Steps.{Pair, Allows}
use Rattle.wy_subtype.specs.Unfolding.{sides, Asks, IsUnfolded, param_pairs, method_pairs, found_pairs, all_pairs, IsMet, LacksAtom, FaultOf, AreMet}

-- one method of the right side more
pub all_step : (lefts : List (Signature TypeRef)) (rights : List Method) (i : ℕ) (r d : Method) (out new whole : List UnfoldedPair) → i < length rights → r ≡ get_or rights i d →
    new ≡ out ++ found_pairs (find_method r.name lefts) (signature r) → out ++ all_pairs lefts (map signature (drop i rights)) ≡ whole → new ++ all_pairs lefts (map signature (drop (i + 1) rights)) ≡ whole
all_step lefts rights i r d out new whole lt is e inv =
    let F : Method → List UnfoldedPair = λ n. found_pairs (find_method n.name lefts) (signature n) in
    let rest : List UnfoldedPair = all_pairs lefts (map signature (drop (suc i) rights)) in
    let c : drop i rights ≡ r ∷ drop (suc i) rights = drop-cons rights i d lt ∙ ap (λ (n : Method). n ∷ drop (suc i) rights) (sym is) in
    let a : all_pairs lefts (map signature (drop i rights)) ≡ F r ++ rest = ap (λ l. all_pairs lefts (map signature l)) c in
    rw add-one (ap (λ (l : List UnfoldedPair). l ++ rest) e ∙ append_assoc out (F r) rest ∙ ap (λ (l : List UnfoldedPair). out ++ l) (sym a) ∙ inv)

pub all_end : (lefts : List (Signature TypeRef)) (rights : List Method) (i : ℕ) (out whole : List UnfoldedPair) → length rights ≤ i → out ++ all_pairs lefts (map signature (drop i rights)) ≡ whole → out ≡ whole
all_end lefts rights i out whole le inv =
    let P : List Method → Type 0 = λ l. out ++ all_pairs lefts (map signature l) ≡ whole in
    sym (append-nil out) ∙ subst P (drop_none rights i le) inv

-- the least atom that is in one effect and not in the other
pub lacking_some : (xs ys : List ℕ) (atoms : List Atom) (o : Option Atom) → IsSet 512 xs → map (λ (a : Atom). a.0) atoms ≡ without xs ys → o ≡ slice_get atoms 0 → IfSome o (λ a. IsLeastMissing IsOneOf a.0 xs ys)
lacking_some xs ys atoms None s e is = tt
lacking_some xs ys [] (Some a) s e is = absurd (cc)
lacking_some xs ys (x ∷ atoms) (Some a) s e is =
    let P : List ℕ → Type 0 = λ l. In x.0 l in
    let Q : List ℕ → Type 0 = λ l. IsSet 512 l in
    let L : Atom → Type 0 = λ v. IsLeastMissing IsOneOf v.0 xs ys in
    let there = without-from x.0 xs ys (subst P e (inl refl)) in
    let order : IsSet 512 (x.0 ∷ map (λ (b : Atom). b.0) atoms) = subst Q (sym e) (IsSetFrom-without 0 512 xs ys s) in
    let same : x ≡ a = cc in
    subst L same (
      there.0,
      there.1,
      λ b i n.
          let R : List ℕ → Type 0 = λ l. In b l in
          elim (subst R (sym e) (In-without b xs ys i n)) [
            | inl f ↦ omega (arith, f)
            | inr j ↦ (let h : x.0 + 1 ≤ b = at_least (x.0 + 1) 512 (map (λ (c : Atom). c.0) atoms) b order.2 j in omega arith)
          ],
    )

pub lacking_none : (xs ys : List ℕ) (atoms : List Atom) (o : Option Atom) → map (λ (a : Atom). a.0) atoms ≡ without xs ys → o ≡ slice_get atoms 0 → IfNone o (Within xs ys)
lacking_none xs ys [] None e is = λ x i.
    let P : List ℕ → Type 0 = λ l. In x l in
    elim (in_decided cases_equal x ys) [ inl h ↦ h | inr n ↦ absurd (subst P (sym e) (In-without x xs ys i n)) ]
lacking_none xs ys (a ∷ atoms) None e is = cc
lacking_none xs ys atoms (Some a) e is = tt

-- what the parameters lead to
params_lead : (name : List ℕ) (k : ℕ) (xs ys : List TypeRef) (c : UnfoldedPair) → In c (param_pairs name k xs ys) →
    (i : ℕ) × (slice_get ys i ≡ Some c.left) × (slice_get xs i ≡ Some c.right) × (c.step ≡ record { method = name; part = Parameter (k + i) })
params_lead name k [] ys c h = absurd h
params_lead name k (a ∷ xs) [] c h = absurd h
params_lead name k (a ∷ xs) (b ∷ ys) c (inl e) =
    (0, ap (λ (d : UnfoldedPair). Some d.left) e, ap (λ (d : UnfoldedPair). Some d.right) e, rw add-zero (sym (ap (λ (d : UnfoldedPair). d.step) e)))
params_lead name k (a ∷ xs) (b ∷ ys) c (inr h) =
    let r = params_lead name (k + 1) xs ys c h in
    let q : k + 1 + r.0 ≡ k + suc r.0 = omega arith in
    (suc r.0, r.1, r.2, r.3 ∙ ap (λ j. record { method = name; part = Parameter j }) q)

params_closed : (name : List ℕ) (k : ℕ) (xs ys : List TypeRef) (ps : List Pair) → length xs ≡ length ys → Within (map sides (param_pairs name k xs ys)) ps → ParamsIn ps xs ys
params_closed name k [] [] ps e w = tt
params_closed name k [] (b ∷ ys) ps e w = absurd (omega arith)
params_closed name k (a ∷ xs) [] ps e w = absurd (omega arith)
params_closed name k (a ∷ xs) (b ∷ ys) ps e w = (w (b, a) (inl refl), params_closed name (k + 1) xs ys ps (omega arith) (λ p i. w p (inr i)))

-- the pairs of an earlier part of a list are among those of the list
Within-left : {X Y : Type 0} (f : X → Y) (xs ys : List X) (zs : List Y) → Within (map f (xs ++ ys)) zs → Within (map f xs) zs
Within-left f xs ys zs w y h = let r = In-unmap f y xs h in w y (let P = λ (v : _). In v (map f (xs ++ ys)) in subst P r.2 (In-map f r.0 (xs ++ ys) (In-left r.0 xs ys r.1)))

Within-right : {X Y : Type 0} (f : X → Y) (xs ys : List X) (zs : List Y) → Within (map f (xs ++ ys)) zs → Within (map f ys) zs
Within-right f xs ys zs w y h = let r = In-unmap f y ys h in w y (let P = λ (v : _). In v (map f (xs ++ ys)) in subst P r.2 (In-map f r.0 (xs ++ ys) (In-right r.0 xs ys r.1)))

-- the pairs of a found method are those of the method found
found_from : (o : Option (Signature TypeRef)) (n : Signature TypeRef) (c : UnfoldedPair) → In c (found_pairs o n) → (m : Signature TypeRef) × (o ≡ Some m) × In c (method_pairs m n)
found_from None n c h = absurd h
found_from (Some m) n c h = (m, refl, h)

all_from : (lefts ns : List (Signature TypeRef)) (c : UnfoldedPair) → In c (all_pairs lefts ns) →
    (n : Signature TypeRef) × In n ns × (m : Signature TypeRef) × (find_method n.name lefts ≡ Some m) × In c (method_pairs m n)
all_from lefts [] c h = absurd h
all_from lefts (n ∷ ns) c h =
    elim (In-cases c (found_pairs (find_method n.name lefts) n) (all_pairs lefts ns) h) [
      | inl g ↦ (let r = found_from (find_method n.name lefts) n c g in (n, inl refl, r.0, r.1, r.2))
      | inr g ↦ (let r = all_from lefts ns c g in (r.0, inr r.1, r.2, r.3, r.4))
    ]

-- what is told of a widened right effect is told of the effect
module _ (p : Program) (scope : ℕ) (mode : Mode) (same : mode ≡ Annotated) (e f wide : List ℕ) (is : IsWidened (bounds_of p scope) f wide) where
  pub none_allowed : (o : Option Atom) → IfNone o (Within e wide) → IfNone o (Allows p scope mode e f)
  none_allowed None h = subst (λ m. Allows p scope m e f) (sym same) ((widened_exactly (bounds_of p scope) e f wide is).1 h)
  none_allowed (Some a) h = tt

  pub some_lacks : (o : Option Atom) → IfSome o (λ a. IsLeastMissing IsOneOf a.0 e wide) → IfSome o (λ a. LacksAtom p scope mode a.0 e f)
  some_lacks None h = tt
  some_lacks (Some a) h = (same, (missing_exactly (bounds_of p scope) e f wide a.0 is).1 h)

module _ (p : Program) (scope : ℕ) (mode : Mode) where
  Leading : Signature TypeRef → Signature TypeRef → Step → Pair → Type 0
  Leading m n s q = (n.name ≡ s.method) × LeadsBy TypeRef (methods_of p scope) IsObject (Allows p scope mode) m n s.part q

  -- each pair of two methods is what one of their parts leads to
  pair_leads : (m n : Signature TypeRef) (c : UnfoldedPair) → In c (method_pairs m n) → Leading m n c.step (sides c)
  unfolding Leading
  pair_leads m n c h =
      elim (In-cases c (param_pairs n.name 0 m.params n.params) _ h) [
        | inl g ↦
            let r = params_lead n.name 0 m.params n.params c g in
            let P : Step → Type 0 = λ s. Leading m n s (sides c) in
            subst P (sym r.3) (refl, (rw zero-add (r.1, r.2)))
        | inr g ↦ elim g [
          | inl e ↦ (let P : UnfoldedPair → Type 0 = λ d. Leading m n d.step (sides d) in subst P e (refl, (refl, refl)))
          | inr f ↦ absurd f
        ]
      ]

  has_cover : (o : Option (Signature TypeRef)) (n : Signature TypeRef) (ps : List Pair) → IsMet p scope mode o n → Within (map sides (found_pairs o n)) ps →
      HasCover TypeRef (methods_of p scope) IsObject (Allows p scope mode) ps o n
  has_cover None n ps f w = absurd f
  has_cover (Some m) n ps f w = record {
    params = params_closed n.name 0 m.params n.params ps f.0 (Within-left sides (param_pairs n.name 0 m.params n.params) _ ps w);
    effect = f.1;
    result = Within-right sides (param_pairs n.name 0 m.params n.params) _ ps w (m.result, n.result) (inl refl);
  }

  all_covered : (lefts ns : List (Signature TypeRef)) (ps : List Pair) → ((n : Signature TypeRef) → In n ns → IsMet p scope mode (find_method n.name lefts) n) → Within (map sides (all_pairs lefts ns)) ps →
      (n : Signature TypeRef) → In n ns → HasCover TypeRef (methods_of p scope) IsObject (Allows p scope mode) ps (find_method n.name lefts) n
  all_covered lefts [] ps f w n i = absurd i
  all_covered lefts (m ∷ ns) ps f w n (inl e) =
      let P : Signature TypeRef → Type 0 = λ v. HasCover TypeRef (methods_of p scope) IsObject (Allows p scope mode) ps (find_method v.name lefts) v in
      subst P e (has_cover (find_method m.name lefts) m ps (f m (inl refl)) (Within-left sides (found_pairs (find_method m.name lefts) m) (all_pairs lefts ns) ps w))
  all_covered lefts (m ∷ ns) ps f w n (inr i) =
      all_covered lefts ns ps (λ v j. f v (inr j)) (Within-right sides (found_pairs (find_method m.name lefts) m) (all_pairs lefts ns) ps w) n i

  asks : (q : Pair) → AreObjects q → ((n : Signature TypeRef) → In n (methods_of p scope q.1) → IsMet p scope mode (find_method n.name (methods_of p scope q.0)) n) →
      (cs : List UnfoldedPair) → cs ≡ all_pairs (methods_of p scope q.0) (methods_of p scope q.1) → Asks p scope mode q cs
  unfolding Leading
  asks q both f cs e = record {
    steps = λ c i.
        let P : List UnfoldedPair → Type 0 = λ l. In c l in
        let r = all_from (methods_of p scope q.0) (methods_of p scope q.1) c (subst P e i) in
        let l = pair_leads r.2 r.0 c r.4 in
        record { left = r.2; right = r.0; found = r.3; asked = r.1; named = l.0; leads = l.1 };
    closes = λ ps w.
        let P : List UnfoldedPair → Type 0 = λ l. Within (map sides l) ps in
        inr (both.0, both.1, all_covered (methods_of p scope q.0) (methods_of p scope q.1) ps f (subst P e w));
  }

  fault : (q : Pair) (n : Signature TypeRef) → AreObjects q → In n (methods_of p scope q.1) →
      (o : Option (Signature TypeRef)) → o ≡ find_method n.name (methods_of p scope q.0) → (c : Cause) → FaultOf p scope mode o n c → FailsBy p scope mode q c
  fault q n both i None e Base f = absurd f
  fault q n both i None e (MissingMethod name) f = (both, (n, i, f, sym e))
  fault q n both i None e (Arity name) f = absurd f
  fault q n both i None e (Effect name a) f = absurd f
  fault q n both i (Some m) e Base f = absurd f
  fault q n both i (Some m) e (MissingMethod name) f = absurd f
  fault q n both i (Some m) e (Arity name) f = (both, (n, i, f.0, (m, sym e, f.1)))
  fault q n both i (Some m) e (Effect name a) f =
      (f.1.0, (both, (n, i, f.0, (m, sym e, f.1.1))))

  pub is_unfolded : (s t : TypeRef) → IsObject s → IsObject t → (lefts rights : List (Signature TypeRef)) → lefts ≡ methods_of p scope s → rights ≡ methods_of p scope t →
      (u : Unfolding) → AreMet p scope mode lefts rights u → IsUnfolded p scope mode (s, t) u
  is_unfolded s t os ot lefts rights el er (Fails c) h =
      let P : List (Signature TypeRef) → Type 0 = λ l. FaultOf p scope mode (find_method h.0.name l) h.0 c in
      let Q : List (Signature TypeRef) → Type 0 = λ l. In h.0 l in
      fault (s, t) h.0 (os, ot) (subst Q er h.1) (find_method h.0.name (methods_of p scope s)) refl c (subst P el h.2)
  is_unfolded s t os ot lefts rights el er (Closed cs) h =
      let P : List (Signature TypeRef) → List (Signature TypeRef) → Type 0 = λ l r. (cs ≡ all_pairs l r) × ((n : Signature TypeRef) → In n r → IsMet p scope mode (find_method n.name l) n) in
      let P1 : List (Signature TypeRef) → Type 0 = λ l. P l rights in
      let P2 : List (Signature TypeRef) → Type 0 = λ r. P (methods_of p scope s) r in
      let g : P (methods_of p scope s) (methods_of p scope t) = subst P2 er (subst P1 el h) in
      asks (s, t) (os, ot) g.1 cs g.0
