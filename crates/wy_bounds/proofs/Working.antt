-- The table of what a type reaches: what an addition keeps, and what stands at the end.
use Rattle.std.proofs.Common.{◌≡◌, ℕ, zero, suc, ◌+◌, ◌<◌, ◌≤◌, List, [], ◌∷◌, ◌++◌, map, reverse, ◌⊎◌, inl, inr, length, refl, sym, ap, ◌∙◌, subst, arith, Some, append_assoc, append-nil, Bool as Truth, true, false, add-zero, zero-add}
use Rattle.std.specs.Prelude.{slice_get, not}
use Rattle.std.proofs.lemmas.List.{reverse-append, length-map, map-append}
use Rattle.std.proofs.lemmas.Bool.{cases_lt}
use Rattle.std.proofs.lemmas.Option.{slice_get_within}
use Rattle.wy_text.specs.Members.{In, Within, Apart}
use Rattle.wy_text.proofs.Lists.{In-left, In-right, In-cases, In-map, In-unmap, In-at, In-slice_get, Apart-push}
use Rattle.wy_types.specs.declared.types.TypeRef.{TypeRef}
use Rattle.wy_types.specs.declared.path.Part.{Part}
use Rattle.wy_types.specs.declared.path.Part.TheVariants.{Parameter, Result}
use Rattle.wy_types.specs.declared.path.Step.{Step}
use Rattle.wy_types.specs.Program.{Program}
use Rattle.wy_types.specs.Signature.{Signature}
use Rattle.wy_types.specs.Types.{methods_of}
use Rattle.wy_types.specs.Paths.{IsPartOf, Goes, Walks, turned, is_positive, Reaches}
use Rattle.wy_types.specs.Fitting.{IsTypeOf}
use Rattle.wy_types.specs.InRange.{IsInRange}
use Rattle.wy_types.proofs.Annotating.{is_positive-snoc, Reaches-more, relative}
use Rattle.wy_types.proofs.Finite.{marked_bound, length-le-marked_bound}
use Rattle.wy_types.proofs.Kept.{Fits-goes}
use Rattle.wy_types.proofs.Reaching.{walks_more}
use Rattle.wy_bounds.specs.declared.entry.Entry.{Entry}
use Rattle.wy_bounds.specs.Table.{Mark, mark_of, marks, IsAdded, AreAdded}
use Rattle.wy_bounds.specs.Worklist.{param_entries, method_entries, all_entries, IsLinked, IsSeen, Extends, IsDone, Begins, IsWork, Advances, IsWhole, Traces, GoesBack}

slice_get-left : {X : Type 0} (xs ys : List X) (k : ℕ) (x : X) → slice_get xs k ≡ Some x → slice_get (xs ++ ys) k ≡ Some x
slice_get-left [] ys k x e = absurd (cc)
slice_get-left (y ∷ xs) ys zero x e = e
slice_get-left (y ∷ xs) ys (suc k) x e = slice_get-left xs ys k x e

slice_get-push : {X : Type 0} (xs : List X) (y : X) (k : ℕ) (x : X) → slice_get (xs ++ y ∷ []) k ≡ Some x → (slice_get xs k ≡ Some x) ⊎ ((k ≡ length xs) × (y ≡ x))
slice_get-push [] y zero x e = inr (refl, cc)
slice_get-push [] y (suc k) x e = absurd (cc)
slice_get-push (z ∷ xs) y zero x e = inl e
slice_get-push (z ∷ xs) y (suc k) x e =
    elim (slice_get-push xs y k x e) [ inl f ↦ inl f | inr f ↦ inr (ap suc f.0, f.1) ]

slice_get-within : {X : Type 0} (xs : List X) (k : ℕ) → k < length xs → (x : X) × (slice_get xs k ≡ Some x)
slice_get-within [] k h = absurd (omega arith)
slice_get-within (x ∷ xs) zero h = (x, refl)
slice_get-within (x ∷ xs) (suc k) h = slice_get-within xs k (omega arith)

------------------------------------------------------------
-- What an entry goes to

-- the step by which one of the entries comes from a type with these methods, at this polarity
abbrev ComesBy : ℕ → Truth → List (Signature TypeRef) → Entry → Type 0
ComesBy at b ms c = (c.parent ≡ at) × (turned c.step.part b ≡ c.positive) × ((m : Signature TypeRef) × In m ms × (m.name ≡ c.step.method) × IsPartOf TypeRef (λ t. []) m c.step.part c.typ)

params_come : (at : ℕ) (b : Truth) (name : List ℕ) (k : ℕ) (ts : List TypeRef) (c : Entry) → In c (param_entries at b name k ts) →
    (c.parent ≡ at) × (c.positive ≡ not b) × ((i : ℕ) × (slice_get ts i ≡ Some c.typ) × (c.step ≡ record { method = name; part = Parameter (k + i) }))
params_come at b name k [] c i = absurd i
params_come at b name k (t ∷ ts) c (inl e) =
    (ap (λ (d : Entry). d.parent) (sym e), ap (λ (d : Entry). d.positive) (sym e), (0, ap (λ (d : Entry). Some d.typ) e, rw add-zero (ap (λ (d : Entry). d.step) (sym e))))
params_come at b name k (t ∷ ts) c (inr i) =
    let r = params_come at b name (k + 1) ts c i in
    let q : k + 1 + r.2.0 ≡ k + suc r.2.0 = omega arith in
    (r.0, r.1, (suc r.2.0, r.2.1, r.2.2 ∙ ap (λ j. record { method = name; part = Parameter j }) q))

method_comes : (at : ℕ) (b : Truth) (ms : List (Signature TypeRef)) (m : Signature TypeRef) (c : Entry) → In m ms → In c (method_entries at b m) → ComesBy at b ms c
method_comes at b ms m c i j =
    elim (In-cases c (param_entries at b m.name 0 m.params) (record { typ = m.result; positive = b; parent = at; step = record { method = m.name; part = Result } } ∷ []) j) [
      | inl k ↦
          let r = params_come at b m.name 0 m.params c k in
          let s : Step = record { method = m.name; part = Parameter r.2.0 } in
          let step : s ≡ c.step = rw zero-add at (sym r.2.2) in
          let P : Step → Type 0 = λ v. turned v.part b ≡ c.positive in
          let Q : Step → Type 0 = λ v. (n : Signature TypeRef) × In n ms × (n.name ≡ v.method) × IsPartOf TypeRef (λ t. []) n v.part c.typ in
          let here : Q s = (m, i, refl, r.2.1) in
          (r.0, subst P step (sym r.1), subst Q step here)
      | inr k ↦ elim k [
        | inl e ↦ (let P : Entry → Type 0 = λ v. ComesBy at b ms v in subst P e (refl, refl, (m, i, refl, refl)))
        | inr z ↦ absurd z
      ]
    ]

all_come : (at : ℕ) (b : Truth) (whole ms : List (Signature TypeRef)) (c : Entry) → Within ms whole → In c (all_entries at b ms) → ComesBy at b whole c
all_come at b whole [] c w i = absurd i
all_come at b whole (m ∷ ms) c w i =
    elim (In-cases c (method_entries at b m) (all_entries at b ms) i) [
      | inl j ↦ method_comes at b whole m c (w m (inl refl)) j
      | inr j ↦ all_come at b whole ms c (λ n k. w n (inr k)) j
    ]

-- each part of a method is among the entries, at its polarity
In-params : (at : ℕ) (b : Truth) (name : List ℕ) (k i : ℕ) (ts : List TypeRef) (u : TypeRef) → slice_get ts i ≡ Some u → In {X = Mark} (u, not b) (marks (param_entries at b name k ts))
In-params at b name k i [] u e = absurd (cc)
In-params at b name k zero (t ∷ ts) u e = inl (let f : t ≡ u = cc in ap (λ (v : TypeRef). let m : Mark = (v, not b) in m) f)
In-params at b name k (suc i) (t ∷ ts) u e = inr (In-params at b name (k + 1) i ts u e)

In-method : (at : ℕ) (b : Truth) (m : Signature TypeRef) (part : Part) (u : TypeRef) → IsPartOf TypeRef (λ t. []) m part u → In {X = Mark} (u, turned part b) (marks (method_entries at b m))
In-method at b m Result u e =
    let last : List Entry = record { typ = m.result; positive = b; parent = at; step = record { method = m.name; part = Result } } ∷ [] in
    let P : List Mark → Type 0 = λ l. In {X = Mark} (u, b) l in
    subst P (sym (map-append mark_of (param_entries at b m.name 0 m.params) last))
    (In-right {X = Mark} (u, b) (marks (param_entries at b m.name 0 m.params)) (marks last) (inl (ap (λ (v : TypeRef). let x : Mark = (v, b) in x) e)))
In-method at b m (Parameter i) u e =
    let last : List Entry = record { typ = m.result; positive = b; parent = at; step = record { method = m.name; part = Result } } ∷ [] in
    let P : List Mark → Type 0 = λ l. In {X = Mark} (u, not b) l in
    subst P (sym (map-append mark_of (param_entries at b m.name 0 m.params) last))
    (In-left {X = Mark} (u, not b) (marks (param_entries at b m.name 0 m.params)) (marks last) (In-params at b m.name 0 i m.params u e))

In-all : (at : ℕ) (b : Truth) (ms : List (Signature TypeRef)) (m : Signature TypeRef) (part : Part) (u : TypeRef) → In m ms → IsPartOf TypeRef (λ t. []) m part u → In {X = Mark} (u, turned part b) (marks (all_entries at b ms))
In-all at b [] m part u i e = absurd i
In-all at b (n ∷ ms) m part u i e =
    let P : List Mark → Type 0 = λ l. In {X = Mark} (u, turned part b) l in
    let split : marks (all_entries at b (n ∷ ms)) ≡ marks (method_entries at b n) ++ marks (all_entries at b ms) = map-append mark_of (method_entries at b n) (all_entries at b ms) in
    subst P (sym split) (elim i [
      | inl same ↦
          let Q : Signature TypeRef → Type 0 = λ v. In {X = Mark} (u, turned part b) (marks (method_entries at b v)) in
          In-left {X = Mark} (u, turned part b) (marks (method_entries at b n)) (marks (all_entries at b ms)) (subst Q (sym same) (In-method at b m part u e))
      | inr j ↦ In-right {X = Mark} (u, turned part b) (marks (method_entries at b n)) (marks (all_entries at b ms)) (In-all at b ms m part u j e)
    ])

------------------------------------------------------------
-- The table

pub Extends-get : (a b : List Entry) (k : ℕ) (e : Entry) → Extends a b → slice_get a k ≡ Some e → slice_get b k ≡ Some e
Extends-get a b k e f is = let P : List Entry → Type 0 = λ l. slice_get l k ≡ Some e in subst P (sym f.1) (slice_get-left a f.0 k e is)

Extends-trans : (a b c : List Entry) → Extends a b → Extends b c → Extends a c
Extends-trans a b c f g = (f.0 ++ g.0, g.1 ∙ ap (λ (l : List Entry). l ++ g.0) f.1 ∙ append_assoc a f.0 g.0)

Extends-none : (a b : List Entry) → b ≡ a → Extends a b
Extends-none a b e = ([], e ∙ sym (append-nil a))

Extends-within : (a b : List Entry) → Extends a b → Within (marks a) (marks b)
Extends-within a b f q i =
    let r = In-unmap mark_of q a i in
    let P : List Entry → Type 0 = λ l. In r.0 l in
    let Q : Mark → Type 0 = λ v. In v (marks b) in
    subst Q r.2 (In-map mark_of r.0 b (subst P (sym f.1) (In-left r.0 a f.0 r.1)))

module _ (p : Program) (core : IsInRange p) (scope : ℕ) (t : TypeRef) where
  -- a mark that is new, by a step from an entry
  push_seen : (es : List Entry) (at : ℕ) (e c : Entry) → slice_get es at ≡ Some e → ComesBy at e.positive (methods_of p scope e.typ) c → (In (mark_of c) (marks es) → ⊥) → IsSeen p scope t es → IsSeen p scope t (es ++ c ∷ [])
  push_seen es at e c is by new seen =
      let eq : marks (es ++ c ∷ []) ≡ marks es ++ mark_of c ∷ [] = map-append mark_of es (c ∷ []) in
      let old : In (mark_of e) (marks es) = In-map mark_of e es (In-slice_get es at e is) in
      let goes : Goes TypeRef (methods_of p scope) e.typ c.step c.typ = record { method = by.2.0; has = by.2.1; named = by.2.2; part = by.2.3 } in
      let R : Truth → Type 0 = λ b. Reaches TypeRef (methods_of p scope) t b c.typ in
      let reached : Reaches TypeRef (methods_of p scope) t c.positive c.typ = subst R by.1 (Reaches-more p scope t e.typ c.typ e.positive c.step (seen.reached (mark_of e) old) goes) in
      let fits : IsTypeOf p scope c.typ = Fits-goes p core.signatures scope e.typ c.step c.typ (seen.fits (mark_of e) old) goes in
      let A : List Mark → Type 0 = λ l. Apart l in
      let F : List Mark → Type 0 = λ l. (m : Mark) → In m l → IsTypeOf p scope m.0 in
      let G : List Mark → Type 0 = λ l. (m : Mark) → In m l → Reaches TypeRef (methods_of p scope) t m.1 m.0 in
      let lt : at < length es = slice_get_within es at e is in
      record {
        apart = subst A (sym eq) (Apart-push (mark_of c) (marks es) seen.apart new);
        fits = subst F (sym eq) (λ m i. elim (In-cases m (marks es) (mark_of c ∷ []) i) [
          | inl j ↦ seen.fits m j
          | inr j ↦ elim j [ inl s ↦ (let P : Mark → Type 0 = λ v. IsTypeOf p scope v.0 in subst P s fits) | inr z ↦ absurd z ]
        ]);
        reached = subst G (sym eq) (λ m i. elim (In-cases m (marks es) (mark_of c ∷ []) i) [
          | inl j ↦ seen.reached m j
          | inr j ↦ elim j [ inl s ↦ (let P : Mark → Type 0 = λ v. Reaches TypeRef (methods_of p scope) t v.1 v.0 in subst P s reached) | inr z ↦ absurd z ]
        ]);
        linked = λ k f pos g. elim (slice_get-push es c k f g) [
          | inl there ↦
              let l : IsLinked p scope es k f = seen.linked k f pos there in
              record { parent = l.parent; at = slice_get-left es (c ∷ []) f.parent l.parent l.at; before = l.before; goes = l.goes; turns = l.turns }
          | inr here ↦
              let L : Entry → Type 0 = λ v. IsLinked p scope (es ++ c ∷ []) k v in
              let H : ℕ → Type 0 = λ j. slice_get (es ++ c ∷ []) j ≡ Some e in
              let link : IsLinked p scope (es ++ c ∷ []) k c = record {
                parent = e;
                at = subst H (sym by.0) (slice_get-left es (c ∷ []) at e is);
                before = (let q : c.parent ≡ at = by.0 in omega (arith, here.0, lt, q));
                goes = goes;
                turns = by.1;
              } in
              subst L here.1 link
        ];
      }

  one_added : (es new : List Entry) (at : ℕ) (e c : Entry) → slice_get es at ≡ Some e → ComesBy at e.positive (methods_of p scope e.typ) c → IsSeen p scope t es → IsAdded es c new →
      IsSeen p scope t new × Extends es new × In (mark_of c) (marks new)
  one_added es new at e c is by seen (inl h) =
      let S : List Entry → Type 0 = λ l. IsSeen p scope t l in
      let I : List Entry → Type 0 = λ l. In (mark_of c) (marks l) in
      (subst S (sym h.1) seen, Extends-none es new h.1, subst I (sym h.1) h.0)
  one_added es new at e c is by seen (inr h) =
      let S : List Entry → Type 0 = λ l. IsSeen p scope t l in
      let I : List Entry → Type 0 = λ l. In (mark_of c) (marks l) in
      (subst S (sym h.1) (push_seen es at e c is by h.0 seen), (c ∷ [], h.1), subst I (sym h.1) (In-map mark_of c (es ++ c ∷ []) (In-right c es (c ∷ []) (inl refl))))

  all_added : (cs : List Entry) (es new : List Entry) (at : ℕ) (e : Entry) → slice_get es at ≡ Some e → ((c : Entry) → In c cs → ComesBy at e.positive (methods_of p scope e.typ) c) → IsSeen p scope t es → AreAdded es cs new →
      IsSeen p scope t new × Extends es new × Within (marks cs) (marks new)
  all_added [] es new at e is by seen h =
      let S : List Entry → Type 0 = λ l. IsSeen p scope t l in
      (subst S (sym h) seen, Extends-none es new h, λ q i. absurd i)
  all_added (c ∷ cs) es new at e is by seen h =
      let one = one_added es h.0 at e c is (by c (inl refl)) seen h.1 in
      let rest = all_added cs h.0 new at e (Extends-get es h.0 at e one.1 is) (λ d i. by d (inr i)) one.0 h.2 in
      let P : Mark → Type 0 = λ v. In v (marks new) in (
        rest.0,
        Extends-trans es h.0 new one.1 rest.1,
        λ q i. elim i [ inl s ↦ subst P s (Extends-within h.0 new rest.1 (mark_of c) one.2) | inr j ↦ rest.2 q j ],
      )

  -- the entry at a place was worked off
  pub advances : (cs es new : List Entry) (at : ℕ) (e : Entry) → slice_get es at ≡ Some e → cs ≡ all_entries at e.positive (methods_of p scope e.typ) → AreAdded es cs new → IsSeen p scope t es → Advances p scope t es new at
  advances cs es new at e is same h seen =
      let ms : List (Signature TypeRef) = methods_of p scope e.typ in
      let P : List Entry → Type 0 = λ l. AreAdded es l new in
      let r = all_added (all_entries at e.positive ms) es new at e is (λ c i. all_come at e.positive ms ms c (λ m j. j) i) seen (subst P same h) in
      record {
        seen = r.0;
        extends = r.1;
        done = λ f g s u goes.
            let there : Some e ≡ Some f = sym (Extends-get es new at e r.1 is) ∙ g in
            let equal : e ≡ f = cc in
            let Q : Entry → Type 0 = λ v. Goes TypeRef (methods_of p scope) v.typ s u → In {X = Mark} (u, turned s.part v.positive) (marks new) in
            subst Q equal (λ go. r.2 (u, turned s.part e.positive) (In-all at e.positive ms go.method s.part u go.has go.part)) goes;
      }

  -- the first entry
  pub work_start : (e : Entry) (es : List Entry) → IsTypeOf p scope t → e.typ ≡ t → e.positive ≡ true → IsAdded [] e es → IsWork p scope t es 0
  work_start e es fits typ positive (inl h) = absurd h.0
  work_start e es fits typ positive (inr h) =
      let W : List Entry → Type 0 = λ l. IsWork p scope t l 0 in
      let mark : mark_of e ≡ (t, true) = ap (λ (v : TypeRef). let x : Mark = (v, e.positive) in x) typ ∙ ap (λ (b : Truth). let x : Mark = (t, b) in x) positive in
      let one : IsWork p scope t (e ∷ []) 0 = record {
        seen = record {
          apart = (λ i. i, tt);
          fits = λ m i. elim i [ inl s ↦ (let P : Mark → Type 0 = λ v. IsTypeOf p scope v.0 in subst P (sym mark ∙ s) fits) | inr z ↦ absurd z ];
          reached = λ m i. elim i [ inl s ↦ (let P : Mark → Type 0 = λ v. Reaches TypeRef (methods_of p scope) t v.1 v.0 in subst P (sym mark ∙ s) ([], refl, refl)) | inr z ↦ absurd z ];
          linked = λ k f pos g. absurd (single k f pos g);
        };
        begins = (e, refl, mark);
        within = omega arith;
        done = λ k lt. absurd (omega arith);
      } in
      subst W (sym h.1) one
    where
      single : (k : ℕ) (f : Entry) → 0 < k → slice_get (e ∷ []) k ≡ Some f → ⊥
      single zero f pos g = omega arith
      single (suc k) f pos g = cc

  pub work_more : (old new : List Entry) (k : ℕ) → k < length old → IsWork p scope t old k → Advances p scope t old new k → IsWork p scope t new (k + 1)
  work_more old new k lt work adv = record {
    seen = adv.seen;
    begins = (work.begins.0, Extends-get old new 0 work.begins.0 adv.extends work.begins.1, work.begins.2);
    within =
        (let r = slice_get-within old k lt in
        let s : slice_get new k ≡ Some r.0 = Extends-get old new k r.0 adv.extends r.1 in
        let l : k < length new = slice_get_within new k r.0 s in omega arith);
    done = λ j h e g. elim (cases_lt j k) [
      | inl less ↦ earlier j less e g
      | inr ge ↦
          let same : k ≡ j = omega arith in
          let P : ℕ → Type 0 = λ i. slice_get new i ≡ Some e in
          adv.done e (subst P (sym same) g)
    ];
  }
    where
      earlier : (j : ℕ) → j < k → IsDone p scope new j
      earlier j less e g s u goes =
          let r = slice_get-within old j (omega arith) in
          let f : Some r.0 ≡ Some e = sym (Extends-get old new j r.0 adv.extends r.1) ∙ g in
          let same : r.0 ≡ e = cc in
          let P : Entry → Type 0 = λ v. Goes TypeRef (methods_of p scope) v.typ s u → In {X = Mark} (u, turned s.part v.positive) (marks new) in
          subst P same (λ go. Extends-within old new adv.extends (u, turned s.part r.0.positive) (work.done j less r.0 r.1 s u go)) goes

  -- the table is no longer than the types in range, each at two polarities, so the work ends
  pub work_left : (es : List Entry) (k : ℕ) → k < length es → IsWork p scope t es k → k < marked_bound p scope
  work_left es k lt work =
      let l : length (marks es) ≤ marked_bound p scope = length-le-marked_bound p scope (marks es) work.seen.apart work.seen.fits in
      let m : length (marks es) ≡ length es = length-map es mark_of in
      omega arith

------------------------------------------------------------
-- The end

relative-turned-first : (c : Truth) (part : Part) (b : Truth) → relative (turned part c) b ≡ relative c (turned part b)
relative-turned-first true Result b = refl
relative-turned-first false Result b = refl
relative-turned-first true (Parameter i) b = refl
relative-turned-first false (Parameter i) true = refl
relative-turned-first false (Parameter i) false = refl

module _ (p : Program) (scope : ℕ) (es : List Entry) (closed : (e : Entry) → In e es → (s : Step) (u : TypeRef) → Goes TypeRef (methods_of p scope) e.typ s u → In {X = Mark} (u, turned s.part e.positive) (marks es)) where
  walk_in : (path : List Step) (x : Mark) (u : TypeRef) → In x (marks es) → Walks TypeRef (methods_of p scope) x.0 path u → In {X = Mark} (u, relative x.1 (is_positive path)) (marks es)
  walk_in [] x u i walk =
      let r : relative x.1 true ≡ x.1 = relative-none x.1 in
      let P : Mark → Type 0 = λ v. In v (marks es) in
      subst P (ap (λ (v : TypeRef). let m : Mark = (v, x.1) in m) walk ∙ ap (λ (b : Truth). let m : Mark = (u, b) in m) (sym r)) i
    where
      relative-none : (b : Truth) → relative b true ≡ b
      relative-none true = refl
      relative-none false = refl
  walk_in (s ∷ path) x u i walk =
      let r = In-unmap mark_of x es i in
      let P : Mark → Type 0 = λ v. Goes TypeRef (methods_of p scope) v.0 s walk.0 → In {X = Mark} (walk.0, turned s.part v.1) (marks es) in
      let next : In {X = Mark} (walk.0, turned s.part x.1) (marks es) = subst P r.2 (closed r.0 r.1 s walk.0) walk.1 in
      let Q : Truth → Type 0 = λ b. In {X = Mark} (u, b) (marks es) in
      subst Q (relative-turned-first x.1 s.part (is_positive path)) (walk_in path (walk.0, turned s.part x.1) u next walk.2)

pub work_all : (p : Program) (scope : ℕ) (t : TypeRef) (es : List Entry) (k : ℕ) → length es ≤ k → IsWork p scope t es k → IsWhole p scope t es
work_all p scope t es k le work =
    let closed : (e : Entry) → In e es → (s : Step) (u : TypeRef) → Goes TypeRef (methods_of p scope) e.typ s u → In {X = Mark} (u, turned s.part e.positive) (marks es) =
    λ e i. (let r = In-at e es i in work.done r.0 (omega (arith, r.1)) e r.2) in
    let b = work.begins in
    let P : Mark → Type 0 = λ v. In v (marks es) in
    let first : In {X = Mark} (t, true) (marks es) = subst P b.2 (In-map mark_of b.0 es (In-slice_get es 0 b.0 b.1)) in
    record {
      seen = work.seen;
      begins = work.begins;
      whole = λ positive u r.
          let Q : Truth → Type 0 = λ c. In {X = Mark} (u, c) (marks es) in
          subst Q r.2 (walk_in p scope es closed r.0 (t, true) u first r.1);
    }

pub goes_back : (p : Program) (scope : ℕ) (t : TypeRef) (es : List Entry) → IsSeen p scope t es → GoesBack es
goes_back p scope t es seen k e pos g = (seen.linked k e pos g).before

-- a step back
pub traces_step : (es : List Entry) (k at : ℕ) (e : Entry) (path new : List Step) → 0 < k → slice_get es k ≡ Some e → new ≡ path ++ e.step ∷ [] →
    ((rest : List Step) → Traces es k rest → Traces es at (path ++ rest)) → (rest : List Step) → Traces es e.parent rest → Traces es at (new ++ rest)
traces_step es k at e path new pos is eq inv rest r =
    let P : List Step → Type 0 = λ l. Traces es at l in
    subst P (sym (ap (λ (l : List Step). l ++ rest) eq ∙ append_assoc path (e.step ∷ []) rest)) (inv (e.step ∷ rest) (e, is, pos, refl, r))

-- the steps back from an entry are a path to it, of its polarity
pub traces_lead : (p : Program) (scope : ℕ) (t : TypeRef) (es : List Entry) → IsSeen p scope t es → Begins t es → (steps : List Step) (at : ℕ) (e : Entry) → slice_get es at ≡ Some e → Traces es at steps →
    Walks TypeRef (methods_of p scope) t (reverse steps) e.typ × (is_positive (reverse steps) ≡ e.positive)
traces_lead p scope t es seen b [] at e is r =
    let first : slice_get es 0 ≡ Some e = ap (λ j. slice_get es j) (sym r) ∙ is in
    let same : b.0 ≡ e = cc in
    let mark : mark_of e ≡ (t, true) = ap mark_of (sym same) ∙ b.2 in
    (ap (λ (v : Mark). v.0) (sym mark), ap (λ (v : Mark). v.1) (sym mark))
traces_lead p scope t es seen b (s ∷ rest) at e is r =
    let same : r.0 ≡ e = (let f : Some r.0 ≡ Some e = sym r.1 ∙ is in cc) in
    let link : IsLinked p scope es at e = seen.linked at e r.2 is in
    let up : r.0.parent ≡ e.parent = ap (λ (x : Entry). x.parent) same in
    let P : ℕ → Type 0 = λ j. Traces es j rest in
    let ih = traces_lead p scope t es seen b rest e.parent link.parent link.at (subst P up r.4) in
    let step : e.step ≡ s = ap (λ (x : Entry). x.step) (sym same) ∙ r.3 in
    let Q : List Step → Type 0 = λ l. Walks TypeRef (methods_of p scope) t l e.typ × (is_positive l ≡ e.positive) in
    let R : Step → Type 0 = λ v. Q (reverse rest ++ v ∷ []) in
    let here : Q (reverse rest ++ e.step ∷ []) = (
      walks_more TypeRef (methods_of p scope) (reverse rest) e.step t link.parent.typ e.typ ih.0 link.goes,
      is_positive-snoc (reverse rest) e.step ∙ ap (turned e.step.part) ih.1 ∙ link.turns,
    ) in
    subst Q (sym (reverse-append (s ∷ []) rest)) (subst R step here)
