-- The list of pairs: what a step back, an addition and a test keep, and what stands at the end.
use Rattle.std.proofs.Common.{◌≡◌, ℕ, suc, ◌+◌, ◌<◌, ◌≤◌, List, [], ◌∷◌, ◌++◌, map, reverse, ◌⊎◌, inl, inr, length, refl, sym, ap, ◌∙◌, subst, arith, Option, Some, true, append_assoc, append-nil}
use Rattle.std.specs.Prelude.{slice_get, ◌↔◌}
use Rattle.std.proofs.lemmas.List.{reverse-append, length-map, map-append}
use Rattle.std.proofs.lemmas.Bool.{cases_lt}
use Rattle.std.proofs.lemmas.Option.{slice_get_within}
use Rattle.wy_text.specs.Members.{In, Within, Apart}
use Rattle.wy_text.proofs.Lists.{In-left, In-right, In-cases, In-map, In-unmap, In-at, In-slice_get, Apart-push}
use Rattle.wy_effects.specs.Bounds.{IsWithin}
use Rattle.wy_types.specs.declared.types.TypeRef.{TypeRef}
use Rattle.wy_types.specs.declared.types.TypeRef.TheVariants.{Int, Bool, Text, Unit as Nothing}
use Rattle.wy_types.specs.declared.path.Part.{Part}
use Rattle.wy_types.specs.declared.path.Part.TheVariants.{Parameter, Result}
use Rattle.wy_types.specs.declared.path.Step.{Step}
use Rattle.wy_types.specs.Program.{Program}
use Rattle.wy_types.specs.Signature.{Signature, find_method}
use Rattle.wy_types.specs.Types.{IsObject, methods_of}
use Rattle.wy_types.specs.Fitting.{FitsSignature, IsTypeOf, own_count}
use Rattle.wy_types.specs.Subtyping.{ParamsIn, Covers, HasCover, IsSubtype, LeadsBy}
use Rattle.wy_types.proofs.Closing.{find_in, closed_path, IsClosed-more}
use Rattle.wy_types.proofs.Finite.{pair_bound, length-le-pair_bound, Fits-methods}
use Rattle.wy_types.proofs.Reaching.{no_methods}
use Rattle.wy_subtype.specs.declared.verdict.Mode.{Mode}
use Rattle.wy_subtype.specs.declared.verdict.Mode.TheVariants.{Annotated, Plain}
use Rattle.wy_subtype.specs.declared.verdict.Cause.{Cause}
use Rattle.wy_subtype.specs.declared.verdict.Cause.TheVariants.{MissingMethod, Arity, Base, Effect}
use Rattle.wy_subtype.specs.declared.verdict.Verdict.{Verdict}
use Rattle.wy_subtype.specs.declared.verdict.Verdict.TheVariants.{Yes, No}
use Rattle.wy_subtype.specs.declared.entry.Entry.{Entry}
use Rattle.wy_types.specs.InRange.{IsInRange}
use Rattle.wy_types.specs.Bounds.{bounds_of}
use Rattle.wy_subtype.specs.Verdict.{IsSubtypeIn, Closes, LeadsTo, AreObjects, FailsBy, FailsAt, IsVerdict, IsYes, is_yes}
use Rattle.wy_subtype.specs.Steps.{Pair, Allows, StepsTo}
use Rattle.wy_subtype.specs.Nodes.{base_pairs, pair_at, HasStep, IsAsking}
use Rattle.wy_subtype.specs.Work.{entry_node, entry_of, IsAdded, AreAdded}
use Rattle.wy_subtype.specs.Decided.{About}
use Rattle.wy_subtype.specs.Worklist.{Met, met_pair, pairs, met_by, mets, IsLinked, IsSeen, Extends, IsSettled, Advances, MetFails, BeginsWith, IsWork, Traces, IsPathTo}
use Rattle.wy_subtype.proofs.Places.{slice_get-left, slice_get-push, slice_get-within}
use Rattle.wy_subtype.proofs.Knowing.{same_number, pair_at-is}

-- a step back
pub traces_step : (program : Program) (scope : ℕ) (mode : Mode) (ms : List Met) (k at : ℕ) (m parent : Met) (s : Step) (path new : List Step) → slice_get ms k ≡ Some m → slice_get ms m.parent ≡ Some parent →
    StepsTo program scope mode parent.pair s m.pair → new ≡ path ++ s ∷ [] → ((rest : List Step) → Traces program scope mode ms k rest → Traces program scope mode ms at (path ++ rest)) →
    (rest : List Step) → Traces program scope mode ms m.parent rest → Traces program scope mode ms at (new ++ rest)
traces_step program scope mode ms k at m parent s path new is up step e inv rest t =
    let P : List Step → Type 0 = λ l. Traces program scope mode ms at l in
    subst P (sym (append_assoc path (s ∷ []) rest) ∙ ap (λ (l : List Step). l ++ rest) (sym e)) (inv (s ∷ rest) (m, parent, is, up, step, t))

pub Leads-snoc : (program : Program) (scope : ℕ) (mode : Mode) (path : List Step) (p q r : Pair) (s : Step) → LeadsTo program scope mode p path q → StepsTo program scope mode q s r → LeadsTo program scope mode p (path ++ s ∷ []) r
Leads-snoc program scope mode [] p q r s l step =
    let P : TypeRef → Type 0 = λ v. StepsTo program scope mode (v, q.1) s r in
    let Q : TypeRef → Type 0 = λ v. StepsTo program scope mode (p.0, v) s r in
    (r, subst Q (sym l.1) (subst P (sym l.0) step), (refl, refl))
Leads-snoc program scope mode (x ∷ path) p q r s l step = (l.0, l.1, Leads-snoc program scope mode path l.0 q r s l.2 step)

pub traces_lead : (program : Program) (scope : ℕ) (mode : Mode) (ms : List Met) (p : Pair) → BeginsWith p ms → (steps : List Step) (at : ℕ) (m : Met) → slice_get ms at ≡ Some m → Traces program scope mode ms at steps →
    LeadsTo program scope mode p (reverse steps) m.pair
traces_lead program scope mode ms p b [] at m is t =
    let zero' : slice_get ms 0 ≡ Some m = ap (λ j. slice_get ms j) (sym t) ∙ is in
    let same : b.0 ≡ m = cc in
    let at_first : ◌≡◌ {A = Pair} p m.pair = sym b.2 ∙ ap met_pair same in
    (ap (λ (v : Pair). v.0) at_first, ap (λ (v : Pair). v.1) at_first)
traces_lead program scope mode ms p b (s ∷ rest) at m is t =
    let same : t.0 ≡ m = (let f : Some t.0 ≡ Some m = sym t.2 ∙ is in cc) in
    let ih : LeadsTo program scope mode p (reverse rest) (met_pair t.1) = traces_lead program scope mode ms p b rest t.0.parent t.1 t.3 t.5 in
    let Q : Met → Type 0 = λ v. StepsTo program scope mode (met_pair t.1) s v.pair in
    let R : List Step → Type 0 = λ l. LeadsTo program scope mode p l m.pair in
    subst R (sym (reverse-append (s ∷ []) rest)) (Leads-snoc program scope mode (reverse rest) p (met_pair t.1) m.pair s ih (subst Q same t.4))

pub fails_at : (program : Program) (scope : ℕ) (mode : Mode) (ms : List Met) (p : Pair) → BeginsWith p ms → (path : List Step) (at : ℕ) (c : Cause) →
    MetFails program scope mode ms at c → IsPathTo program scope mode ms at path → FailsAt program scope mode p path c
fails_at program scope mode ms p b path at c f t =
    let P : List Step → Type 0 = λ l. LeadsTo program scope mode p l (met_pair f.0) in
    (met_pair f.0, subst P (sym t.turned) (traces_lead program scope mode ms p b t.back at f.0 f.1 t.traces), f.2)

-- both sides are in range
abbrev FitsPair : Program → ℕ → Pair → Type 0
FitsPair program scope p = IsTypeOf program scope p.0 × IsTypeOf program scope p.1

Fits-leads : (program : Program) (scope : ℕ) (mode : Mode) (left right : Signature TypeRef) (part : Part) (q : Pair) → FitsSignature program 512 (own_count program scope) left → FitsSignature program 512 (own_count program scope) right →
    LeadsBy TypeRef (methods_of program scope) IsObject (Allows program scope mode) left right part q → FitsPair program scope q
Fits-leads program scope mode left right Result q f g l =
    let P : TypeRef → Type 0 = λ v. IsTypeOf program scope v in
    (subst P (sym l.0) f.result, subst P (sym l.1) g.result)
Fits-leads program scope mode left right (Parameter i) q f g l =
    (g.params q.0 (In-slice_get right.params i q.0 l.0), f.params q.1 (In-slice_get left.params i q.1 l.1))

Fits-step : (program : Program) (core : IsInRange program) (scope : ℕ) (mode : Mode) (p : Pair) (s : Step) (q : Pair) → FitsPair program scope p → StepsTo program scope mode p s q → FitsPair program scope q
Fits-step program core scope mode p s q f step =
    let w = core.signatures in
    Fits-leads program scope mode step.left step.right s.part q
    (Fits-methods program w scope p.0 f.0 step.left (find_in step.right.name (methods_of program scope p.0) step.left step.found))
    (Fits-methods program w scope p.1 f.1 step.right step.asked)
    step.leads

module _ (program : Program) (core : IsInRange program) (scope : ℕ) (mode : Mode) where
  -- a pair that is new, by a step from one that was met
  push_seen : (ms : List Met) (at : ℕ) (p : Met) (q : Pair) (s : Step) → slice_get ms at ≡ Some p → StepsTo program scope mode p.pair s q → (In q (pairs ms) → ⊥) → IsSeen program scope mode ms →
      IsSeen program scope mode (ms ++ record { pair = q; parent = at } ∷ [])
  push_seen ms at p q s is step new seen =
      let x : Met = record { pair = q; parent = at } in
      let e : pairs (ms ++ x ∷ []) ≡ pairs ms ++ q ∷ [] = map-append met_pair ms (x ∷ []) in
      let A : List Pair → Type 0 = λ l. Apart l in
      let F : List Pair → Type 0 = λ l. (r : Pair) → In r l → FitsPair program scope r in
      let P : Pair → Type 0 = λ r. FitsPair program scope r in
      record {
        apart = subst A (sym e) (Apart-push q (pairs ms) seen.apart new);
        fits = subst F (sym e) (λ r i.
            elim (In-cases r (pairs ms) (q ∷ []) i) [
              | inl j ↦ seen.fits r j
              | inr j ↦ elim j [
                | inl same ↦ subst P same (Fits-step program core scope mode p.pair s q (seen.fits p.pair (In-map met_pair p ms (In-slice_get ms at p is))) step)
                | inr none ↦ absurd none
              ]
            ]);
        linked = λ k m pos g.
            elim (slice_get-push ms x k m g) [
              | inl old ↦
                  let l : IsLinked program scope mode ms k m = seen.linked k m pos old in
                  record { parent = l.parent; at = slice_get-left ms (x ∷ []) m.parent l.parent l.at; before = l.before; step = l.step; leads = l.leads }
              | inr here ↦
                  let L : Met → Type 0 = λ v. IsLinked program scope mode (ms ++ x ∷ []) k v in
                  let lt : at < length ms = slice_get_within ms at p is in
                  subst L here.1 (record { parent = p; at = slice_get-left ms (x ∷ []) at p is; before = omega (arith, here.0, lt); step = s; leads = step })
            ];
      }

Extends-trans : (a b c : List Met) → Extends a b → Extends b c → Extends a c
Extends-trans a b c f g = (f.0 ++ g.0, g.1 ∙ ap (λ (l : List Met). l ++ g.0) f.1 ∙ append_assoc a f.0 g.0)

pub Extends-get : (a b : List Met) (k : ℕ) (m : Met) → Extends a b → slice_get a k ≡ Some m → slice_get b k ≡ Some m
Extends-get a b k m f is = let P : List Met → Type 0 = λ l. slice_get l k ≡ Some m in subst P (sym f.1) (slice_get-left a f.0 k m is)

pub Extends-within : (a b : List Met) → Extends a b → Within (pairs a) (pairs b)
Extends-within a b f q i =
    let r = In-unmap met_pair q a i in
    let P : List Met → Type 0 = λ l. In r.0 l in
    let Q : Pair → Type 0 = λ v. In v (pairs b) in
    subst Q r.2 (In-map met_pair r.0 b (subst P (sym f.1) (In-left r.0 a f.0 r.1)))

pub Extends-none : (a b : List Met) → b ≡ a → Extends a b
Extends-none a b e = ([], e ∙ sym (append-nil a))

-- the list of a question grows by the numbers that a pair asks for
module _ (about : About) (core : IsInRange about.program) (ps : List Pair) (apart : Apart ps) where
  -- each number has its pair
  abbrev AreIn : List Entry → Type 0
  AreIn es = (e : Entry) → In e es → entry_node e < length ps

  pairs-mets : (es : List Entry) → pairs (mets ps es) ≡ map (pair_at ps) (map entry_node es)
  pairs-mets [] = refl
  pairs-mets (e ∷ es) = ap (λ (l : List Pair). pair_at ps e.node ∷ l) (pairs-mets es)

  -- a number that isn't in the list has a pair that isn't
  new_pair : (es : List Entry) (n : ℕ) → AreIn es → n < length ps → (In n (map entry_node es) → ⊥) → In (pair_at ps n) (pairs (mets ps es)) → ⊥
  new_pair es n within lt new i =
      let P : List Pair → Type 0 = λ l. In (pair_at ps n) l in
      let r = In-unmap (pair_at ps) (pair_at ps n) (map entry_node es) (subst P (pairs-mets es) i) in
      let f = In-unmap entry_node r.0 es r.1 in
      let Q : ℕ → Type 0 = λ v. In v (map entry_node es) in
      let lt' : r.0 < length ps = (let L : ℕ → Type 0 = λ v. v < length ps in subst L f.2 (within f.0 f.1)) in
      new (subst Q (same_number ps apart r.0 n lt' lt r.2) r.1)

  record Added (es new : List Entry) (n : ℕ) : Type 0 where
    seen : IsSeen about.program about.scope about.mode (mets ps new)
    extends : Extends (mets ps es) (mets ps new)
    within : AreIn new
    there : In (pair_at ps n) (pairs (mets ps new))

  added : (es new : List Entry) (at n : ℕ) (p : Met) → slice_get (mets ps es) at ≡ Some p → n < length ps → HasStep about p.pair (pair_at ps n) → IsSeen about.program about.scope about.mode (mets ps es) → AreIn es →
      IsAdded es n at new → Added es new n
  added es new at n p is lt step seen within (inl h) =
      let A : List Entry → Type 0 = λ l. Added es l n in
      let P : List Pair → Type 0 = λ l. In (pair_at ps n) l in
      subst A (sym h.1) (record {
        seen = seen;
        extends = Extends-none (mets ps es) (mets ps es) refl;
        within = within;
        there = subst P (sym (pairs-mets es)) (In-map (pair_at ps) n (map entry_node es) h.0);
      })
  added es new at n p is lt step seen within (inr h) =
      let A : List Entry → Type 0 = λ l. Added es l n in
      let x : Entry = entry_of n at in
      let m : Met = met_by ps x in
      let e : mets ps (es ++ x ∷ []) ≡ mets ps es ++ m ∷ [] = map-append (met_by ps) es (x ∷ []) in
      let S : List Met → Type 0 = λ l. IsSeen about.program about.scope about.mode l in
      let P : List Met → Type 0 = λ l. In (pair_at ps n) (pairs l) in
      subst A (sym h.1) (record {
        seen = subst S (sym e) (push_seen about.program core about.scope about.mode (mets ps es) at p (pair_at ps n) step.0 is step.1 (new_pair es n within lt h.0) seen);
        extends = (m ∷ [], e);
        within = λ f i. elim (In-cases f es (x ∷ []) i) [
          | inl j ↦ within f j
          | inr j ↦ elim j [ inl same ↦ (let L : Entry → Type 0 = λ v. entry_node v < length ps in subst L same lt) | inr none ↦ absurd none ]
        ];
        there = subst P (sym e) (In-map met_pair m (mets ps es ++ m ∷ []) (In-right m (mets ps es) (m ∷ []) (inl refl)));
      })

  record AllAdded (es new : List Entry) (ns : List ℕ) : Type 0 where
    seen : IsSeen about.program about.scope about.mode (mets ps new)
    extends : Extends (mets ps es) (mets ps new)
    within : AreIn new
    there : (n : ℕ) → In n ns → In (pair_at ps n) (pairs (mets ps new))

  all_added : (ns : List ℕ) (es new : List Entry) (at : ℕ) (p : Met) → slice_get (mets ps es) at ≡ Some p → ((n : ℕ) → In n ns → (n < length ps) × HasStep about p.pair (pair_at ps n)) →
      IsSeen about.program about.scope about.mode (mets ps es) → AreIn es → AreAdded es ns at new → AllAdded es new ns
  all_added [] es new at p is steps seen within h =
      let A : List Entry → Type 0 = λ l. AllAdded es l [] in
      subst A (sym h) (record { seen = seen; extends = Extends-none (mets ps es) (mets ps es) refl; within = within; there = λ n i. absurd i })
  all_added (n ∷ ns) es new at p is steps seen within h =
      let s = steps n (inl refl) in
      let one = added es h.0 at n p is s.0 s.1 seen within h.1 in
      let rest = all_added ns h.0 new at p (Extends-get (mets ps es) (mets ps h.0) at p one.extends is) (λ k i. steps k (inr i)) one.seen one.within h.2 in
      let P : ℕ → Type 0 = λ v. In (pair_at ps v) (pairs (mets ps new)) in
      record {
        seen = rest.seen;
        extends = Extends-trans (mets ps es) (mets ps h.0) (mets ps new) one.extends rest.extends;
        within = rest.within;
        there = λ k i. elim i [ inl e ↦ subst P e (Extends-within (mets ps h.0) (mets ps new) rest.extends (pair_at ps n) one.there) | inr j ↦ rest.there k j ];
      }

  -- a pair that asks for others is settled once these are in the list
  pub advances_asking : (ns : List ℕ) (es new : List Entry) (at : ℕ) (p : Met) → slice_get (mets ps es) at ≡ Some p → IsAsking about ps p.pair ns → IsSeen about.program about.scope about.mode (mets ps es) → AreIn es →
      AreAdded es ns at new → Advances about.program about.scope about.mode (mets ps es) (mets ps new) at × AreIn new
  advances_asking ns es new at p is asks seen within h =
      let steps : (n : ℕ) → In n ns → (n < length ps) × HasStep about p.pair (pair_at ps n) = λ n i.
      let r = asks.steps n i in
      let P : Pair → Type 0 = λ v. HasStep about p.pair v in
      (slice_get_within ps n r.0 r.1, subst P (sym (pair_at-is ps n r.0 r.1)) r.2) in
      let r = all_added ns es new at p is steps seen within h in
      let qs : List Pair = pairs (mets ps new) in
      let closed : Closes about.program about.scope about.mode (qs ++ base_pairs) p.pair = asks.closes (qs ++ base_pairs) (λ x i. In-right x qs base_pairs i) (λ n x i g.
      let P : Pair → Type 0 = λ v. In v (qs ++ base_pairs) in
      subst P (pair_at-is ps n x g) (In-left (pair_at ps n) qs base_pairs (r.there n i))) in (
        record {
          seen = r.seen;
          extends = r.extends;
          done = λ m g.
              let f : Some p ≡ Some m = sym (Extends-get (mets ps es) (mets ps new) at p r.extends is) ∙ g in
              let same : p ≡ m = cc in
              let P : Met → Type 0 = λ v. Closes about.program about.scope about.mode (qs ++ base_pairs) v.pair in
              inr (subst P same closed);
        },
        r.within,
      )

-- a pair that is known to be one of a type and a subtype asks for nothing
pub advances_known : (program : Program) (scope : ℕ) (mode : Mode) (ms new : List Met) (at : ℕ) (p : Met) → slice_get ms at ≡ Some p → IsSubtypeIn program scope mode p.pair.0 p.pair.1 → new ≡ ms → IsSeen program scope mode ms →
    Advances program scope mode ms new at
advances_known program scope mode ms new at p is sub same seen =
    let S : List Met → Type 0 = λ l. IsSeen program scope mode l in
    record {
      seen = subst S (sym same) seen;
      extends = Extends-none ms new same;
      done = λ m g.
          let f : Some p ≡ Some m = sym is ∙ ap (λ (l : List Met). slice_get l at) (sym same) ∙ g in
          let h : p ≡ m = cc in
          let P : Met → Type 0 = λ v. IsSubtypeIn program scope mode v.pair.0 v.pair.1 in
          inl (subst P h sub);
    }

within_more : (qs rs : List Pair) → Within qs rs → Within (qs ++ base_pairs) (rs ++ base_pairs)
within_more qs rs w x i = elim (In-cases x qs base_pairs i) [ inl j ↦ In-left x rs base_pairs (w x j) | inr j ↦ In-right x rs base_pairs j ]

-- what is settled by a list is settled by a longer one
settled_more : (program : Program) (scope : ℕ) (mode : Mode) (qs rs : List Pair) (q : Pair) → Within qs rs → IsSettled program scope mode qs q → IsSettled program scope mode rs q
settled_more program scope mode qs rs q w (inl sub) = inl sub
settled_more program scope mode qs rs q w (inr closed) = inr (IsClosed-more TypeRef (methods_of program scope) IsObject (Allows program scope mode) (qs ++ base_pairs) (rs ++ base_pairs) q (within_more qs rs w) closed)

-- one more entry is worked off
pub work_more : (program : Program) (scope : ℕ) (mode : Mode) (first old new : List Met) (k : ℕ) → k < length old → IsWork program scope mode first old k → Advances program scope mode old new k → IsWork program scope mode first new (k + 1)
work_more program scope mode first old new k lt work adv = record {
  seen = adv.seen;
  extends = Extends-trans first old new work.extends adv.extends;
  within =
      (let r = slice_get-within old k lt in
      let s : slice_get new k ≡ Some r.0 = Extends-get old new k r.0 adv.extends r.1 in
      let t : k < length new = slice_get_within new k r.0 s in omega arith);
  done = λ j h e g. elim (cases_lt j k) [
    | inl lt' ↦ earlier j lt' e g
    | inr ge ↦
        let same : k ≡ j = omega arith in
        let P : ℕ → Type 0 = λ i. slice_get new i ≡ Some e in
        adv.done e (subst P (sym same) g)
  ];
}
  where
    earlier : (j : ℕ) → j < k → (e : Met) → slice_get new j ≡ Some e → IsSettled program scope mode (pairs new) (met_pair e)
    earlier j lt' e g =
        let r = slice_get-within old j (omega arith) in
        let f : Some r.0 ≡ Some e = sym (Extends-get old new j r.0 adv.extends r.1) ∙ g in
        let same : r.0 ≡ e = cc in
        let P : Met → Type 0 = λ v. IsSettled program scope mode (pairs new) (met_pair v) in
        subst P same (settled_more program scope mode (pairs old) (pairs new) (met_pair r.0) (Extends-within old new adv.extends) (work.done j lt' r.0 r.1))

-- the work list is no longer than the pairs of types in range, so it ends
pub work_left : (program : Program) (scope : ℕ) (mode : Mode) (first es : List Met) (k : ℕ) → k < length es → IsWork program scope mode first es k → k < pair_bound program scope
work_left program scope mode first es k lt work =
    let l : length (pairs es) ≤ pair_bound program scope = length-le-pair_bound program scope (pairs es) work.seen.apart work.seen.fits in
    let m : length (pairs es) ≡ length es = length-map es met_pair in
    omega arith

pub work_start : (program : Program) (scope : ℕ) (mode : Mode) (es : List Met) → IsSeen program scope mode es → IsWork program scope mode es es 0
work_start program scope mode es seen = record {
  seen = seen;
  extends = Extends-none es es refl;
  within = omega arith;
  done = λ k h. absurd (omega arith);
}

-- what begins the first list begins the last
pub begins_still : (program : Program) (scope : ℕ) (mode : Mode) (p : Pair) (first es : List Met) (k : ℕ) → IsWork program scope mode first es k → BeginsWith p first → BeginsWith p es
begins_still program scope mode p first es k work b = (b.0, Extends-get first es 0 b.0 work.extends b.1, b.2)

-- subtyping by the mode's test of effects is subtyping in the mode
in_mode : (program : Program) (scope : ℕ) (mode : Mode) (s t : TypeRef) → IsSubtype TypeRef (methods_of program scope) IsObject (Allows program scope mode) s t → IsSubtypeIn program scope mode s t
in_mode program scope Annotated s t h = h
in_mode program scope Plain s t h = h

of_mode : (program : Program) (scope : ℕ) (mode : Mode) (s t : TypeRef) → IsSubtypeIn program scope mode s t → IsSubtype TypeRef (methods_of program scope) IsObject (Allows program scope mode) s t
of_mode program scope Annotated s t h = h
of_mode program scope Plain s t h = h

-- a closed list has those of the pairs that are known, and the others are closed by the list of all
module _ (program : Program) (scope : ℕ) (mode : Mode) where
  more : (qs rs : List Pair) (q : Pair) → Within qs rs → Closes program scope mode qs q → Closes program scope mode rs q
  more qs rs q w c = IsClosed-more TypeRef (methods_of program scope) IsObject (Allows program scope mode) qs rs q w c

  record Gathers (all qs : List Pair) : Type 0 where
    known : List Pair
    closed : (w : Pair) → In w known → Closes program scope mode known w
    each : (q : Pair) → In q qs → In q known ⊎ Closes program scope mode all q

  gathered : (all qs : List Pair) → ((q : Pair) → In q qs → IsSubtypeIn program scope mode q.0 q.1 ⊎ Closes program scope mode all q) → Gathers all qs
  gathered all [] h = record { known = []; closed = λ w i. absurd i; each = λ q i. absurd i }
  gathered all (q ∷ qs) h =
      let r = gathered all qs (λ x i. h x (inr i)) in
      elim (h q (inl refl)) [
        | inl sub ↦
            let s = of_mode program scope mode q.0 q.1 sub in
            let ws : List Pair = s.pairs ++ r.known in
            let P : Pair → Type 0 = λ v. In v ws in
            record {
              known = ws;
              closed = λ w i. elim (In-cases w s.pairs r.known i) [
                | inl j ↦ more s.pairs ws w (λ x k. In-left x s.pairs r.known k) (s.closed w j)
                | inr j ↦ more r.known ws w (λ x k. In-right x s.pairs r.known k) (r.closed w j)
              ];
              each = λ x i. elim i [
                | inl e ↦ inl (subst P e (In-left q s.pairs r.known s.first))
                | inr j ↦ elim (r.each x j) [ inl a ↦ inl (In-right x s.pairs r.known a) | inr b ↦ inr b ]
              ];
            }
        | inr c ↦
            let P : Pair → Type 0 = λ v. Closes program scope mode all v in
            record { known = r.known; closed = r.closed; each = λ x i. elim i [ inl e ↦ inr (subst P e c) | inr j ↦ r.each x j ] }
      ]

  same_base : (b : TypeRef) → (IsObject b → ⊥) → (qs : List Pair) (w : Pair) → ◌≡◌ {A = Pair} (b, b) w → Closes program scope mode qs w
  same_base b base qs w e = (let P : Pair → Type 0 = λ v. Closes program scope mode qs v in subst P e (inl (refl, base)))

  -- a pair of equal base types is closed in every list
  base_closed : (qs : List Pair) (w : Pair) → In w base_pairs → Closes program scope mode qs w
  base_closed qs w (inl e) = same_base Int (λ h. h) qs w e
  base_closed qs w (inr (inl e)) = same_base Bool (λ h. h) qs w e
  base_closed qs w (inr (inr (inl e))) = same_base Text (λ h. h) qs w e
  base_closed qs w (inr (inr (inr (inl e)))) = same_base Nothing (λ h. h) qs w e
  base_closed qs w (inr (inr (inr (inr none)))) = absurd none

  -- pairs that are all settled are of types and subtypes
  settled_all : (all : List Pair) → ((q : Pair) → In q all → IsSettled program scope mode all q) → (q : Pair) → In q all → IsSubtypeIn program scope mode q.0 q.1
  settled_all all h q i =
      let full : List Pair = all ++ base_pairs in
      let r = gathered full all h in
      let ws : List Pair = full ++ r.known in
      let known : (w : Pair) → In w r.known → Closes program scope mode ws w = λ w j. more r.known ws w (λ x k. In-right x full r.known k) (r.closed w j) in
      in_mode program scope mode q.0 q.1 (record {
        pairs = ws;
        first = In-left q full r.known (In-left q all base_pairs i);
        closed = λ w j. elim (In-cases w full r.known j) [
          | inl a ↦ elim (In-cases w all base_pairs a) [
            | inl b ↦ elim (r.each w b) [ inl x ↦ known w x | inr x ↦ more full ws w (λ y k. In-left y full r.known k) x ]
            | inr b ↦ base_closed ws w b
          ]
          | inr b ↦ known w b
        ];
      })

-- once all is worked off, the pairs are of types and subtypes
pub work_all : (program : Program) (scope : ℕ) (mode : Mode) (first es : List Met) (k : ℕ) → length es ≤ k → IsWork program scope mode first es k → (e : Met) → In e es → IsSubtypeIn program scope mode e.pair.0 e.pair.1
work_all program scope mode first es k le work e i =
    settled_all program scope mode (pairs es)
    (λ q j.
    let r = In-unmap met_pair q es j in
    let s = In-at r.0 es r.1 in
    let Q : Pair → Type 0 = λ v. IsSettled program scope mode (pairs es) v in
    subst Q r.2 (work.done s.0 (omega (arith, s.1)) r.0 s.2))
    (met_pair e) (In-map met_pair e es i)

pub first_holds : (program : Program) (scope : ℕ) (mode : Mode) (q : Pair) (es : List Met) → BeginsWith q es → ((e : Met) → In e es → IsSubtypeIn program scope mode e.pair.0 e.pair.1) → IsSubtypeIn program scope mode q.0 q.1
first_holds program scope mode q es b h =
    let P : Pair → Type 0 = λ v. IsSubtypeIn program scope mode v.0 v.1 in
    subst P b.2 (h b.0 (In-slice_get es 0 b.0 b.1))

-- a pair that fails is closed in no list
no_params : (ps : List Pair) (xs ys : List TypeRef) → ParamsIn ps xs ys → length xs ≡ length ys
no_params ps [] [] h = refl
no_params ps [] (y ∷ ys) h = absurd h
no_params ps (x ∷ xs) [] h = absurd h
no_params ps (x ∷ xs) (y ∷ ys) h = ap suc (no_params ps xs ys h.1)

objects_only : (program : Program) (scope : ℕ) (mode : Mode) (ps : List Pair) (p : Pair) → AreObjects p → Closes program scope mode ps p → (n : Signature TypeRef) → In n (methods_of program scope p.1) → HasCover TypeRef (methods_of program scope) IsObject (Allows program scope mode) ps (find_method n.name (methods_of program scope p.0)) n
objects_only program scope mode ps p both (inl base) n i = absurd (base.1 both.0)
objects_only program scope mode ps p both (inr h) n i = h.2 n i

pub fails_open : (program : Program) (scope : ℕ) (mode : Mode) (ps : List Pair) (p : Pair) (c : Cause) → FailsBy program scope mode p c → Closes program scope mode ps p → ⊥
fails_open program scope mode ps p Base f (inl base) = f.0 base
fails_open program scope mode ps p Base f (inr h) = f.1 (h.0, h.1)
fails_open program scope mode ps p (MissingMethod name) f closed =
    let P : Option (Signature TypeRef) → Type 0 = λ o. HasCover TypeRef (methods_of program scope) IsObject (Allows program scope mode) ps o f.1.0 in
    subst P f.1.3 (objects_only program scope mode ps p f.0 closed f.1.0 f.1.1)
fails_open program scope mode ps p (Arity name) f closed =
    let P : Option (Signature TypeRef) → Type 0 = λ o. HasCover TypeRef (methods_of program scope) IsObject (Allows program scope mode) ps o f.1.0 in
    let m = f.1.3 in
    let cover : Covers TypeRef (methods_of program scope) IsObject (Allows program scope mode) ps m.0 f.1.0 = subst P m.1 (objects_only program scope mode ps p f.0 closed f.1.0 f.1.1) in
    m.2 (no_params ps m.0.params f.1.0.params cover.params)
fails_open program scope mode ps p (Effect name a) f closed =
    let fault = f.1 in
    let m = fault.1.3 in
    let P : Option (Signature TypeRef) → Type 0 = λ o. HasCover TypeRef (methods_of program scope) IsObject (Allows program scope mode) ps o fault.1.0 in
    let cover : Covers TypeRef (methods_of program scope) IsObject (Allows program scope mode) ps m.0 fault.1.0 = subst P m.1 (objects_only program scope mode ps p fault.0 closed fault.1.0 fault.1.1) in
    let Q : Mode → Type 0 = λ v. Allows program scope v m.0.effect fault.1.0.effect in
    let within : IsWithin (bounds_of program scope) m.0.effect fault.1.0.effect = subst Q f.0 cover.effect in
    m.2.1 (within a.0 m.2.0)

-- a failing path refutes
pub refutes : (program : Program) (scope : ℕ) (mode : Mode) (p : Pair) (path : List Step) (c : Cause) → FailsAt program scope mode p path c → IsSubtypeIn program scope mode p.0 p.1 → ⊥
refutes program scope mode p path c f h =
    let sub = of_mode program scope mode p.0 p.1 h in
    fails_open program scope mode sub.pairs f.0 c f.2
    (sub.closed f.0 (closed_path TypeRef (methods_of program scope) IsObject (Allows program scope mode) (no_methods program scope) sub.pairs sub.closed path p f.0 sub.first f.1))

pub exact : (program : Program) (scope : ℕ) (mode : Mode) (p : Pair) (v : Verdict) → IsVerdict program scope mode p v → IsYes v ↔ IsSubtypeIn program scope mode p.0 p.1
exact program scope mode p Yes h = (λ _. h, λ _. tt)
exact program scope mode p (No path c) h = (λ f. absurd f, λ s. refutes program scope mode p path c h s)

pub yes_exact : (v : Verdict) (S : Type 0) → (IsYes v ↔ S) → (is_yes v ≡ true) ↔ S
yes_exact Yes S h = (λ _. h.0 tt, λ _. refl)
yes_exact (No path c) S h = (λ e. absurd (cc), λ s. absurd (h.1 s))
