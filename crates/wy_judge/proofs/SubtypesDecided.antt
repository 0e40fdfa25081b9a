-- Subtyping is decided: the pairs that are asked for from a pair on are few, so they are listed, and either each of them passes its own
-- test, or a path leads to one that does not.
use Rattle.std.proofs.Common.{◌≡◌, ℕ, suc, List, [], ◌∷◌, ◌++◌, map, ◌⊎◌, inl, inr, length, refl, sym, ap, subst, Option, Some, None}
use Rattle.wy_text.specs.Members.{In, Within}
use Rattle.wy_effects.proofs.Closure.{Decided, in_decided, closure}
use Rattle.wy_text.proofs.Lists.{In-slice_get, In-unmap}
use Rattle.wy_effects.proofs.SetLaws.{cases_equal}
use Rattle.wy_effects.specs.Bounds.{Bounds, IsWithin, IsWidened}
use Rattle.wy_effects.specs.Widened.{widened_set}
use Rattle.wy_effects.proofs.Ordering.{widened_exactly}
use Rattle.wy_effects.proofs.Widening.{widened_is}
use Rattle.wy_types.specs.declared.types.TypeRef.{TypeRef}
use Rattle.wy_types.specs.declared.path.Part.{Part}
use Rattle.wy_types.specs.declared.path.Part.TheVariants.{Parameter, Result}
use Rattle.wy_types.specs.declared.path.Step.{Step}
use Rattle.wy_types.specs.Program.{Program}
use Rattle.wy_types.specs.Signature.{Signature, find_method}
use Rattle.wy_types.specs.Types.{IsObject, methods_of}
use Rattle.wy_types.specs.Fitting.{FitsSignature, IsTypeOf, own_count}
use Rattle.wy_types.specs.InRange.{IsInRange}
use Rattle.wy_types.specs.Subtyping.{ParamsIn, HasCover, IsSubtype, LeadsBy}
use Rattle.wy_types.specs.Bounds.{bounds_of}
use Rattle.wy_types.proofs.Bounding.{go_down}
use Rattle.wy_types.proofs.Closing.{find_in, closed_path}
use Rattle.wy_types.proofs.Deciding.{decide_type, decide_pair}
use Rattle.wy_types.proofs.Finite.{pair_bound, length-le-pair_bound, Fits-methods}
use Rattle.wy_types.proofs.Reaching.{no_methods}
use Rattle.wy_subtype.specs.declared.verdict.Mode.{Mode}
use Rattle.wy_subtype.specs.declared.verdict.Mode.TheVariants.{Annotated, Plain}
use Rattle.wy_subtype.specs.declared.unfolding.UnfoldedPair.{UnfoldedPair}
use Rattle.wy_subtype.specs.declared.unfolding.Unfolding.TheVariants.{Closed}
use Rattle.wy_subtype.specs.Verdict.{IsSubtypeIn, Closes, LeadsTo}
use Rattle.wy_subtype.specs.Steps.{Pair, Allows, StepsTo}
use Rattle.wy_subtype.specs.Unfolding.{sides, Asks, all_pairs, IsMet}
use Rattle.wy_subtype.proofs.Asking.{is_unfolded}
use Rattle.wy_subtype.proofs.Working.{Leads-snoc}
use Rattle.wy_judge.proofs.ReachDecided.{object_or_not}

------------------------------------------------------------
-- Lists and effects

pub within_decided : (xs ys : List ℕ) → Decided (Within xs ys)
within_decided [] ys = inl (λ x i. absurd i)
within_decided (x ∷ xs) ys = elim (in_decided cases_equal x ys) [
  | inr absent ↦ inr (λ w. absent (w x (inl refl)))
  | inl there ↦ elim (within_decided xs ys) [
    | inl rest ↦ inl (λ y i. elim i [ inl e ↦ subst (λ v. In v ys) e there | inr j ↦ rest y j ])
    | inr not ↦ inr (λ w. not (λ y i. w y (inr i)))
  ]
]

-- .. over bounds that name earlier atoms, by the widened set
by_widened : (bounds : Bounds) (e f wide : List ℕ) → IsWidened bounds f wide → Decided (Within e wide) → Decided (IsWithin bounds e f)
by_widened bounds e f wide is (inl within) = inl ((widened_exactly bounds e f wide is).1 within)
by_widened bounds e f wide is (inr not) = inr (λ h. not ((widened_exactly bounds e f wide is).0 h))

allows_decided : (p : Program) → IsInRange p → (k : ℕ) (mode : Mode) (e f : List ℕ) → Decided (Allows p k mode e f)
allows_decided p core k Annotated e f =
    let wide = widened_set (bounds_of p k) f in
    by_widened (bounds_of p k) e f wide (widened_is (bounds_of p k) (go_down p core k) f) (within_decided e wide)
allows_decided p core k Plain e f = inl tt

as_many_params : (ps : List Pair) (xs ys : List TypeRef) → ParamsIn ps xs ys → length xs ≡ length ys
as_many_params ps [] [] h = refl
as_many_params ps [] (y ∷ ys) h = absurd h
as_many_params ps (x ∷ xs) [] h = absurd h
as_many_params ps (x ∷ xs) (y ∷ ys) h = ap suc (as_many_params ps xs ys h.1)

module _ (p : Program) (core : IsInRange p) (k : ℕ) (mode : Mode) where
  abbrev Covered : List Pair → Option (Signature TypeRef) → Signature TypeRef → Type 0
  Covered ps o n = HasCover TypeRef (methods_of p k) IsObject (Allows p k mode) ps o n

  ------------------------------------------------------------
  -- One pair's own test

  met_decided : (o : Option (Signature TypeRef)) (n : Signature TypeRef) → Decided (IsMet p k mode o n)
  met_decided None n = inr (λ h. h)
  met_decided (Some m) n = elim (cases_equal (length m.params) (length n.params)) [
    | inr other ↦ inr (λ h. other h.0)
    | inl same ↦ elim (allows_decided p core k mode m.effect n.effect) [ inl within ↦ inl (same, within) | inr lacks ↦ inr (λ h. lacks h.1) ]
  ]

  covered_met : (ps : List Pair) (o : Option (Signature TypeRef)) (n : Signature TypeRef) → Covered ps o n → IsMet p k mode o n
  covered_met ps None n h = absurd h
  covered_met ps (Some m) n h = (as_many_params ps m.params n.params h.params, h.effect)

  abbrev AllMet : List (Signature TypeRef) → List (Signature TypeRef) → Type 0
  AllMet lefts ns = (n : Signature TypeRef) → In n ns → IsMet p k mode (find_method n.name lefts) n

  all_met_decided : (lefts ns : List (Signature TypeRef)) → Decided (AllMet lefts ns)
  all_met_decided lefts [] = inl (λ n i. absurd i)
  all_met_decided lefts (m ∷ ns) = elim (met_decided (find_method m.name lefts) m) [
    | inr fails ↦ inr (λ h. fails (h m (inl refl)))
    | inl first ↦ elim (all_met_decided lefts ns) [
      | inl rest ↦ inl (λ n i. elim i [ inl e ↦ subst (λ (v : Signature TypeRef). IsMet p k mode (find_method v.name lefts) v) e first | inr j ↦ rest n j ])
      | inr fails ↦ inr (λ h. fails (λ n i. h n (inr i)))
    ]
  ]

  -- the pairs that a pair asks for, or no list closes it
  abbrev IsTested : Pair → Type 0
  IsTested q = ((cs : List UnfoldedPair) × Asks p k mode q cs) ⊎ ((ps : List Pair) → Closes p k mode ps q → ⊥)

  objects_tested : (q : Pair) → IsObject q.0 → IsObject q.1 → IsTested q
  objects_tested q left right = elim (all_met_decided (methods_of p k q.0) (methods_of p k q.1)) [
    | inl met ↦
        let cs = all_pairs (methods_of p k q.0) (methods_of p k q.1) in
        inl (cs, is_unfolded p k mode q.0 q.1 left right (methods_of p k q.0) (methods_of p k q.1) refl refl (Closed cs) (refl, met))
    | inr fails ↦ inr (λ ps c. elim c [
      | inl base ↦ base.1 left
      | inr h ↦ fails (λ n i. covered_met ps (find_method n.name (methods_of p k q.0)) n (h.2 n i))
    ])
  ]

  base_tested : (q : Pair) → (IsObject q.0 → ⊥) → IsTested q
  base_tested q left = elim (decide_type q.0 q.1) [
    | inl same ↦ inl ([], record { steps = λ c i. absurd i; closes = λ ps w. inl (same, left) })
    | inr other ↦ inr (λ ps c. elim c [ inl base ↦ other base.0 | inr h ↦ left h.0 ])
  ]

  tested : (q : Pair) → IsTested q
  tested q = elim (object_or_not q.0) [
    | inr left ↦ base_tested q left
    | inl left ↦ elim (object_or_not q.1) [
      | inl right ↦ objects_tested q left right
      | inr right ↦ inr (λ ps c. elim c [ inl base ↦ base.1 left | inr h ↦ right h.1 ])
    ]
  ]

  asked_of : (q : Pair) → IsTested q → List Pair
  asked_of q (inl asks) = map sides asks.0
  asked_of q (inr fails) = []

  asked : Pair → List Pair
  asked q = asked_of q (tested q)

  ------------------------------------------------------------
  -- Types stay in range

  abbrev BothFit : Pair → Type 0
  BothFit q = IsTypeOf p k q.0 × IsTypeOf p k q.1

  parts_fit : (left right : Signature TypeRef) (part : Part) (q : Pair) → FitsSignature p 512 (own_count p k) left → FitsSignature p 512 (own_count p k) right →
      LeadsBy TypeRef (methods_of p k) IsObject (Allows p k mode) left right part q → BothFit q
  parts_fit left right Result q f g l = (subst (λ v. IsTypeOf p k v) (sym l.0) f.result, subst (λ v. IsTypeOf p k v) (sym l.1) g.result)
  parts_fit left right (Parameter i) q f g l = (g.params q.0 (In-slice_get right.params i q.0 l.0), f.params q.1 (In-slice_get left.params i q.1 l.1))

  step_fits : (q : Pair) (s : Step) (r : Pair) → BothFit q → StepsTo p k mode q s r → BothFit r
  step_fits q s r f step =
      parts_fit step.left step.right s.part r
      (Fits-methods p core.signatures k q.0 f.0 step.left (find_in step.right.name (methods_of p k q.0) step.left step.found))
      (Fits-methods p core.signatures k q.1 f.1 step.right step.asked)
      step.leads

  ------------------------------------------------------------
  -- All pairs that are asked for

  module _ (first : Pair) where
    pub record IsAsked (q : Pair) : Type 0 where
      pub fits : BothFit q
      pub path : List Step
      pub leads : LeadsTo p k mode first path q

    asked_by : (q r : Pair) (t : IsTested q) → IsAsked q → In r (asked_of q t) → IsAsked r
    unfolding asked_of
    asked_by q r (inr fails) a i = absurd i
    asked_by q r (inl asks) a i =
        let c = In-unmap sides r asks.0 i in
        let step : StepsTo p k mode q c.0.step r = subst (λ (v : Pair). StepsTo p k mode q c.0.step v) c.2 (asks.1.steps c.0 c.1) in
        record { fits = step_fits q c.0.step r a.fits step; path = a.path ++ c.0.step ∷ []; leads = Leads-snoc p k mode a.path first q r c.0.step a.leads step }

    kept : (q r : Pair) → IsAsked q → In r (asked q) → IsAsked r
    unfolding asked
    kept q r a i = asked_by q r (tested q) a i

    -- all of them pass, or one does not
    abbrev Passes : (q : Pair) → IsTested q → Type 0
    Passes q (inl asks) = Unit {0}
    Passes q (inr fails) = ⊥

    passes_or_not : (q : Pair) (t : IsTested q) → Passes q t ⊎ ((ps : List Pair) → Closes p k mode ps q → ⊥)
    passes_or_not q (inl asks) = inl tt
    passes_or_not q (inr fails) = inr fails

    closed_by : (ps : List Pair) (q : Pair) (t : IsTested q) → Passes q t → Within (asked_of q t) ps → Closes p k mode ps q
    unfolding asked_of
    closed_by ps q (inl asks) h w = asks.1.closes ps w
    closed_by ps q (inr fails) h w = absurd h

    abbrev AnyFails : List Pair → Type 0
    AnyFails qs = (q : Pair) × In q qs × ((ps : List Pair) → Closes p k mode ps q → ⊥)

    all_or_one : (qs : List Pair) → ((q : Pair) → In q qs → Passes q (tested q)) ⊎ AnyFails qs
    all_or_one [] = inl (λ q i. absurd i)
    all_or_one (r ∷ qs) = elim (passes_or_not r (tested r)) [
      | inr fails ↦ inr (r, inl refl, fails)
      | inl first ↦ elim (all_or_one qs) [
        | inr one ↦ inr (one.0, inr one.1, one.2)
        | inl rest ↦ inl (λ q i. elim i [ inl e ↦ subst (λ (v : Pair). Passes v (tested v)) e first | inr j ↦ rest q j ])
      ]
    ]

    by_test : BothFit first → Decided (IsSubtype TypeRef (methods_of p k) IsObject (Allows p k mode) first.0 first.1)
    unfolding asked
    by_test fits =
        let all = closure Pair (decide_pair decide_type decide_type) asked IsAsked kept (pair_bound p k) (λ qs apart each. length-le-pair_bound p k qs apart (λ q i. (each q i).fits))
        first (record { fits = fits; path = []; leads = (refl, refl) }) in
        elim (all_or_one all.list) [
          | inl pass ↦ inl (record {
            pairs = all.list;
            first = all.new first (inl refl);
            closed = λ q i. closed_by all.list q (tested q) (pass q i) (all.closed q i);
          })
          | inr one ↦ inr (λ sub.
              one.2 sub.pairs
              (sub.closed one.0 (closed_path TypeRef (methods_of p k) IsObject (Allows p k mode) (no_methods p k) sub.pairs sub.closed (all.each one.0 one.1).path first one.0 sub.first (all.each one.0 one.1).leads)))
        ]

pub subtype_decided : (p : Program) → IsInRange p → (k : ℕ) (mode : Mode) (s t : TypeRef) → IsTypeOf p k s → IsTypeOf p k t → Decided (IsSubtypeIn p k mode s t)
subtype_decided p core k Annotated s t f g = by_test p core k Annotated (s, t) (f, g)
subtype_decided p core k Plain s t f g = by_test p core k Plain (s, t) (f, g)
