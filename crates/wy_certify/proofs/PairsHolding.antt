-- Pairs that hold in a scope: their own tests pass, and the pairs that these ask for hold again.
use Rattle.std.proofs.Common.{◌≡◌, ℕ, ◌+◌, ◌<◌, ◌≤◌, List, [], ◌∷◌, length, inl, inr, refl, sym, ap, subst, Some, arith}
use Rattle.std.specs.Prelude.{◌⊎◌, slice_get}
use Rattle.wy_text.specs.Members.{In}
use Rattle.wy_effects.specs.EffSet.{IsSetFrom}
use Rattle.wy_effects.specs.Bounds.{IsWithin}
use Rattle.wy_text.proofs.Lists.{In-map, In-slice_get}
use Rattle.wy_types.specs.declared.types.TypeRef.{TypeRef}
use Rattle.wy_types.specs.declared.types.TypeRef.TheVariants.{Int, Bool, Text, Unit as Nothing, Named, At, Own}
use Rattle.wy_types.specs.declared.path.Part.{Part}
use Rattle.wy_types.specs.declared.path.Part.TheVariants.{Parameter, Result}
use Rattle.wy_types.specs.declared.path.Step.{Step}
use Rattle.wy_types.specs.declared.resolved.ScopeKind.{ScopeKind}
use Rattle.wy_types.specs.declared.resolved.ScopeKind.TheVariants.{Pure, Resource, Plain as PlainKind, Program as Main}
use Rattle.wy_types.specs.Program.{Program, Scope}
use Rattle.wy_types.specs.Signature.{Signature}
use Rattle.wy_types.specs.Types.{IsObject, erased, methods_of}
use Rattle.wy_types.specs.Bounds.{bounds_of}
use Rattle.wy_types.specs.Fitting.{scope_literals, IsTypeOf}
use Rattle.wy_types.specs.MemberCount.{member_count}
use Rattle.wy_types.specs.Core.{IsCore}
use Rattle.wy_types.specs.Subtyping.{IsClosed, LeadsBy, AnyEffect}
use Rattle.wy_types.proofs.Closing.{find_in}
use Rattle.wy_rules.specs.PlainMethods.{erased_methods, IsPlainSubtypeOver}
use Rattle.wy_subtype.specs.declared.verdict.Mode.{Mode}
use Rattle.wy_subtype.specs.declared.verdict.Mode.TheVariants.{Annotated, Plain}
use Rattle.wy_subtype.specs.declared.verdict.Cause.{Cause}
use Rattle.wy_subtype.specs.declared.unfolding.UnfoldedPair.{UnfoldedPair}
use Rattle.wy_subtype.specs.Verdict.{FailsBy}
use Rattle.wy_subtype.specs.Steps.{Allows, StepsTo}
use Rattle.wy_subtype.specs.Unfolding.{sides, Asks}
use Rattle.wy_proving.specs.Certified.{Pair}
use Rattle.wy_proving.specs.Proving.{TypeStands, sets_of}
use Rattle.wy_proving.specs.Written.{BareStands}
use Rattle.wy_proving.proofs.Erasing.{erased_erased, bare_signature, methods_agree}
use Rattle.wy_proving.proofs.AcceptedCertified.{named_types_stand, named_bare_types_stand}
use Rattle.wy_recheck.specs.Closing.{looked_up, ClosedIn}
use Rattle.wy_recheck.proofs.ClosedPairs.{fails_closed, asks_closed}
use Rattle.wy_certify.specs.Closed.{Holds}

module _ (p : Program) (k : ℕ) (s : Scope) where
  ------------------------------------------------------------
  -- A pair that holds, as it is compared

  pub compared_holds : (mode : Mode) (q : Pair) → Holds p k s mode q → Holds p k s mode (looked_up mode q)
  compared_holds Annotated q h = h
  compared_holds Plain q h =
      let P : TypeRef → TypeRef → Type 0 = λ a b. IsPlainSubtypeOver (erased_methods p k) a b × BareStands p k s a × BareStands p k s b in
      let first : P (erased q.0) (erased (erased q.1)) = subst (λ b. P (erased q.0) b) (sym (erased_erased q.1)) h in
      subst (λ a. P a (erased (erased q.1))) (sym (erased_erased q.0)) first

  ------------------------------------------------------------
  -- A list that shows it

  abbrev ClosedAt : Mode → List Pair → Pair → Type 0
  ClosedAt Annotated ps w = IsClosed TypeRef (methods_of p k) IsObject (IsWithin (bounds_of p k)) ps w
  ClosedAt Plain ps w = IsClosed TypeRef (erased_methods p k) IsObject AnyEffect ps w

  record Shown (mode : Mode) (q : Pair) : Type 0 where
    pairs : List Pair
    first : In {X = Pair} (looked_up mode q) pairs
    closed : (w : Pair) → In {X = Pair} w pairs → ClosedAt mode pairs w

  shown : (mode : Mode) (q : Pair) → Holds p k s mode q → Shown mode q
  shown Annotated q h = record { pairs = h.0.pairs; first = h.0.first; closed = h.0.closed }
  shown Plain q h = record { pairs = h.0.pairs; first = h.0.first; closed = h.0.closed }

  closed_in : (mode : Mode) (ps : List Pair) (q : Pair) → ClosedAt mode ps (looked_up mode q) → ClosedIn p k mode ps q
  closed_in Annotated ps q h = h
  closed_in Plain ps q h = h

  first_closed : (mode : Mode) (q : Pair) (w : Shown mode q) → ClosedIn p k mode w.pairs q
  first_closed mode q w = closed_in mode w.pairs q (w.closed (looked_up mode q) w.first)

  -- the own test of a pair that holds does not fail
  pub never_fails : (mode : Mode) (q : Pair) → Holds p k s mode q → (cause : Cause) → FailsBy p k mode q cause → ⊥
  never_fails mode q h cause f = (let w = shown mode q h in fails_closed p k mode q cause f w.pairs (first_closed mode q w))

  ------------------------------------------------------------
  -- What its test asks for can stand

  abbrev Stands : Mode → TypeRef → Type 0
  Stands Annotated t = TypeStands p s t
  Stands Plain t = BareStands p k s (erased t)

  sides_stand : (mode : Mode) (q : Pair) → Holds p k s mode q → Stands mode q.0 × Stands mode q.1
  sides_stand Annotated q h = (h.1, h.2)
  sides_stand Plain q h = (h.1, h.2)

  holds_by : (mode : Mode) (q : Pair) → Shown mode q → Stands mode q.0 → Stands mode q.1 → Holds p k s mode q
  holds_by Annotated q w a b = (record { pairs = w.pairs; first = w.first; closed = w.closed }, a, b)
  holds_by Plain q w a b = (record { pairs = w.pairs; first = w.first; closed = w.closed }, a, b)

  abbrev NamesStand : Mode → Signature TypeRef → Type 0
  NamesStand mode m = ((t : TypeRef) → In t m.params → Stands mode t) × Stands mode m.result

  part_stands : (mode : Mode) (m n : Signature TypeRef) → NamesStand mode m → NamesStand mode n → (part : Part) (r : Pair) → LeadsBy TypeRef (methods_of p k) IsObject (Allows p k mode) m n part r → Stands mode r.0 × Stands mode r.1
  part_stands mode m n a b Result r h = (subst (λ t. Stands mode t) (sym h.0) a.1, subst (λ t. Stands mode t) (sym h.1) b.1)
  part_stands mode m n a b (Parameter i) r h = (b.0 r.0 (In-slice_get n.params i r.0 h.0), a.0 r.1 (In-slice_get m.params i r.1 h.1))

  module _ (core : IsCore p) (at : slice_get p.scopes k ≡ Some s) where
    methods_stand : (mode : Mode) (t : TypeRef) → Stands mode t → (m : Signature TypeRef) → In m (methods_of p k t) → NamesStand mode m
    methods_stand Annotated t h m i = named_types_stand p k s core at t h m i
    methods_stand Plain t h m i =
        let there : In (bare_signature m) (erased_methods p k (erased t)) =
        subst (λ (ms : List (Signature TypeRef)). In (bare_signature m) ms) (sym (methods_agree p k t)) (In-map bare_signature m (methods_of p k t) i) in
        let r = named_bare_types_stand p k s core at (erased t) (bare_signature m) there in
        (λ u j. r.0 (erased u) (In-map erased u m.params j), r.1)

    step_stands : (mode : Mode) (q r : Pair) (step : Step) → StepsTo p k mode q step r → Stands mode q.0 → Stands mode q.1 → Stands mode r.0 × Stands mode r.1
    step_stands mode q r step h a b =
        part_stands mode h.left h.right (methods_stand mode q.0 a h.left (find_in h.right.name (methods_of p k q.0) h.left h.found)) (methods_stand mode q.1 b h.right h.asked) step.part r h.leads

    -- what the test of a pair that holds asks for holds
    pub asked_holds : (mode : Mode) (q : Pair) → Holds p k s mode q → (asked : List UnfoldedPair) → Asks p k mode q asked → (c : UnfoldedPair) → In c asked → Holds p k s mode (sides c)
    asked_holds mode q h asked a c i =
        let w = shown mode q h in
        let there : In {X = Pair} (looked_up mode (sides c)) w.pairs = (asks_closed p k mode q asked a w.pairs).1 (first_closed mode q w) c i in
        let both = sides_stand mode q h in
        let r = step_stands mode q (sides c) c.step (a.steps c i) both.0 both.1 in
        holds_by mode (sides c) (record { pairs = w.pairs; first = there; closed = w.closed }) r.0 r.1

  ------------------------------------------------------------
  -- Its types are in range

  wider : (i m n : ℕ) (e : List ℕ) → m ≤ n → IsSetFrom i m e → IsSetFrom i n e
  wider i m n [] le h = tt
  wider i m n (x ∷ e) le h = (h.0, (let lt = h.1 in omega (arith, lt, le)), wider (x + 1) m n e le h.2)

  counted : (kind : ScopeKind) (d : ℕ) (es : List (List ℕ)) → length es ≡ sets_of p kind d → (length es ≡ member_count (slice_get p.declarations d)) ⊎ (es ≡ [])
  counted Pure d es e = inl e
  counted Resource d es e = inl e
  counted PlainKind d [] e = inr refl
  counted PlainKind d (x ∷ es) e = absurd (omega (arith, e))
  counted Main d es e = inl e

  module _ (few : length s.atoms ≤ 512) (at : slice_get p.scopes k ≡ Some s) where
    own_fits : (l : ℕ) → l < length s.literals → IsTypeOf p k (Own l)
    own_fits l h = subst (λ o. l < length (scope_literals o)) (sym at) h

    standing_fits : (t : TypeRef) → TypeStands p s t → IsTypeOf p k t
    standing_fits Int h = tt
    standing_fits Bool h = tt
    standing_fits Text h = tt
    standing_fits Nothing h = tt
    standing_fits (Named d es) h = (h.0, counted s.kind d es h.1, λ e i. wider 0 (length s.atoms) 512 e few (h.2 e i))
    standing_fits (At d e) h = (h.0, wider 0 (length s.atoms) 512 e few h.1)
    standing_fits (Own l) h = own_fits l h.0

    bare_fits : (t : TypeRef) → BareStands p k s t → IsTypeOf p k t
    bare_fits Int h = tt
    bare_fits Bool h = tt
    bare_fits Text h = tt
    bare_fits Nothing h = tt
    bare_fits (Named d []) h = (h.1.0, inr refl, λ e i. absurd i)
    bare_fits (Named d (x ∷ es)) h = absurd (let e = h.0 in cc)
    bare_fits (At d e) h = absurd (let f = h.0 in cc)
    bare_fits (Own l) h = own_fits l h.1.0

    -- the types of a pair that holds and is as it is compared are in range
    pub holding_fits : (mode : Mode) (q : Pair) → Holds p k s mode q → looked_up mode q ≡ q → IsTypeOf p k q.0 × IsTypeOf p k q.1
    holding_fits Annotated q h e = (standing_fits q.0 h.1, standing_fits q.1 h.2)
    holding_fits Plain q h e = (
      subst (λ t. IsTypeOf p k t) (ap (λ (r : Pair). r.0) e) (bare_fits (erased q.0) h.1),
      subst (λ t. IsTypeOf p k t) (ap (λ (r : Pair). r.1) e) (bare_fits (erased q.1) h.2),
    )
