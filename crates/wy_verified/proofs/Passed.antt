-- The walk by recursion gives the states of the body, one for each instruction.
use Rattle.std.proofs.Common.{◌⊎◌, ◌≡◌, ◌≢◌, ℕ, zero, suc, ◌+◌, ◌-◌, ◌<◌, Bool, true, false, List, [], ◌∷◌, length, inl}
use Rattle.std.proofs.Common.{inr, refl, sym, ap, ◌∙◌, subst, Option, Some, None, arith}
use Rattle.std.proofs.lemmas.Bool.{eq-eqb, eqb-true}
use Rattle.std.specs.Prelude.{slice_get, nat_eq, if◌then◌else◌}
use Rattle.wy_code.specs.declared.code.Body.{Body}
use Rattle.wy_code.specs.declared.instruction.Instruction.{Instruction}
use Rattle.wy_code.specs.declared.instruction.Instruction.TheVariants.{Push, Load, Store, Get, Set, Drop, Op, Jump}
use Rattle.wy_code.specs.declared.instruction.Instruction.TheVariants.{JumpFalse, New, Call, Return, Finish}
use Rattle.wy_code.specs.declared.instruction.Placed.{Placed}
use Rattle.wy_image.specs.declared.typing.Bounds.{Bounds}
use Rattle.wy_image.specs.declared.typing.Target.{Target}
use Rattle.wy_verified.specs.Images.{Image}
use Rattle.wy_verified.specs.Rules.{Known, Owner, at_first}
use Rattle.wy_verified.specs.Walking.{VerifyRule, Range, Argument, Flow, State, Depth, Types, Effect, target_in}
use Rattle.wy_verified.specs.Walking.{known_at, known_there, after, Leads, FallsThrough, JumpsTo, IsTarget, IsJumpedTo}
use Rattle.wy_verified.specs.Walking.{EndsWell, Holds, Walks, BodyWalks}
use Rattle.wy_verified.specs.Passing.{Jumped, set_at, jumped, Ends, MeetsSet, Passes, at_target, there, next}
use Rattle.wy_verified.specs.Passing.{PassesFrom, BodyPasses}
use Rattle.wy_verified.proofs.Lists.{some_same, none_some}

module _ (image : Image) (x : ℕ) (owner : Owner) (body : Body) (bounds : Bounds) (held : ℕ) where
  abbrev pub Leading : ℕ → Instruction → ℕ → Type 0
  Leading at i to = Leads image x owner body bounds held at i to

  abbrev pub After : Known → Instruction → Known
  After known i = after image x owner body bounds held known i

  abbrev pub Next : ℕ → Known → List Jumped → Instruction → Option Known
  Next at known js i = next image x owner body bounds held at known js i

  abbrev Pass : ℕ → Option Known → List Jumped → List Placed → Type 0
  Pass at o js ps = PassesFrom image x owner body bounds held at o js ps

  abbrev All : ℕ → Known → List Jumped → Instruction → Type 0
  All at known js i = (r : VerifyRule) → Passes image x owner body bounds held r at known js i

  known_or : Option Known → Known
  known_or None = at_first
  known_or (Some k) = k

  -- what is known at each place from an address on
  knowns : ℕ → Option Known → List Jumped → List Placed → List Known
  knowns at o js [] = []
  knowns at None js (p ∷ ps) = at_first ∷ knowns (suc at) None js ps
  knowns at (Some known) js (p ∷ ps) =
      known ∷ knowns (suc at) (Next at known js p.instruction) (jumped p.instruction known js) ps

  knowns_length : (at : ℕ) (o : Option Known) (js : List Jumped) (ps : List Placed) →
      length (knowns at o js ps) ≡ length ps
  unfolding knowns
  knowns_length at o js [] = refl
  knowns_length at None js (p ∷ ps) = ap suc (knowns_length (suc at) None js ps)
  knowns_length at (Some known) js (p ∷ ps) =
      ap suc (knowns_length (suc at) (Next at known js p.instruction) (jumped p.instruction known js) ps)

  ------------------------------------------------------------
  -- Jumps that were taken down

  -- where a jump has led to an address that is a target, the number of set fields stays as it was taken down
  set_stays : (at : ℕ) (known : Known) (js : List Jumped) (i : Instruction) → All at known js i → (to s : ℕ) →
      set_at to js ≡ Some s → set_at to (jumped i known js) ≡ Some s
  set_stays at known js (Jump a) h to s e = of (nat_eq a to) refl
    where
      of : (c : Bool) → nat_eq a to ≡ c → (if nat_eq a to then Some known.set else set_at to js) ≡ Some s
      of true f = ap (λ c. if c then Some known.set else set_at to js) f ∙
          ap (λ (n : ℕ). Some n) (subst (λ (o : Option ℕ). MeetsSet image x owner body bounds held known.set o) e
          ((h State).1 to (inr (eqb-true a to f))))
      of false f = ap (λ c. if c then Some known.set else set_at to js) f ∙ e
  set_stays at known js (JumpFalse a) h to s e = of (nat_eq a to) refl
    where
      of : (c : Bool) → nat_eq a to ≡ c → (if nat_eq a to then Some known.set else set_at to js) ≡ Some s
      of true f = ap (λ c. if c then Some known.set else set_at to js) f ∙
          ap (λ (n : ℕ). Some n) (subst (λ (o : Option ℕ). MeetsSet image x owner body bounds held known.set o) e
          ((h State).1 to (inr (eqb-true a to f))))
      of false f = ap (λ c. if c then Some known.set else set_at to js) f ∙ e
  set_stays at known js (Push c) h to s e = e
  set_stays at known js (Load a) h to s e = e
  set_stays at known js (Store a) h to s e = e
  set_stays at known js (Get a) h to s e = e
  set_stays at known js (Set a) h to s e = e
  set_stays at known js Drop h to s e = e
  set_stays at known js (Op o) h to s e = e
  set_stays at known js (New l) h to s e = e
  set_stays at known js (Call m n) h to s e = e
  set_stays at known js Return h to s e = e
  set_stays at known js Finish h to s e = e

  -- what comes to a place at which a jump has led is what the target says
  abbrev Fits : ℕ → Option Known → List Jumped → Type 0
  Fits at o js =
      (t : Target) (s : ℕ) → target_in at bounds.targets ≡ Some t → set_at at js ≡ Some s → o ≡ Some (known_at x t s)

  -- as many fields are set as was taken down of the address that it leads to
  led_set : (at : ℕ) (known : Known) (js : List Jumped) (i : Instruction) → All at known js i → (to s : ℕ) →
      Leading at i to → set_at to (jumped i known js) ≡ Some s → (After known i).set ≡ s
  led_set at known js (Jump a) h to s l e = of (nat_eq a to) refl
    where
      of : (c : Bool) → nat_eq a to ≡ c → known.set ≡ s
      of true f = some_same (sym (ap (λ c. if c then Some known.set else set_at to js) f) ∙ e)
      of false f =
          subst (λ (o : Option ℕ). MeetsSet image x owner body bounds held known.set o)
          (sym (ap (λ c. if c then Some known.set else set_at to js) f) ∙ e) ((h State).1 to l)
  led_set at known js (JumpFalse a) h to s l e = of (nat_eq a to) refl
    where
      of : (c : Bool) → nat_eq a to ≡ c → known.set ≡ s
      of true f = some_same (sym (ap (λ c. if c then Some known.set else set_at to js) f) ∙ e)
      of false f =
          subst (λ (o : Option ℕ). MeetsSet image x owner body bounds held known.set o)
          (sym (ap (λ c. if c then Some known.set else set_at to js) f) ∙ e) ((h State).1 to l)
  led_set at known js (Push c) h to s l e =
      subst (λ (o : Option ℕ). MeetsSet image x owner body bounds held known.set o) e ((h State).1 to l)
  led_set at known js (Load a) h to s l e =
      subst (λ (o : Option ℕ). MeetsSet image x owner body bounds held known.set o) e ((h State).1 to l)
  led_set at known js (Store a) h to s l e =
      subst (λ (o : Option ℕ). MeetsSet image x owner body bounds held known.set o) e ((h State).1 to l)
  led_set at known js (Get a) h to s l e =
      subst (λ (o : Option ℕ). MeetsSet image x owner body bounds held known.set o) e ((h State).1 to l)
  led_set at known js (Set a) h to s l e =
      subst (λ (o : Option ℕ). MeetsSet image x owner body bounds held (After known (Set a)).set o) e ((h State).1 to l)
  led_set at known js Drop h to s l e =
      subst (λ (o : Option ℕ). MeetsSet image x owner body bounds held known.set o) e ((h State).1 to l)
  led_set at known js (Op o) h to s l e =
      subst (λ (o : Option ℕ). MeetsSet image x owner body bounds held known.set o) e ((h State).1 to l)
  led_set at known js (New n) h to s l e =
      subst (λ (o : Option ℕ). MeetsSet image x owner body bounds held known.set o) e ((h State).1 to l)
  led_set at known js (Call m n) h to s l e =
      subst (λ (o : Option ℕ). MeetsSet image x owner body bounds held known.set o) e ((h State).1 to l)
  led_set at known js Return h to s l e =
      subst (λ (o : Option ℕ). MeetsSet image x owner body bounds held known.set o) e ((h State).1 to l)
  led_set at known js Finish h to s l e =
      subst (λ (o : Option ℕ). MeetsSet image x owner body bounds held known.set o) e ((h State).1 to l)

  -- a jump is taken down
  pub jump_set : (at : ℕ) (known : Known) (js : List Jumped) (i : Instruction) (to : ℕ) →
      JumpsTo image x owner body bounds held i to → set_at to (jumped i known js) ≡ Some (After known i).set
  jump_set at known js (Jump a) to e = ap (λ c. if c then Some known.set else set_at to js) (eq-eqb a to e)
  jump_set at known js (JumpFalse a) to e = ap (λ c. if c then Some known.set else set_at to js) (eq-eqb a to e)
  jump_set at known js (Push c) to e = absurd e
  jump_set at known js (Load a) to e = absurd e
  jump_set at known js (Store a) to e = absurd e
  jump_set at known js (Get a) to e = absurd e
  jump_set at known js (Set a) to e = absurd e
  jump_set at known js Drop to e = absurd e
  jump_set at known js (Op o) to e = absurd e
  jump_set at known js (New n) to e = absurd e
  jump_set at known js (Call m n) to e = absurd e
  jump_set at known js Return to e = absurd e
  jump_set at known js Finish to e = absurd e

  -- whether the next place is reached from this one, and what is known there
  abbrev pub Falls : ℕ → Known → List Jumped → Instruction → Type 0
  Falls at known js i =
      FallsThrough image x owner body bounds held i ×
      (Next at known js i ≡ there image x owner body bounds held (After known i) (target_in (suc at) bounds.targets))

  abbrev pub Stops : ℕ → Known → List Jumped → Instruction → Type 0
  Stops at known js i =
      (FallsThrough image x owner body bounds held i → ⊥) ×
      (Next at known js i ≡ at_target image x owner body bounds held (target_in (suc at) bounds.targets)
      (set_at (suc at) (jumped i known js)))

  pub falls_or_stops : (at : ℕ) (known : Known) (js : List Jumped) (i : Instruction) → Falls at known js i ⊎
      Stops at known js i
  falls_or_stops at known js (Push c) = inl (tt, refl)
  falls_or_stops at known js (Load a) = inl (tt, refl)
  falls_or_stops at known js (Store a) = inl (tt, refl)
  falls_or_stops at known js (Get a) = inl (tt, refl)
  falls_or_stops at known js (Set a) = inl (tt, refl)
  falls_or_stops at known js Drop = inl (tt, refl)
  falls_or_stops at known js (Op o) = inl (tt, refl)
  falls_or_stops at known js (Jump a) = inr ((λ h. h), refl)
  falls_or_stops at known js (JumpFalse a) = inl (tt, refl)
  falls_or_stops at known js (New n) = inl (tt, refl)
  falls_or_stops at known js (Call m n) = inl (tt, refl)
  falls_or_stops at known js Return = inr ((λ h. h), refl)
  falls_or_stops at known js Finish = inr ((λ h. h), refl)

  next_fits : (at : ℕ) (known : Known) (js : List Jumped) (i : Instruction) → All at known js i →
      Fits (suc at) (Next at known js i) (jumped i known js)
  next_fits at known js i h t s f g = elim (falls_or_stops at known js i) [
    | inl q ↦ q.1 ∙ ap (there image x owner body bounds held (After known i)) f
        ∙ ap (λ n. Some (known_at x t n)) (led_set at known js i h (suc at) s (inl (q.0, refl)) g)
    | inr q ↦ q.1 ∙ ap (λ o. at_target image x owner body bounds held o (set_at (suc at) (jumped i known js))) f
        ∙ ap (at_target image x owner body bounds held (Some t)) g
  ]

  ------------------------------------------------------------
  -- Places that are targets

  place_known : (ps : List Placed) (at : ℕ) (o : Option Known) (js : List Jumped) → Pass at o js ps → Fits at o js →
      (k to s : ℕ) (t : Target) → to ≡ at + k → k < length ps →
      target_in to bounds.targets ≡ Some t → set_at to js ≡ Some s →
      slice_get (knowns at o js ps) k ≡ Some (known_at x t s)
  unfolding knowns
  place_known [] at o js h fits k to s t e lt f g = absurd (omega arith)
  place_known (p ∷ ps) at None js h fits k to s t e lt f g = absurd h
  place_known (p ∷ ps) at (Some known) js h fits zero to s t e lt f g =
      let z : to ≡ at = omega (arith, e) in
      fits t s (ap (λ a. target_in a bounds.targets) (sym z) ∙ f) (ap (λ a. set_at a js) (sym z) ∙ g)
  place_known (p ∷ ps) at (Some known) js h fits (suc k) to s t e lt f g =
      place_known ps (suc at) (Next at known js p.instruction) (jumped p.instruction known js) h.1
      (next_fits at known js p.instruction h.0) k to s t (omega (arith, e)) (omega (arith, lt)) f
      (set_stays at known js p.instruction h.0 to s g)

  ------------------------------------------------------------
  -- Each place

  abbrev Sources : ℕ → List Jumped → Type 0
  Sources at js =
      (to s : ℕ) → set_at to js ≡ Some s → (j : ℕ) × (p : Placed) × (j < at) ×
      (slice_get body.instructions j ≡ Some p) × JumpsTo image x owner body bounds held p.instruction to

  more_sources : (at : ℕ) (known : Known) (js : List Jumped) (p : Placed) → slice_get body.instructions at ≡ Some p →
      Sources at js → Sources (suc at) (jumped p.instruction known js)
  more_sources at known js p there h to s e = of p.instruction refl
    where
      later : set_at to js ≡ Some s → (j : ℕ) × (q : Placed) × (j < suc at) × (slice_get body.instructions j ≡ Some q) ×
          JumpsTo image x owner body bounds held q.instruction to
      later f = let r = h to s f in (r.0, r.1, (let l = r.2 in omega (arith, l)), r.3, r.4)

      here : (a : ℕ) → JumpsTo image x owner body bounds held p.instruction a →
          set_at to (record { address = a; set = known.set } ∷ js) ≡ Some s →
          (j : ℕ) × (q : Placed) × (j < suc at) × (slice_get body.instructions j ≡ Some q) ×
          JumpsTo image x owner body bounds held q.instruction to
      here a jumps f = by_case (nat_eq a to) refl
        where
          by_case : (c : Bool) → nat_eq a to ≡ c → (j : ℕ) × (q : Placed) × (j < suc at) ×
              (slice_get body.instructions j ≡ Some q) × JumpsTo image x owner body bounds held q.instruction to
          by_case true g = (
            at,
            p,
            omega arith,
            there,
            subst (λ a. JumpsTo image x owner body bounds held p.instruction a)
                (eqb-true a to g) jumps,
          )
          by_case false g = later (sym (ap (λ c. if c then Some known.set else set_at to js) g) ∙ f)

      of : (i : Instruction) → p.instruction ≡ i → (j : ℕ) × (q : Placed) × (j < suc at) ×
          (slice_get body.instructions j ≡ Some q) × JumpsTo image x owner body bounds held q.instruction to
      of (Jump a) g =
          here a (subst (λ i. JumpsTo image x owner body bounds held i a) (sym g) refl)
          (sym (ap (λ i. set_at to (jumped i known js)) g) ∙ e)
      of (JumpFalse a) g =
          here a (subst (λ i. JumpsTo image x owner body bounds held i a) (sym g) refl)
          (sym (ap (λ i. set_at to (jumped i known js)) g) ∙ e)
      of (Push c) g = later (sym (ap (λ i. set_at to (jumped i known js)) g) ∙ e)
      of (Load a) g = later (sym (ap (λ i. set_at to (jumped i known js)) g) ∙ e)
      of (Store a) g = later (sym (ap (λ i. set_at to (jumped i known js)) g) ∙ e)
      of (Get a) g = later (sym (ap (λ i. set_at to (jumped i known js)) g) ∙ e)
      of (Set a) g = later (sym (ap (λ i. set_at to (jumped i known js)) g) ∙ e)
      of Drop g = later (sym (ap (λ i. set_at to (jumped i known js)) g) ∙ e)
      of (Op o) g = later (sym (ap (λ i. set_at to (jumped i known js)) g) ∙ e)
      of (New n) g = later (sym (ap (λ i. set_at to (jumped i known js)) g) ∙ e)
      of (Call m n) g = later (sym (ap (λ i. set_at to (jumped i known js)) g) ∙ e)
      of Return g = later (sym (ap (λ i. set_at to (jumped i known js)) g) ∙ e)
      of Finish g = later (sym (ap (λ i. set_at to (jumped i known js)) g) ∙ e)

  -- V-Flow with jumps that were taken down is V-Flow with jumps among the instructions
  ends_well : (at : ℕ) (js : List Jumped) → Sources (suc at) js → Ends image x owner body bounds held at js →
      EndsWell image x owner body bounds held at
  ends_well at js h (inl e) = inl e
  ends_well at js h (inr e) = let r = h (suc at) e.0 e.1 in inr (r.0, r.1, (let l = r.2 in omega (arith, l)), r.3, r.4)

  flows : (at : ℕ) (known : Known) (js : List Jumped) (i : Instruction) → Sources (suc at) (jumped i known js) →
      Passes image x owner body bounds held Flow at known js i → Holds image x owner body bounds held Flow at known i
  flows at known js (Jump a) h f = (f.0, ends_well at (jumped (Jump a) known js) h f.1)
  flows at known js (JumpFalse a) h f = f
  flows at known js Return h f = (f.0, ends_well at js h f.1)
  flows at known js Finish h f = (f.0, ends_well at js h f.1)
  flows at known js (Push c) h f = f
  flows at known js (Load a) h f = f
  flows at known js (Store a) h f = f
  flows at known js (Get a) h f = f
  flows at known js (Set a) h f = f
  flows at known js Drop h f = f
  flows at known js (Op o) h f = f
  flows at known js (New n) h f = f
  flows at known js (Call m n) h f = f

  -- the next place is there, where it is reached from this one
  goes_on : (at : ℕ) (known : Known) (js : List Jumped) (i : Instruction) →
      FallsThrough image x owner body bounds held i → Passes image x owner body bounds held Flow at known js i →
      suc at < length body.instructions
  goes_on at known js (Jump a) h f = absurd h
  goes_on at known js (JumpFalse a) h f = f.1
  goes_on at known js Return h f = absurd h
  goes_on at known js Finish h f = absurd h
  goes_on at known js (Push c) h f = f
  goes_on at known js (Load a) h f = f
  goes_on at known js (Store a) h f = f
  goes_on at known js (Get a) h f = f
  goes_on at known js (Set a) h f = f
  goes_on at known js Drop h f = f
  goes_on at known js (Op o) h f = f
  goes_on at known js (New n) h f = f
  goes_on at known js (Call m n) h f = f

  pub jumps_forward : (at : ℕ) (known : Known) (js : List Jumped) (i : Instruction) (to : ℕ) →
      JumpsTo image x owner body bounds held i to → Passes image x owner body bounds held Flow at known js i →
      (at < to) × (to < length body.instructions) × IsTarget image x owner body bounds held to
  jumps_forward at known js (Jump a) to e f =
      subst (λ a. Rattle.wy_verified.specs.Walking.GoesForward image x owner body bounds held at a) e f.0
  jumps_forward at known js (JumpFalse a) to e f =
      subst (λ a. Rattle.wy_verified.specs.Walking.GoesForward image x owner body bounds held at a) e f.0
  jumps_forward at known js (Push c) to e f = absurd e
  jumps_forward at known js (Load a) to e f = absurd e
  jumps_forward at known js (Store a) to e f = absurd e
  jumps_forward at known js (Get a) to e f = absurd e
  jumps_forward at known js (Set a) to e f = absurd e
  jumps_forward at known js Drop to e f = absurd e
  jumps_forward at known js (Op o) to e f = absurd e
  jumps_forward at known js (New n) to e f = absurd e
  jumps_forward at known js (Call m n) to e f = absurd e
  jumps_forward at known js Return to e f = absurd e
  jumps_forward at known js Finish to e f = absurd e

  -- what is known at the first place
  head_known : (at : ℕ) (o : Option Known) (js : List Jumped) (ps : List Placed) (k : Known) → o ≡ Some k →
      0 < length ps → slice_get (knowns at o js ps) 0 ≡ Some k
  unfolding knowns
  head_known at o js [] k e lt = absurd (omega arith)
  head_known at None js (p ∷ ps) k e lt = absurd (none_some e)
  head_known at (Some l) js (p ∷ ps) k e lt = e

  module _ (states : List Known) where
    all_walk : (ps : List Placed) (at : ℕ) (o : Option Known) (js : List Jumped) → Pass at o js ps → Fits at o js →
        Sources at js → at + length ps ≡ length body.instructions →
        ((k : ℕ) → slice_get body.instructions (at + k) ≡ slice_get ps k) →
        ((k : ℕ) → slice_get states (at + k) ≡ slice_get (knowns at o js ps) k) →
        (k : ℕ) (placed : Placed) (known : Known) → slice_get ps k ≡ Some placed →
        slice_get (knowns at o js ps) k ≡ Some known →
        Walks image x owner body bounds held states (at + k) known placed.instruction
    unfolding knowns
    all_walk [] at o js h fits from long code tail k placed known e f = absurd (none_some e)
    all_walk (p ∷ ps) at None js h fits from long code tail k placed known e f = absurd h
    all_walk (p ∷ ps) at (Some l) js h fits from long code tail zero placed known e f =
        let same : at + 0 ≡ at = omega arith in
        let here : slice_get body.instructions at ≡ Some p = ap (slice_get body.instructions) (sym same) ∙ code 0 in
        let more = more_sources at l js p here from in
        let walks : Walks image x owner body bounds held states at l p.instruction = record {
          rules = rules_hold more;
          leads = λ to q. elim q [
            | inl falls ↦ fallen to falls.1 falls.0
            | inr jumps ↦ landed to jumps
          ];
        } in
        subst (λ a. Walks image x owner body bounds held states a known placed.instruction) (sym same)
        (subst (λ (q : Placed). Walks image x owner body bounds held states at known q.instruction) (some_same e)
        (subst (λ (q : Known). Walks image x owner body bounds held states at q p.instruction) (some_same f) walks))
      where
        rules_hold : Sources (suc at) (jumped p.instruction l js) → (r : VerifyRule) →
            Holds image x owner body bounds held r at l p.instruction
        rules_hold more Range = h.0 Range
        rules_hold more Argument = tt
        rules_hold more Flow = flows at l js p.instruction more (h.0 Flow)
        rules_hold more State = (h.0 State).0
        rules_hold more Depth = h.0 Depth
        rules_hold more Types = h.0 Types
        rules_hold more Effect = h.0 Effect

        after_here : (k : ℕ) → slice_get states (suc at + k) ≡ slice_get
            (knowns (suc at) (Next at l js p.instruction) (jumped p.instruction l js) ps) k
        after_here k = let z : suc at + k ≡ at + suc k = omega arith in ap (slice_get states) z ∙ tail (suc k)

        fallen : (to : ℕ) → to ≡ suc at → FallsThrough image x owner body bounds held p.instruction →
            slice_get states to ≡ Some (known_there image x owner body bounds held (target_in to bounds.targets)
            (After l p.instruction))
        fallen to e falls =
            let z : suc at ≡ suc at + 0 = omega arith in
            let on = goes_on at l js p.instruction falls (h.0 Flow) in
            let is_next : Next at l js p.instruction ≡ Some
            (known_there image x owner body bounds held (target_in (suc at) bounds.targets)
            (After l p.instruction)) =
            elim (falls_or_stops at l js p.instruction) [ inl q ↦ q.1 | inr q ↦ absurd (q.0 falls) ] in
            subst (λ to. slice_get states to ≡ Some
            (known_there image x owner body bounds held (target_in to bounds.targets) (After l p.instruction)))
            (sym e)
            (ap (slice_get states) z ∙ after_here 0 ∙
            head_known (suc at) (Next at l js p.instruction) (jumped p.instruction l js) ps
            (known_there image x owner body bounds held (target_in (suc at) bounds.targets) (After l p.instruction))
            is_next
            (let m : length (p ∷ ps) ≡ suc (length ps) = refl in omega (arith, on, long, m)))

        landed : (to : ℕ) → JumpsTo image x owner body bounds held p.instruction to →
            slice_get states to ≡ Some (known_there image x owner body bounds held (target_in to bounds.targets)
            (After l p.instruction))
        landed to jumps =
            let f = jumps_forward at l js p.instruction to jumps (h.0 Flow) in
            let t = f.2 in
            let k : ℕ = to - suc at in
            let z : to ≡ suc at + k = omega (arith, f.0) in
            ap (slice_get states) z ∙ after_here k ∙
            place_known ps (suc at) (Next at l js p.instruction) (jumped p.instruction l js) h.1
            (next_fits at l js p.instruction h.0) k to (After l p.instruction).set t.0 z
            (let m : length (p ∷ ps) ≡ suc (length ps) = refl in omega (arith, f.0, f.1, long, m)) t.1
            (jump_set at l js p.instruction to jumps) ∙
            ap (λ o. Some (known_there image x owner body bounds held o (After l p.instruction))) (sym t.1)
    all_walk (p ∷ ps) at (Some l) js h fits from long code tail (suc k) placed known e f =
        let same : at + suc k ≡ suc at + k = omega arith in
        let here : slice_get body.instructions at ≡ Some p =
        (let z : at ≡ at + 0 = omega arith in ap (slice_get body.instructions) z ∙ code 0) in
        subst (λ a. Walks image x owner body bounds held states a known placed.instruction) (sym same)
        (all_walk ps (suc at) (Next at l js p.instruction) (jumped p.instruction l js) h.1
        (next_fits at l js p.instruction h.0) (more_sources at l js p here from)
        (let m : length (p ∷ ps) ≡ suc (length ps) = refl in omega (arith, long, m))
        (λ k. let z : suc at + k ≡ at + suc k = omega arith in ap (slice_get body.instructions) z ∙ code (suc k))
        (λ k. let z : suc at + k ≡ at + suc k = omega arith in ap (slice_get states) z ∙ tail (suc k))
        k placed known e f)

  pub body_walks : BodyPasses image x owner body bounds held → BodyWalks image x owner body bounds held
  body_walks b =
      let states : List Known = knowns 0 (Some at_first) [] body.instructions in
      record {
        name = b.name;
        parameters = b.parameters;
        vals = b.vals;
        states = states;
        long = knowns_length 0 (Some at_first) [] body.instructions;
        first = head_known 0 (Some at_first) [] body.instructions at_first refl (nonempty body.instructions b.some);
        each = λ at placed known e f. subst (λ a. Walks image x owner body bounds held states a known
            placed.instruction) (zero_and at)
            (all_walk states body.instructions 0 (Some at_first) [] b.all (λ t s f g. absurd (none_some g))
            (λ to s g. absurd (none_some g)) (omega arith)
            (λ k. ap (slice_get body.instructions) (zero_and k)) (λ k. ap (slice_get states) (zero_and k)) at placed
            known e f);
      }
    where
      zero_and : (k : ℕ) → 0 + k ≡ k
      zero_and k = omega arith

      nonempty : (ps : List Placed) → ps ≢ [] → 0 < length ps
      nonempty [] h = absurd (h refl)
      nonempty (p ∷ ps) h = omega arith
