-- One turn of the walk, and the walk from an address on.
use Rattle.std.proofs.Common.{◌⊎◌, ◌≡◌, ℕ, zero, suc, ◌+◌, ◌<◌, ◌≤◌, Bool, true, false, List, [], ◌∷◌, length, drop, replicate, inl, inr, refl, sym, ap, ◌∙◌, subst, Option, Some, None, arith}
use Rattle.std.specs.Prelude.{slice_get, nat_eq, if◌then◌else◌, IsTrue, ◌↔◌}
use Rattle.std.proofs.lemmas.Bool.{eqb-true}
use Rattle.wy_code.specs.declared.instruction.Instruction.{Instruction}
use Rattle.wy_code.specs.declared.instruction.Instruction.TheVariants.{Push, Load, Store, Get, Set, Drop, Op, Jump}
use Rattle.wy_code.specs.declared.instruction.Instruction.TheVariants.{JumpFalse, New, Call, Return, Finish}
use Rattle.wy_code.specs.declared.instruction.Placed.{Placed}
use Rattle.wy_image.specs.declared.typing.Target.{Target}
use Rattle.wy_verified.specs.Passing.{jumped, set_at}
use Rattle.wy_verified.specs.declared.known.Jumped.{Jumped}
use Rattle.wy_verified.specs.Rules.{at_first}
use Rattle.wy_verified.specs.declared.known.Known.{Known}
use Rattle.wy_verified.specs.Visiting.{here, falls}
use Rattle.wy_verified.specs.Walking.{Before, target_in, known_at}
use Rattle.wy_verified.specs.declared.known.VerifyRule.{VerifyRule}
use Rattle.wy_verified.specs.declared.known.VerifyRule.TheVariants.{Range, Argument, Flow, State, Depth, Types, Effect}
use Rattle.wy_verified.proofs.Lists.{drop_at, none_some}
use Rattle.std.proofs.lemmas.List.{length-replicate}
use Rattle.wy_verify.proofs.Jumping.{none_noted}
use Rattle.wy_verify.specs.declared.verdict.Verdict.{Verdict}
use Rattle.wy_verify.specs.declared.verdict.Verdict.TheVariants as verdict
use Rattle.wy_verify.specs.Sites.{Site, IsTested, AreNoted, IsAt}
use Rattle.wy_verify.specs.Turns.{IsFlow, here_at, IsJudged, Visit, falling, comes, FallsTo, FallsToTypes, HasLed, IsRuled, Turns, VerdictFrom, IsVerdict}

module _ (s : Site) where
  ------------------------------------------------------------
  -- The rules at an instruction, one after the other

  module _ (at : ℕ) (o : Option Known) (known : Known) (js : List Jumped) (i : Instruction) where
    abbrev P : VerifyRule → Type 0
    P r = IsTested s r at o known js i

    pub flow_first : P Range → (IsFlow s at known js i → ⊥) → IsJudged s at o known js i (Some Flow)
    flow_first range n = (before, n)
      where
        before : (r : VerifyRule) → Before r Flow → P r
        before Range h = range
        before Argument h = tt
        before Flow h = absurd (omega (arith, h))
        before State h = absurd (omega (arith, h))
        before Depth h = absurd (omega (arith, h))
        before Types h = absurd (omega (arith, h))
        before Effect h = absurd (omega (arith, h))

    state_first : P Range → P Flow → (P State → ⊥) → IsJudged s at o known js i (Some State)
    state_first range f n = (before, n)
      where
        before : (r : VerifyRule) → Before r State → P r
        before Range h = range
        before Argument h = tt
        before Flow h = f
        before State h = absurd (omega (arith, h))
        before Depth h = absurd (omega (arith, h))
        before Types h = absurd (omega (arith, h))
        before Effect h = absurd (omega (arith, h))

    depth_first : P Range → P Flow → P State → (P Depth → ⊥) → IsJudged s at o known js i (Some Depth)
    depth_first range f a n = (before, n)
      where
        before : (r : VerifyRule) → Before r Depth → P r
        before Range h = range
        before Argument h = tt
        before Flow h = f
        before State h = a
        before Depth h = absurd (omega (arith, h))
        before Types h = absurd (omega (arith, h))
        before Effect h = absurd (omega (arith, h))

    types_first : P Range → P Flow → P State → P Depth → (P Types → ⊥) → IsJudged s at o known js i (Some Types)
    types_first range f a d n = (before, n)
      where
        before : (r : VerifyRule) → Before r Types → P r
        before Range h = range
        before Argument h = tt
        before Flow h = f
        before State h = a
        before Depth h = d
        before Types h = absurd (omega (arith, h))
        before Effect h = absurd (omega (arith, h))

    effect_first : P Range → P Flow → P State → P Depth → P Types → (P Effect → ⊥) →
        IsJudged s at o known js i (Some Effect)
    effect_first range f a d t n = (before, n)
      where
        before : (r : VerifyRule) → Before r Effect → P r
        before Range h = range
        before Argument h = tt
        before Flow h = f
        before State h = a
        before Depth h = d
        before Types h = t
        before Effect h = absurd (omega (arith, h))

    no_first : P Range → P Flow → P State → P Depth → P Types → P Effect → IsJudged s at o known js i None
    no_first range f a d t e = all
      where
        all : (r : VerifyRule) → P r
        all Range = range
        all Argument = tt
        all Flow = f
        all State = a
        all Depth = d
        all Types = t
        all Effect = e

    -- what falls in has not what the target says
    pub falls_first : P Range → IsFlow s at known js i → (FallsTo s o at js → ⊥) → IsJudged s at o known js i (Some State)
    falls_first range f n = state_first range f (λ h. n h.0)

    -- the rules after V-Flow
    pub ruled : P Range → IsFlow s at known js i → FallsTo s o at js → (fits : Bool) →
        (IsTrue fits ↔ FallsToTypes s o at) → (r : Option VerifyRule) → IsRuled s known js fits i r →
        IsJudged s at o known js i r
    ruled range f g fits t None h =
        no_first range f (g, h.0.0, h.0.1, h.0.2) h.1 (t.0 h.2, h.3.0, h.3.1) h.4
    ruled range f g fits t (Some State) n = state_first range f (λ h. n (h.1, h.2, h.3))
    ruled range f g fits t (Some Depth) h = depth_first range f (g, h.0.0, h.0.1, h.0.2) h.1
    ruled range f g fits t (Some Types) h =
        types_first range f (g, h.0.0, h.0.1, h.0.2) h.1 (λ p. h.2 (t.1 p.0) (p.1, p.2))
    ruled range f g fits t (Some Effect) h =
        effect_first range f (g, h.0.0, h.0.1, h.0.2) h.1 (t.0 h.2, h.3.0, h.3.1) h.4
    ruled range f g fits t (Some Range) h = absurd h
    ruled range f g fits t (Some Argument) h = absurd h
    ruled range f g fits t (Some Flow) h = absurd h

  ------------------------------------------------------------
  -- What is known at a place

  -- something is known
  pub known_here : (v : Visit) (at : ℕ) (js : List Jumped) → AreNoted v.jumps js → HasLed s v at → (k : Known) ×
      (here_at s at (comes v) js ≡ Some k)
  known_here v at js are led = of v.falls refl
    where
      with_target : (t : Option Target) → (k : Known) ×
          (here s.image s.x s.owner s.body s.bounds s.held (Some v.known) t (set_at at js) ≡ Some k)
      with_target None = (v.known, refl)
      with_target (Some t) = (known_at s.x t v.known.set, refl)

      of : (b : Bool) → v.falls ≡ b → (k : Known) ×
          (here s.image s.x s.owner s.body s.bounds s.held (falling b v.known) (target_in at s.bounds.targets)
          (set_at at js) ≡ Some k)
      of true e = with_target (target_in at s.bounds.targets)
      of false e =
          let l = led e in
          let n : set_at at js ≡ Some (l.1.0) = sym (are at) ∙ l.1.1 in (
            known_at s.x l.0.0 l.1.0,
            ap (λ t. here s.image s.x s.owner s.body s.bounds s.held None t (set_at at js)) l.0.1 ∙
                ap (λ n. here s.image s.x s.owner s.body s.bounds s.held None (Some l.0.0) n) n,
          )

  ------------------------------------------------------------
  -- The walk

  -- each address to which a jump led is a stated target
  abbrev pub AreStated : List Jumped → Type 0
  AreStated js = (to n : ℕ) → set_at to js ≡ Some n → (t : Target) × (target_in to s.bounds.targets ≡ Some t)

  stated_one : (to : ℕ) (k : Known) (js : List Jumped) → (t : Target) × (target_in to s.bounds.targets ≡ Some t) →
      AreStated js → (a n : ℕ) → (if nat_eq to a then Some k.set else set_at a js) ≡ Some n →
      (t : Target) × (target_in a s.bounds.targets ≡ Some t)
  stated_one to k js t are a n e = of (nat_eq to a) refl
    where
      of : (c : Bool) → nat_eq to a ≡ c → (t : Target) × (target_in a s.bounds.targets ≡ Some t)
      of true f = subst (λ a. (t : Target) × (target_in a s.bounds.targets ≡ Some t)) (eqb-true to a f) t
      of false f = are a n (sym (ap (λ c. if c then Some k.set else set_at a js) f) ∙ e)

  stated_more : (at : ℕ) (k : Known) (js : List Jumped) (i : Instruction) → IsFlow s at k js i → AreStated js →
      AreStated (jumped i k js)
  stated_more at k js (Push c) h are = are
  stated_more at k js (Load a) h are = are
  stated_more at k js (Store a) h are = are
  stated_more at k js (Get a) h are = are
  stated_more at k js (Set a) h are = are
  stated_more at k js Drop h are = are
  stated_more at k js (Op o) h are = are
  stated_more at k js (Jump to) h are = stated_one to k js h.0.2 are
  stated_more at k js (JumpFalse to) h are = stated_one to k js h.0.2 are
  stated_more at k js (New l) h are = are
  stated_more at k js (Call m n) h are = are
  stated_more at k js Return h are = are
  stated_more at k js Finish h are = are

  -- where nothing falls in, a jump has led there, or it is the end
  led_next : (at : ℕ) (k : Known) (js : List Jumped) (i : Instruction) → IsFlow s at k js i →
      falls s.image s.x s.owner s.body s.bounds s.held k i ≡ None →
      (suc at ≡ length s.body.instructions) ⊎ ((n : ℕ) × (set_at (suc at) (jumped i k js) ≡ Some n))
  led_next at k js (Push c) h e = absurd cc
  led_next at k js (Load a) h e = absurd cc
  led_next at k js (Store a) h e = absurd cc
  led_next at k js (Get a) h e = absurd cc
  led_next at k js (Set a) h e = absurd cc
  led_next at k js Drop h e = absurd cc
  led_next at k js (Op o) h e = absurd cc
  led_next at k js (Jump to) h e = h.1
  led_next at k js (JumpFalse to) h e = absurd cc
  led_next at k js (New l) h e = absurd cc
  led_next at k js (Call m n) h e = absurd cc
  led_next at k js Return h e = h.1
  led_next at k js Finish h e = h.1

  -- what is true before each turn: what the rest of the walk comes to, the whole walk comes to
  pub record Goes (at : ℕ) (v : Visit) : Type 0 where
    pub js : List Jumped
    pub noted : AreNoted v.jumps js
    pub long : length v.jumps ≡ length s.body.instructions
    pub stated : AreStated js
    pub led : at < length s.body.instructions → HasLed s v at
    pub goes : (w : Verdict) → VerdictFrom s at (comes v) js (drop at s.body.instructions) w → IsVerdict s w

  none_falls : (b : Bool) (k : Known) (o : Option Known) → b ≡ false → falling b k ≡ o → o ≡ None
  none_falls true k o e f = absurd cc
  none_falls false k o e f = sym f

  goes_more : (at : ℕ) (v w : Visit) (g : Goes at v) (p : Placed) → slice_get s.body.instructions at ≡ Some p →
      Turns s v w at None (g.js) p.instruction → Goes (suc at) w
  goes_more at v w g p is t =
      let flow : IsFlow s at t.known g.js p.instruction = t.judged Flow in
      let stated = stated_more at t.known g.js p.instruction flow g.stated in
      record {
        js = jumped p.instruction t.known g.js;
        noted = t.noted refl;
        long = t.long refl ∙ g.long;
        stated = stated;
        led = λ lt e.
            elim (led_next at t.known g.js p.instruction flow (none_falls w.falls w.known _ e (t.falls refl))) [
              | inl h ↦ absurd (omega (arith, lt, h))
              | inr h ↦ (stated (suc at) h.0 h.1, (h.0, t.noted refl (suc at) ∙ h.1))
            ];
        goes = λ c h. g.goes c (subst (λ (ps : List Placed). VerdictFrom s at (comes v) g.js ps c)
            (sym (drop_at s.body.instructions at p is)) (of c h));
      }
    where
      Rest : Option Known → List Placed → Verdict → Type 0
      Rest o ps c = VerdictFrom s (suc at) o (jumped p.instruction t.known g.js) ps c

      of : (c : Verdict) → Rest (comes w) (drop (suc at) s.body.instructions) c →
          VerdictFrom s at (comes v) g.js (p ∷ drop (suc at) s.body.instructions) c
      of verdict.Passes h = (
        t.known,
        t.here,
        t.judged,
        subst (λ o. Rest o (drop (suc at) s.body.instructions) verdict.Passes) (t.falls refl) h,
      )
      of (verdict.Fails rule place) h = (
        t.known,
        t.here,
        inr (
          t.judged,
          subst (λ o. Rest o (drop (suc at) s.body.instructions) (verdict.Fails rule place)) (t.falls refl) h,
        ),
      )

  pub goes_on : (at : ℕ) (v w : Visit) (g : Goes at v) (i : Instruction) → IsAt s.body.instructions at i →
      Turns s v w at None (g.js) i → Goes (at + 1) w
  goes_on at v w g i is t =
      let z : suc at ≡ at + 1 = omega arith in
      subst (λ n. Goes n w) z
      (goes_more at v w g is.0 is.1 (subst (λ i. Turns s v w at None (g.js) i) (sym is.2) t))

  fails_here : (at : ℕ) (v w : Visit) (g : Goes at v) (p : Placed) (rule : VerifyRule) →
      slice_get s.body.instructions at ≡ Some p → Turns s v w at (Some rule) (g.js) p.instruction →
      IsVerdict s (verdict.Fails rule at)
  fails_here at v w g p rule is t =
      g.goes (verdict.Fails rule at) (subst (λ (ps : List Placed). VerdictFrom s at (comes v) g.js ps (verdict.Fails rule at))
      (sym (drop_at s.body.instructions at p is)) (t.known, t.here, inl (refl, t.judged.0, t.judged.1)))

  pub goes_fails : (at : ℕ) (v w : Visit) (g : Goes at v) (i : Instruction) (rule : VerifyRule) →
      IsAt s.body.instructions at i → Turns s v w at (Some rule) (g.js) i → IsVerdict s (verdict.Fails rule at)
  goes_fails at v w g i rule is t =
      fails_here at v w g is.0 rule is.1 (subst (λ i. Turns s v w at (Some rule) (g.js) i) (sym is.2) t)

  nothing_left : {X : Type 0} (xs : List X) (at : ℕ) → length xs ≤ at → drop at xs ≡ []
  nothing_left [] zero h = refl
  nothing_left [] (suc at) h = refl
  nothing_left (p ∷ ps) zero h = absurd (omega arith)
  nothing_left (p ∷ ps) (suc at) h = nothing_left ps at (omega arith)

  pub goes_passes : (at : ℕ) (v : Visit) → length s.body.instructions ≤ at → Goes at v → IsVerdict s verdict.Passes
  goes_passes at v le g =
      g.goes verdict.Passes (subst (λ (ps : List Placed). VerdictFrom s at (comes v) g.js ps verdict.Passes)
      (sym (nothing_left s.body.instructions at le)) tt)

  pub goes_first : (v : Visit) → v ≡ (record { known = at_first; falls = true; jumps = replicate (length s.body.instructions) None }) →
      Goes 0 v
  goes_first v e = subst (Goes 0) (sym e) (record {
    js = [];
    noted = none_noted (length s.body.instructions);
    long = length-replicate (length s.body.instructions) (let n : Option ℕ = None in n);
    stated = λ to n e. absurd (none_some e);
    led = λ lt e. absurd cc;
    goes = λ c h. h;
  })
