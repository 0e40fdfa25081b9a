-- What a walk has with it where it comes to a place, and where it goes on.
use Rattle.std.proofs.Common.{◌≡◌, ℕ, Bool, true, false, List, length, refl, sym, ap, ◌∙◌, subst, Option, Some, None}
use Rattle.std.specs.Prelude.{IsTrue, ◌↔◌}
use Rattle.wy_code.specs.declared.instruction.Instruction.{Instruction}
use Rattle.wy_code.specs.declared.instruction.Instruction.TheVariants.{Push, Load, Store, Get, Set, Drop, Op, Jump}
use Rattle.wy_code.specs.declared.instruction.Instruction.TheVariants.{JumpFalse, New, Call, Return, Finish}
use Rattle.wy_code.specs.declared.instruction.Placed.{Placed}
use Rattle.wy_image.specs.declared.typing.Target.{Target}
use Rattle.wy_verified.specs.Passing.{set_at, jumped}
use Rattle.wy_verified.specs.declared.known.Jumped.{Jumped}
use Rattle.wy_verified.specs.declared.known.Known.{Known}
use Rattle.wy_verified.specs.Visiting.{FallsInState, falls}
use Rattle.wy_verified.specs.Walking.{target_in, RangeOk}
use Rattle.wy_verified.specs.declared.known.VerifyRule.{VerifyRule}
use Rattle.wy_verified.specs.declared.known.VerifyRule.TheVariants.{Flow, State}
use Rattle.wy_verified.proofs.Lists.{some_same}
use Rattle.wy_verify.proofs.Turning.{flow_first, falls_first, known_here, ruled}
use Rattle.wy_verify.specs.Sites.{Site, AreNoted, IsAt}
use Rattle.wy_verify.specs.Turns.{IsFlow, Visit, falling, comes, after_at, FallsAt, FallsIn, FallsTo, FallsToTypes, HasGone, HasLed, IsEntered, IsHereJudged, IsTurn, Turns}

module _ (s : Site) where
  -- what falls into a target
  pub falls_target : (v : Visit) (at : ℕ) (js : List Jumped) (t : Target) (noted : Option ℕ) (b : Bool) →
      v.falls ≡ true → Some t ≡ target_in at s.bounds.targets → noted ≡ set_at at js →
      (IsTrue b ↔ FallsIn s v.known t noted) → (IsTrue b ↔ FallsTo s (comes v) at js)
  falls_target v at js t noted b f e n h =
      subst (λ c. IsTrue b ↔ FallsTo s (falling c v.known) at js) (sym f)
      (subst (λ (o : Option Target). IsTrue b ↔
      FallsInState s.image s.x s.owner s.body s.bounds s.held (Some v.known) o (set_at at js)) e
      (subst (λ n. IsTrue b ↔ FallsIn s v.known t n) n h))

  abbrev Falls : Known → Instruction → Option Known
  Falls known i = falls s.image s.x s.owner s.body s.bounds s.held known i

  -- the next place is reached
  falls_on : (k l : Known) (i : Instruction) → FallsAt s i → l ≡ after_at s k i → Some l ≡ Falls k i
  falls_on k l (Push c) h e = ap Some e
  falls_on k l (Load a) h e = ap Some e
  falls_on k l (Store a) h e = ap Some e
  falls_on k l (Get a) h e = ap Some e
  falls_on k l (Set a) h e = ap Some e
  falls_on k l Drop h e = ap Some e
  falls_on k l (Op o) h e = ap Some e
  falls_on k l (Jump to) h e = absurd h
  falls_on k l (JumpFalse to) h e = ap Some e
  falls_on k l (New n) h e = ap Some e
  falls_on k l (Call m n) h e = ap Some e
  falls_on k l Return h e = absurd h
  falls_on k l Finish h e = absurd h

  -- .. or not
  falls_not : (k : Known) (i : Instruction) → (FallsAt s i → ⊥) → None ≡ Falls k i
  falls_not k (Push c) h = absurd (h tt)
  falls_not k (Load a) h = absurd (h tt)
  falls_not k (Store a) h = absurd (h tt)
  falls_not k (Get a) h = absurd (h tt)
  falls_not k (Set a) h = absurd (h tt)
  falls_not k Drop h = absurd (h tt)
  falls_not k (Op o) h = absurd (h tt)
  falls_not k (Jump to) h = refl
  falls_not k (JumpFalse to) h = absurd (h tt)
  falls_not k (New n) h = absurd (h tt)
  falls_not k (Call m n) h = absurd (h tt)
  falls_not k Return h = refl
  falls_not k Finish h = refl

  -- the walk has gone on to the next place
  pub gone_on : (v w : Visit) (i : Instruction) → length w.jumps ≡ length v.jumps →
      ((js : List Jumped) → AreNoted v.jumps js → AreNoted w.jumps (jumped i v.known js)) → w.falls ≡ true →
      FallsAt s i → w.known ≡ after_at s v.known i → HasGone s v w i
  gone_on v w i long noted b h e = record {
    long = long;
    noted = noted;
    falls = ap (λ b. falling b w.known) b ∙ falls_on v.known w.known i h e;
  }

  -- .. or not to it
  pub gone_not : (v w : Visit) (i : Instruction) → length w.jumps ≡ length v.jumps →
      ((js : List Jumped) → AreNoted v.jumps js → AreNoted w.jumps (jumped i v.known js)) → w.falls ≡ false →
      (FallsAt s i → ⊥) → HasGone s v w i
  gone_not v w i long noted b h = record {
    long = long;
    noted = noted;
    falls = ap (λ b. falling b w.known) b ∙ falls_not v.known i h;
  }

  ------------------------------------------------------------
  -- A turn

  same_at : (at : ℕ) (i j : Instruction) → IsAt s.body.instructions at i → IsAt s.body.instructions at j → i ≡ j
  same_at at i j a b = sym a.2 ∙ ap (λ (p : Placed). p.instruction) (some_same (sym a.1 ∙ b.1)) ∙ b.2

  abbrev InRange : Instruction → Type 0
  InRange i = RangeOk s.image s.x s.owner s.body s.bounds s.held i

  module _ (v : Visit) (at : ℕ) (i : Instruction) (is : IsAt s.body.instructions at i) (range : InRange i) where
    -- V-Flow does not hold
    pub turn_flow : (w : Visit) → HasLed s v at →
        ((js : List Jumped) (known : Known) → AreNoted v.jumps js → IsFlow s at known js i → ⊥) →
        IsTurn s v w at (Some Flow)
    turn_flow w led n = λ js j are js_at.
        subst (λ j. Turns s v w at (Some Flow) js j) (same_at at i j is js_at)
        (let k = known_here s v at js are led in record {
          known = k.0;
          here = k.1;
          judged = flow_first s at (comes v) k.0 js i range (n js k.0 are);
          long = λ e. absurd cc;
          noted = λ e. absurd cc;
          falls = λ e. absurd cc;
        })

    -- what falls in has not what the target says
    pub turn_falls : (w : Visit) → HasLed s v at →
        ((js : List Jumped) (known : Known) → AreNoted v.jumps js → IsFlow s at known js i) →
        ((js : List Jumped) → AreNoted v.jumps js → FallsTo s (comes v) at js → ⊥) → IsTurn s v w at (Some State)
    turn_falls w led f n = λ js j are js_at.
        subst (λ j. Turns s v w at (Some State) js j) (same_at at i j is js_at)
        (let k = known_here s v at js are led in record {
          known = k.0;
          here = k.1;
          judged = falls_first s at (comes v) k.0 js i range (f js k.0 are) (n js are);
          long = λ e. absurd cc;
          noted = λ e. absurd cc;
          falls = λ e. absurd cc;
        })

    -- the other rules
    pub turn_judged : (e w : Visit) (fits : Bool) (r : Option VerifyRule) →
        ((js : List Jumped) (known : Known) → AreNoted v.jumps js → IsFlow s at known js i) →
        ((js : List Jumped) → AreNoted v.jumps js → FallsTo s (comes v) at js) →
        (IsTrue fits ↔ FallsToTypes s (comes v) at) → IsEntered s v e at → IsHereJudged s e fits i r →
        (r ≡ None → HasGone s e w i) → IsTurn s v w at r
    turn_judged e w fits r f g t en h gone = λ js j are js_at.
        let noted : AreNoted e.jumps js = subst (λ (l : List (Option ℕ)). AreNoted l js) (sym en.jumps) are in
        subst (λ j. Turns s v w at r js j) (same_at at i j is js_at)
        (record {
          known = e.known;
          here = en.known js are;
          judged = ruled s at (comes v) e.known js i range (f js e.known are) (g js are) fits t r (h js noted);
          long = λ z. (gone z).long ∙ ap length en.jumps;
          noted = λ z. (gone z).noted js noted;
          falls = λ z. (gone z).falls;
        })
