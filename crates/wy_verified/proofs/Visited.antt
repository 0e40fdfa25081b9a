-- A body that passes the walk with each test at its place follows the rules.
use Rattle.std.proofs.Common.{◌⊎◌, ◌≡◌, ℕ, suc, ◌+◌, ◌<◌, Bool, true, false, List, [], ◌∷◌, length, inl, inr, refl, sym}
use Rattle.std.proofs.Common.{ap, ◌∙◌, subst, Option, Some, None, arith}
use Rattle.std.specs.Prelude.{nat_eq, if◌then◌else◌}
use Rattle.std.proofs.lemmas.Bool.{eqb-true}
use Rattle.wy_text.specs.Members.{In}
use Rattle.wy_code.specs.declared.code.Body.{Body}
use Rattle.wy_code.specs.declared.instruction.Instruction.{Instruction}
use Rattle.wy_code.specs.declared.instruction.Instruction.TheVariants.{Push, Load, Store, Get, Set, Drop, Op, Jump}
use Rattle.wy_code.specs.declared.instruction.Instruction.TheVariants.{JumpFalse, New, Call, Return, Finish}
use Rattle.wy_code.specs.declared.instruction.Placed.{Placed}
use Rattle.wy_image.specs.declared.typing.Bounds.{Bounds}
use Rattle.wy_image.specs.declared.typing.Target.{Target}
use Rattle.wy_verified.specs.Images.{Image}
use Rattle.wy_verified.specs.Kinds.{Kind, kinds_in}
use Rattle.wy_verified.specs.Rules.{Known, Owner, at_first}
use Rattle.wy_verified.specs.Walking.{VerifyRule, Range, Argument, Flow, State, Depth, Types, Effect, target_in}
use Rattle.wy_verified.specs.Walking.{target_kinds, after, FallsThrough, IsTarget, MeetsState, MeetsTypes}
use Rattle.wy_verified.specs.Passing.{Jumped, set_at, jumped, MeetsSet, FlowPasses, Passes, PassesFrom, next, there}
use Rattle.wy_verified.specs.Visiting.{FallsInState, FallsInTypes, here, JumpsInState, Tests, falls, VisitsFrom}
use Rattle.wy_verified.proofs.Lists.{some_same, none_some, map_length, reversed_count}

module _ (image : Image) (x : ℕ) (owner : Owner) (body : Body) (bounds : Bounds) (held : ℕ) where
  abbrev After : Known → Instruction → Known
  After k i = after image x owner body bounds held k i

  abbrev Falls : Instruction → Type 0
  Falls i = FallsThrough image x owner body bounds held i

  abbrev Target_at : ℕ → Option Target
  Target_at at = target_in at bounds.targets

  falls_is : (k : Known) (i : Instruction) → Falls i → falls image x owner body bounds held k i ≡ Some (After k i)
  falls_is k (Push c) f = refl
  falls_is k (Load s) f = refl
  falls_is k (Store s) f = refl
  falls_is k (Get s) f = refl
  falls_is k (Set s) f = refl
  falls_is k Drop f = refl
  falls_is k (Op o) f = refl
  falls_is k (Jump to) f = absurd f
  falls_is k (JumpFalse to) f = refl
  falls_is k (New l) f = refl
  falls_is k (Call m n) f = refl
  falls_is k Return f = absurd f
  falls_is k Finish f = absurd f

  there_is : (k : Known) (t : Option Target) (s : Option ℕ) →
      there image x owner body bounds held k t ≡ here image x owner body bounds held (Some k) t s
  there_is k None s = refl
  there_is k (Some t) s = refl

  next_is : (at : ℕ) (k : Known) (js : List Jumped) (i : Instruction) →
      next image x owner body bounds held at k js i ≡ here image x owner body bounds held
      (falls image x owner body bounds held k i) (Target_at (suc at)) (set_at (suc at) (jumped i k js))
  next_is at k js (Push c) = there_is (After k (Push c)) (Target_at (suc at)) (set_at (suc at) js)
  next_is at k js (Load s) = there_is (After k (Load s)) (Target_at (suc at)) (set_at (suc at) js)
  next_is at k js (Store s) = there_is (After k (Store s)) (Target_at (suc at)) (set_at (suc at) js)
  next_is at k js (Get s) = there_is (After k (Get s)) (Target_at (suc at)) (set_at (suc at) js)
  next_is at k js (Set s) = there_is (After k (Set s)) (Target_at (suc at)) (set_at (suc at) js)
  next_is at k js Drop = there_is (After k Drop) (Target_at (suc at)) (set_at (suc at) js)
  next_is at k js (Op o) = there_is (After k (Op o)) (Target_at (suc at)) (set_at (suc at) js)
  next_is at k js (Jump to) = refl
  next_is at k js (JumpFalse to) =
      there_is (After k (JumpFalse to)) (Target_at (suc at)) (set_at (suc at) (jumped (JumpFalse to) k js))
  next_is at k js (New l) = there_is (After k (New l)) (Target_at (suc at)) (set_at (suc at) js)
  next_is at k js (Call m n) = there_is (After k (Call m n)) (Target_at (suc at)) (set_at (suc at) js)
  next_is at k js Return = refl
  next_is at k js Finish = refl

  -- what falls through is not the last
  more_behind : (at : ℕ) (js : List Jumped) (i : Instruction) → FlowPasses image x owner body bounds held at js i →
      Falls i → suc at < length body.instructions
  more_behind at js (Push c) h f = h
  more_behind at js (Load s) h f = h
  more_behind at js (Store s) h f = h
  more_behind at js (Get s) h f = h
  more_behind at js (Set s) h f = h
  more_behind at js Drop h f = h
  more_behind at js (Op o) h f = h
  more_behind at js (Jump to) h f = absurd f
  more_behind at js (JumpFalse to) h f = h.1
  more_behind at js (New l) h f = h
  more_behind at js (Call m n) h f = h
  more_behind at js Return h f = absurd f
  more_behind at js Finish h f = absurd f

  -- each address to which a jump led is a stated target
  abbrev AreStated : List Jumped → Type 0
  AreStated js = (to s : ℕ) → set_at to js ≡ Some s → IsTarget image x owner body bounds held to

  stated_one : (to : ℕ) (k : Known) (js : List Jumped) → IsTarget image x owner body bounds held to → AreStated js →
      (a s : ℕ) → (if nat_eq to a then Some k.set else set_at a js) ≡ Some s → IsTarget image x owner body bounds held a
  stated_one to k js t are a s e = of (nat_eq to a) refl
    where
      of : (c : Bool) → nat_eq to a ≡ c → IsTarget image x owner body bounds held a
      of true f = subst (IsTarget image x owner body bounds held) (eqb-true to a f) t
      of false f = are a s (sym (ap (λ c. if c then Some k.set else set_at a js) f) ∙ e)

  stated_more : (at : ℕ) (k : Known) (js more : List Jumped) (i : Instruction) →
      FlowPasses image x owner body bounds held at more i → AreStated js → AreStated (jumped i k js)
  stated_more at k js more (Push c) h are = are
  stated_more at k js more (Load s) h are = are
  stated_more at k js more (Store s) h are = are
  stated_more at k js more (Get s) h are = are
  stated_more at k js more (Set s) h are = are
  stated_more at k js more Drop h are = are
  stated_more at k js more (Op o) h are = are
  stated_more at k js more (Jump to) h are = stated_one to k js h.0.2 are
  stated_more at k js more (JumpFalse to) h are = stated_one to k js h.0.2 are
  stated_more at k js more (New l) h are = are
  stated_more at k js more (Call m n) h are = are
  stated_more at k js more Return h are = are
  stated_more at k js more Finish h are = are

  -- what falls in, as it was looked at where it came from
  meets_state : (k : Known) (t : Option Target) (s : Option ℕ) →
      FallsInState image x owner body bounds held (Some k) t s → MeetsState image x owner body bounds held k t
  meets_state k None s h = tt
  meets_state k (Some t) s h = h.0

  meets_types : (k : Known) (t : Option Target) → FallsInTypes image x owner body bounds held (Some k) t →
      MeetsTypes image x owner body bounds held k t
  meets_types k None h = tt
  meets_types k (Some t) h = h

  -- the fields set, by the jumps before this instruction
  old_set : (at : ℕ) (k : Known) (js : List Jumped) (i : Instruction) → Falls i →
      JumpsInState image x owner body bounds held k js i → (s : ℕ) → set_at (suc at) js ≡ Some s →
      MeetsSet image x owner body bounds held (After k i).set (set_at (suc at) (jumped i k js)) →
      MeetsSet image x owner body bounds held (After k i).set (set_at (suc at) js)
  old_set at k js (Push c) f j s e h = h
  old_set at k js (Load a) f j s e h = h
  old_set at k js (Store a) f j s e h = h
  old_set at k js (Get a) f j s e h = h
  old_set at k js (Set a) f j s e h = h
  old_set at k js Drop f j s e h = h
  old_set at k js (Op o) f j s e h = h
  old_set at k js (Jump to) f j s e h = absurd f
  old_set at k js (JumpFalse to) f j s e h = of (nat_eq to (suc at)) refl
    where
      of : (c : Bool) → nat_eq to (suc at) ≡ c →
          MeetsSet image x owner body bounds held (After k (JumpFalse to)).set (set_at (suc at) js)
      of true g = (j (suc at) (eqb-true to (suc at) g)).1
      of false g =
          subst (λ o. MeetsSet image x owner body bounds held (After k (JumpFalse to)).set o)
          (ap (λ c. if c then Some k.set else set_at (suc at) js) g) h
  old_set at k js (New l) f j s e h = h
  old_set at k js (Call m n) f j s e h = h
  old_set at k js Return f j s e h = absurd f
  old_set at k js Finish f j s e h = absurd f

  meets_set : (at : ℕ) (k : Known) (js : List Jumped) (i : Instruction) → Falls i → AreStated js →
      JumpsInState image x owner body bounds held k js i →
      FallsInState image x owner body bounds held (Some (After k i)) (Target_at (suc at))
      (set_at (suc at) (jumped i k js)) → MeetsSet image x owner body bounds held (After k i).set
      (set_at (suc at) js)
  meets_set at k js i f are j h = of (set_at (suc at) js) refl
    where
      of : (o : Option ℕ) → set_at (suc at) js ≡ o →
          MeetsSet image x owner body bounds held (After k i).set (set_at (suc at) js)
      of None e = subst (λ o. MeetsSet image x owner body bounds held (After k i).set o) (sym e) tt
      of (Some s) e =
          let t = are (suc at) s e in
          old_set at k js i f j s e (subst (λ o. FallsInState image x owner body bounds held (Some (After k i)) o
          (set_at (suc at) (jumped i k js))) t.1 h).1

  abbrev Enters : ℕ → Known → List Jumped → Instruction → Type 0
  Enters at k js i = Falls i →
      FallsInState image x owner body bounds held (Some (After k i)) (Target_at (suc at))
      (set_at (suc at) (jumped i k js)) × FallsInTypes image x owner body bounds held (Some (After k i))
      (Target_at (suc at))

  rules : (at : ℕ) (o : Option Known) (k : Known) (js : List Jumped) (i : Instruction) → AreStated js →
      Enters at k js i → ((r : VerifyRule) → Tests image x owner body bounds held r at o k js i) →
      (r : VerifyRule) → Passes image x owner body bounds held r at k js i
  rules at o k js i are enters h Range = h Range
  rules at o k js i are enters h Argument = tt
  rules at o k js i are enters h Flow = h Flow
  rules at o k js i are enters h State =
      let s = h State in (
        (
          s.1,
          s.2,
          λ to leads. elim leads [
            | inl f ↦ subst (λ to. MeetsState image x owner body bounds held (After k i) (Target_at to)) (sym f.1)
                (meets_state (After k i) (Target_at (suc at)) (set_at (suc at) (jumped i k js)) (enters f.0).0)
            | inr j ↦ (s.3 to j).0
          ],
        ),
        λ to leads. elim leads [
          | inl f ↦ subst (λ to. MeetsSet image x owner body bounds held (After k i).set (set_at to js)) (sym f.1)
              (meets_set at k js i f.0 are s.3 (enters f.0).0)
          | inr j ↦ (s.3 to j).1
        ],
      )
  rules at o k js i are enters h Depth = h Depth
  rules at o k js i are enters h Types =
      let s = h Types in (
        s.1,
        λ to leads. elim leads [
          | inl f ↦ subst (λ to. MeetsTypes image x owner body bounds held (After k i) (Target_at to)) (sym f.1)
              (meets_types (After k i) (Target_at (suc at)) (enters f.0).1)
          | inr j ↦ s.2 to j
        ],
      )
  rules at o k js i are enters h Effect = h Effect

  enters_next : (at : ℕ) (k : Known) (js : List Jumped) (i : Instruction) (ps : List Placed) →
      suc at + length ps ≡ length body.instructions → FlowPasses image x owner body bounds held at (jumped i k js) i →
      VisitsFrom image x owner body bounds held (suc at) (falls image x owner body bounds held k i) (jumped i k js) ps →
      Enters at k js i
  enters_next at k js i [] long flow h f =
      absurd (let m = more_behind at (jumped i k js) i flow f in omega (arith, long, m))
  enters_next at k js i (q ∷ ps) long flow h f =
      let e = falls_is k i f in
      let s = (h.2 State).0 in
      let t = (h.2 Types).0 in (
        subst (λ o. FallsInState image x owner body bounds held o (Target_at (suc at)) (set_at (suc at) (jumped i k js)))
            e s,
        subst (λ o. FallsInTypes image x owner body bounds held o (Target_at (suc at))) e t,
      )

  tail : (at : ℕ) (k : Known) (js : List Jumped) (i : Instruction) (ps : List Placed) →
      VisitsFrom image x owner body bounds held (suc at) (falls image x owner body bounds held k i) (jumped i k js) ps →
      ((l : Known) → here image x owner body bounds held (falls image x owner body bounds held k i) (Target_at (suc at))
      (set_at (suc at) (jumped i k js)) ≡ Some l →
      PassesFrom image x owner body bounds held (suc at) (Some l) (jumped i k js) ps) →
      PassesFrom image x owner body bounds held (suc at) (next image x owner body bounds held at k js i) (jumped i k js)
      ps
  tail at k js i [] h later = tt
  tail at k js i (q ∷ ps) h later =
      subst (λ o. PassesFrom image x owner body bounds held (suc at) o (jumped i k js) (q ∷ ps))
      (sym (next_is at k js i ∙ h.1)) (later h.0 h.1)

  pub visits_pass : (ps : List Placed) (at : ℕ) (o : Option Known) (js : List Jumped) (k : Known) →
      at + length ps ≡ length body.instructions → AreStated js →
      here image x owner body bounds held o (Target_at at) (set_at at js) ≡ Some k →
      VisitsFrom image x owner body bounds held at o js ps →
      PassesFrom image x owner body bounds held at (Some k) js ps
  visits_pass [] at o js k long are e h = tt
  visits_pass (p ∷ ps) at o js k long are e h =
      let i : Instruction = p.instruction in
      let longer : suc at + length ps ≡ length body.instructions = omega (arith, long) in
      let more = stated_more at h.0 js (jumped i h.0 js) i (h.2 Flow) are in
      subst (λ (k : Known). PassesFrom image x owner body bounds held at (Some k) js (p ∷ ps)) (some_same (sym h.1 ∙ e)) (
        rules at o h.0 js i are (enters_next at h.0 js i ps longer (h.2 Flow) h.3) h.2,
        tail at h.0 js i ps h.3 (λ l f. visits_pass ps (suc at) (falls image x owner body bounds held h.0 i)
            (jumped i h.0 js) l longer more f h.3),
      )

  -- a body begins with nothing known, also where a target is stated for its first instruction
  nothing : {X : Type 0} (xs : List X) → length xs ≡ 0 → xs ≡ []
  nothing [] e = refl
  nothing (y ∷ xs) e = absurd (omega arith)

  none_in : (xs : List ℕ) → ((s : ℕ) → In s xs → In s []) → xs ≡ []
  none_in [] h = refl
  none_in (y ∷ xs) h = absurd (h y (inl refl))

  begins : (t : Option Target) (s : Option ℕ) → FallsInState image x owner body bounds held (Some at_first) t s →
      here image x owner body bounds held (Some at_first) t s ≡ Some at_first
  begins None s h = refl
  begins (Some t) s h =
      let none : target_kinds x t ≡ [] =
      nothing (target_kinds x t) (let a = h.0.0 in let b = reversed_count (kinds_in x t.operands) in let c =
      map_length (Rattle.wy_verified.specs.Kinds.kind_in x) t.operands in
      let z : length {A = Kind} [] ≡ 0 = refl in omega (arith, a, b, c, z)) in
      ap (λ (ks : List Kind). Some (let k : Known = record { operands = ks; stored = t.stored; set = 0 } in k)) none ∙
      ap (λ (ss : List ℕ). Some (let k : Known = record { operands = []; stored = ss; set = 0 } in k))
      (none_in t.stored h.0.1)

  pub body_passes_from : VisitsFrom image x owner body bounds held 0 (Some at_first) [] body.instructions →
      PassesFrom image x owner body bounds held 0 (Some at_first) [] body.instructions
  body_passes_from h = of body.instructions refl h
    where
      of : (ps : List Placed) → body.instructions ≡ ps →
          VisitsFrom image x owner body bounds held 0 (Some at_first) [] ps →
          PassesFrom image x owner body bounds held 0 (Some at_first) [] ps
      of [] e h = tt
      of (p ∷ ps) e h =
          visits_pass (p ∷ ps) 0 (Some at_first) [] at_first (let l = ap length e in omega (arith, l))
          (λ to s f. absurd (none_some f)) (begins (Target_at 0) None (h.2 State).0) h

  ------------------------------------------------------------
  -- .. and the other way round

  falls_either : (k : Known) (i : Instruction) →
      (Falls i × (falls image x owner body bounds held k i ≡ Some (After k i))) ⊎
      (falls image x owner body bounds held k i ≡ None)
  falls_either k (Push c) = inl (tt, refl)
  falls_either k (Load s) = inl (tt, refl)
  falls_either k (Store s) = inl (tt, refl)
  falls_either k (Get s) = inl (tt, refl)
  falls_either k (Set s) = inl (tt, refl)
  falls_either k Drop = inl (tt, refl)
  falls_either k (Op o) = inl (tt, refl)
  falls_either k (Jump to) = inr refl
  falls_either k (JumpFalse to) = inl (tt, refl)
  falls_either k (New l) = inl (tt, refl)
  falls_either k (Call m n) = inl (tt, refl)
  falls_either k Return = inr refl
  falls_either k Finish = inr refl

  new_set : (at : ℕ) (k : Known) (js : List Jumped) (i : Instruction) → Falls i →
      MeetsSet image x owner body bounds held (After k i).set (set_at (suc at) js) →
      MeetsSet image x owner body bounds held (After k i).set (set_at (suc at) (jumped i k js))
  new_set at k js (Push c) f h = h
  new_set at k js (Load s) f h = h
  new_set at k js (Store s) f h = h
  new_set at k js (Get s) f h = h
  new_set at k js (Set s) f h = h
  new_set at k js Drop f h = h
  new_set at k js (Op o) f h = h
  new_set at k js (Jump to) f h = absurd f
  new_set at k js (New l) f h = h
  new_set at k js (Call m n) f h = h
  new_set at k js Return f h = absurd f
  new_set at k js Finish f h = absurd f
  new_set at k js (JumpFalse to) f h = of (nat_eq to (suc at)) refl
    where
      of : (c : Bool) → nat_eq to (suc at) ≡ c →
          MeetsSet image x owner body bounds held (After k (JumpFalse to)).set
          (if nat_eq to (suc at) then Some k.set else set_at (suc at) js)
      of true g =
          subst (λ o. MeetsSet image x owner body bounds held (After k (JumpFalse to)).set o)
          (sym (ap (λ c. if c then Some k.set else set_at (suc at) js) g)) refl
      of false g =
          subst (λ o. MeetsSet image x owner body bounds held (After k (JumpFalse to)).set o)
          (sym (ap (λ c. if c then Some k.set else set_at (suc at) js) g)) h

  abbrev Entry : ℕ → Option Known → List Jumped → Type 0
  Entry at o js =
      FallsInState image x owner body bounds held o (Target_at at) (set_at at js) ×
      FallsInTypes image x owner body bounds held o (Target_at at)

  entry_state : (k : Known) (t : Option Target) (s : Option ℕ) → MeetsState image x owner body bounds held k t →
      MeetsSet image x owner body bounds held k.set s → FallsInState image x owner body bounds held (Some k) t s
  entry_state k None s m e = tt
  entry_state k (Some t) s m e = (m, e)

  entry_types : (k : Known) (t : Option Target) → MeetsTypes image x owner body bounds held k t →
      FallsInTypes image x owner body bounds held (Some k) t
  entry_types k None m = tt
  entry_types k (Some t) m = m

  next_entry : (at : ℕ) (k : Known) (js : List Jumped) (i : Instruction) →
      ((r : VerifyRule) → Passes image x owner body bounds held r at k js i) →
      Entry (suc at) (falls image x owner body bounds held k i) (jumped i k js)
  next_entry at k js i h = elim (falls_either k i) [
    | inl f ↦ subst (λ o. Entry (suc at) o (jumped i k js)) (sym f.1) (
      entry_state (After k i) (Target_at (suc at)) (set_at (suc at) (jumped i k js))
          ((h State).0.2 (suc at) (inl (f.0, refl))) (new_set at k js i f.0 ((h State).1 (suc at) (inl (f.0, refl)))),
      entry_types (After k i) (Target_at (suc at)) ((h Types).1 (suc at) (inl (f.0, refl))),
    )
    | inr e ↦ subst (λ o. Entry (suc at) o (jumped i k js)) (sym e) (tt, tt)
  ]

  tests_of : (at : ℕ) (o : Option Known) (k : Known) (js : List Jumped) (i : Instruction) → Entry at o js →
      ((r : VerifyRule) → Passes image x owner body bounds held r at k js i) →
      (r : VerifyRule) → Tests image x owner body bounds held r at o k js i
  tests_of at o k js i entry h Range = h Range
  tests_of at o k js i entry h Argument = tt
  tests_of at o k js i entry h Flow = h Flow
  tests_of at o k js i entry h State =
      (entry.0, (h State).0.0, (h State).0.1, λ to j. ((h State).0.2 to (inr j), (h State).1 to (inr j)))
  tests_of at o k js i entry h Depth = h Depth
  tests_of at o k js i entry h Types = (entry.1, (h Types).0, λ to j. (h Types).1 to (inr j))
  tests_of at o k js i entry h Effect = h Effect

  behind : (at : ℕ) (k : Known) (js : List Jumped) (i : Instruction) (ps : List Placed) (o : Option Known) →
      next image x owner body bounds held at k js i ≡ o →
      PassesFrom image x owner body bounds held (suc at) o (jumped i k js) ps →
      ((l : Known) → here image x owner body bounds held (falls image x owner body bounds held k i) (Target_at (suc at))
      (set_at (suc at) (jumped i k js)) ≡ Some l →
      PassesFrom image x owner body bounds held (suc at) (Some l) (jumped i k js) ps →
      VisitsFrom image x owner body bounds held (suc at) (falls image x owner body bounds held k i) (jumped i k js)
      ps) →
      VisitsFrom image x owner body bounds held (suc at) (falls image x owner body bounds held k i) (jumped i k js) ps
  behind at k js i [] o e h later = tt
  behind at k js i (q ∷ ps) None e h later = absurd h
  behind at k js i (q ∷ ps) (Some l) e h later = later l (sym (next_is at k js i) ∙ e) h

  pub passes_visit : (ps : List Placed) (at : ℕ) (o : Option Known) (js : List Jumped) (k : Known) →
      here image x owner body bounds held o (Target_at at) (set_at at js) ≡ Some k → Entry at o js →
      PassesFrom image x owner body bounds held at (Some k) js ps → VisitsFrom image x owner body bounds held at o js ps
  passes_visit [] at o js k e entry h = tt
  passes_visit (p ∷ ps) at o js k e entry h = (
    k,
    e,
    tests_of at o k js p.instruction entry h.0,
    behind at k js p.instruction ps (next image x owner body bounds held at k js p.instruction) refl h.1
        (λ l f g. passes_visit ps (suc at) (falls image x owner body bounds held k p.instruction)
        (jumped p.instruction k js) l f (next_entry at k js p.instruction h.0) g),
  )

  -- where no target is stated for the first instruction, as none is of code that was lowered
  pub body_visits : Target_at 0 ≡ None → PassesFrom image x owner body bounds held 0 (Some at_first) []
      body.instructions → VisitsFrom image x owner body bounds held 0 (Some at_first) [] body.instructions
  body_visits none h =
      passes_visit body.instructions 0 (Some at_first) [] at_first
      (ap (λ t. here image x owner body bounds held (Some at_first) t None) none) (
        subst (λ t. FallsInState image x owner body bounds held (Some at_first) t None) (sym none) tt,
        subst (λ t. FallsInTypes image x owner body bounds held (Some at_first) t) (sym none) tt,
      ) h
