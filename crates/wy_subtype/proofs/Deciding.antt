-- Deciding a pair: what is known of the pair at a place settles it, and what exploring a list keeps.
use Rattle.std.proofs.Common.{◌≡◌, ℕ, zero, suc, ◌+◌, ◌<◌, ◌≤◌, List, [], ◌∷◌, inl, inr, length, refl, sym, ap, ◌∙◌, subst, arith, Option, Some, None}
use Rattle.std.specs.Prelude.{slice_get}
use Rattle.std.specs.Option.{IfSome, IfNone}
use Rattle.std.proofs.Math.ListN.{length-append}
use Rattle.wy_text.specs.Members.{In, Apart}
use Rattle.wy_types.specs.InRange.{IsInRange}
use Rattle.wy_types.specs.declared.path.Step.{Step}
use Rattle.wy_subtype.specs.declared.verdict.Cause.{Cause}
use Rattle.wy_subtype.specs.declared.node.Outcome.{Outcome}
use Rattle.wy_subtype.specs.declared.entry.Entry.{Entry}
use Rattle.wy_subtype.specs.Verdict.{IsSubtypeIn, FailsAt}
use Rattle.wy_subtype.specs.Steps.{Pair}
use Rattle.wy_subtype.specs.Nodes.{Continues, IsOutcome}
use Rattle.wy_subtype.specs.Work.{entry_node, GoesOn}
use Rattle.wy_subtype.specs.Decided.{About, Decided, Grows}
use Rattle.wy_subtype.specs.Worklist.{Met, met_pair, met_by, mets, IsSeen, IsPathTo, MetFails, Advances, BeginsWith, IsWork}
use Rattle.wy_subtype.proofs.Places.{slice_get-within}
use Rattle.wy_subtype.proofs.Knowing.{continues_at}
use Rattle.wy_subtype.proofs.Working.{advances_asking, advances_known, begins_still, work_start, work_more, work_all, first_holds, fails_at}
use Rattle.wy_subtype.proofs.Growing.{reached_met, grows_none, grows_on, there_still}

-- what a list stands for stays while pairs come behind
pub mets_still : (old new : List Pair) (es : List Entry) → Continues old new → ((e : Entry) → In e es → e.node < length old) → mets new es ≡ mets old es
mets_still old new [] c h = refl
mets_still old new (e ∷ es) c h =
    ap (λ (v : Pair). let m : Met = record { pair = v; parent = e.parent } in m ∷ mets new es) (continues_at old new e.node c (h e (inl refl))) ∙
    ap (λ (l : List Met). met_by old e ∷ l) (mets_still old new es c (λ x i. h x (inr i)))

-- from what is known of the pair at a place
module _ (about : About) (core : IsInRange about.program) (ps : List Pair) (apart : Apart ps) (o : Outcome) (at : ℕ) (es new : List Entry) (m : Met) (is : slice_get (mets ps es) at ≡ Some m) (right : IsOutcome about ps m.pair o)
    (seen : IsSeen about.program about.scope about.mode (mets ps es)) (within : (e : Entry) → In e es → e.node < length ps) where
  Right : Outcome → Type 0
  Right v = IsOutcome about ps m.pair v

  pub went_fails : (r : Option Cause) → GoesOn o at es new r → IfSome r (λ c. MetFails about.program about.scope about.mode (mets ps new) at c)
  unfolding Right
  went_fails None h = tt
  went_fails (Some c) h = (m, ap (λ (l : List Entry). slice_get (mets ps l) at) h.1 ∙ is, subst Right h.0 right)

  pub went_same : (r : Option Cause) → GoesOn o at es new r → IfSome r (λ _. mets ps new ≡ mets ps es)
  went_same None h = tt
  went_same (Some c) h = ap (mets ps) h.1

  pub went_on : (r : Option Cause) → GoesOn o at es new r → IfNone r (Advances about.program about.scope about.mode (mets ps es) (mets ps new) at)
  unfolding Right
  went_on (Some c) h = tt
  went_on None (inl h) = advances_known about.program about.scope about.mode (mets ps es) (mets ps new) at m is (subst Right h.0 right) (ap (mets ps) h.1) seen
  went_on None (inr h) = (advances_asking about core ps apart h.0 es new at m is (subst Right h.1 right) seen within h.2).0

  pub went_within : (r : Option Cause) → GoesOn o at es new r → (e : Entry) → In e new → e.node < length ps
  unfolding Right
  went_within (Some c) h = let P : List Entry → Type 0 = λ l. (e : Entry) → In e l → entry_node e < length ps in subst P (sym h.1) within
  went_within None (inl h) = let P : List Entry → Type 0 = λ l. (e : Entry) → In e l → entry_node e < length ps in subst P (sym h.1) within
  went_within None (inr h) = (advances_asking about core ps apart h.0 es new at m is (subst Right h.1 right) seen within h.2).1

-- the pairs before a place were tested, the table has grown from the first pair, and has it once it was tested
pub record IsExploring (first ms : List Met) (next : ℕ) (old new : Decided) (before after : ℕ) : Type 0 where
  pub work : IsWork old.about.program old.about.scope old.about.mode first ms next
  pub same : new.about ≡ old.about
  pub grows : (q : Pair) → BeginsWith q first → Grows q old new before after
  pub there : (q : Pair) → BeginsWith q first → 0 < next → In q new.pairs

pub explore_start : (first : List Met) (old : Decided) (before : ℕ) → IsSeen old.about.program old.about.scope old.about.mode first → IsExploring first first 0 old old before before
explore_start first old before seen = record {
  work = work_start old.about.program old.about.scope old.about.mode first seen;
  same = refl;
  grows = λ q b. grows_none q old old before before refl refl;
  there = λ q b h. absurd (omega (arith, h));
}

pub exploring_seen : (first ms : List Met) (next : ℕ) (old new : Decided) (before after : ℕ) → IsExploring first ms next old new before after → IsSeen new.about.program new.about.scope new.about.mode ms
exploring_seen first ms next old new before after x =
    let P : About → Type 0 = λ v. IsSeen v.program v.scope v.mode ms in
    subst P (sym x.same) x.work.seen

-- the table after the pair at the next place was looked at
module _ (first ms : List Met) (next : ℕ) (old mid new : Decided) (before between after : ℕ) (x : IsExploring first ms next old mid before between) (lt : next < length ms)
    (grown : (m : Met) → slice_get ms next ≡ Some m → Grows (m.pair) mid new between after) where
  pub explored_grows : (q : Pair) → BeginsWith q first → Grows q old new before after
  explored_grows q b =
      let r = slice_get-within ms next lt in
      let still = begins_still old.about.program old.about.scope old.about.mode q first ms next x.work b in
      grows_on q (met_pair r.0) old mid new before between after (reached_met old.about q ms x.work.seen still next r.0 r.1) (x.grows q b) (grown r.0 r.1)

  pub explored_same : new.about ≡ old.about
  explored_same = (let r = slice_get-within ms next lt in (grown r.0 r.1).same ∙ x.same)

  module _ (there : (m : Met) → slice_get ms next ≡ Some m → In (m.pair) new.pairs) where
    pub explored_there : (q : Pair) → BeginsWith q first → In q new.pairs
    explored_there q b =
        let r = slice_get-within ms next lt in
        let still = begins_still old.about.program old.about.scope old.about.mode q first ms next x.work b in
        by_place next refl (λ (z : next ≡ 0). (
        let P : ℕ → Type 0 = λ n. slice_get ms n ≡ Some r.0 in
        let f : Some still.0 ≡ Some r.0 = sym still.1 ∙ subst P z r.1 in
        let same : still.0 ≡ r.0 = cc in
        let Q : Pair → Type 0 = λ v. In v new.pairs in
        subst Q (sym (ap met_pair same) ∙ still.2) (there r.0 r.1)
        )) (λ (lt' : 0 < next). there_still (met_pair r.0) q mid new between after (grown r.0 r.1) (x.there q b lt'))
      where
        by_place : {X : Type 0} (n : ℕ) → next ≡ n → (next ≡ 0 → X) → (0 < next → X) → X
        by_place zero e f g = f e
        by_place (suc n) e f g = g (omega (arith, e))

    pub explore_more : (ms' : List Met) → Advances mid.about.program mid.about.scope mid.about.mode ms ms' next → IsExploring first ms' (next + 1) old new before after
    explore_more ms' adv =
        let P : About → Type 0 = λ v. Advances v.program v.scope v.mode ms ms' next in
        record {
          work = work_more old.about.program old.about.scope old.about.mode first ms ms' next lt x.work (subst P x.same adv);
          same = explored_same;
          grows = explored_grows;
          there = λ q b h. explored_there q b;
        }

-- a pair that fails refutes the first
pub explored_fails : (first ms : List Met) (next : ℕ) (old mid : Decided) (before between : ℕ) → IsExploring first ms next old mid before between → (c : Cause) → MetFails mid.about.program mid.about.scope mid.about.mode ms next c →
    (path : List Step) → IsPathTo old.about.program old.about.scope old.about.mode ms next path → (q : Pair) → BeginsWith q first → FailsAt old.about.program old.about.scope old.about.mode q path c
explored_fails first ms next old mid before between x c f path to q b =
    let P : About → Type 0 = λ v. MetFails v.program v.scope v.mode ms next c in
    let still = begins_still old.about.program old.about.scope old.about.mode q first ms next x.work b in
    fails_at old.about.program old.about.scope old.about.mode ms q still path next c (subst P x.same f) to

-- once all is worked off
module _ (first ms : List Met) (next : ℕ) (old mid : Decided) (before between : ℕ) (x : IsExploring first ms next old mid before between) (le : length ms ≤ next) where
  pub explored_some : 0 < length first → 0 < next
  explored_some h = omega (arith, ap (λ (l : List Met). length l) x.work.extends.1, length-append first x.work.extends.0)

  pub explored_all : (m : Met) → In m ms → IsSubtypeIn mid.about.program mid.about.scope mid.about.mode m.pair.0 m.pair.1
  explored_all m i =
      let P : About → Type 0 = λ v. IsSubtypeIn v.program v.scope v.mode m.pair.0 m.pair.1 in
      subst P (sym x.same) (work_all old.about.program old.about.scope old.about.mode first ms next le x.work m i)

  pub explored_yes : (q : Pair) → BeginsWith q first → IsSubtypeIn old.about.program old.about.scope old.about.mode q.0 q.1
  explored_yes q b =
      first_holds old.about.program old.about.scope old.about.mode q ms (begins_still old.about.program old.about.scope old.about.mode q first ms next x.work b)
      (work_all old.about.program old.about.scope old.about.mode first ms next le x.work)
