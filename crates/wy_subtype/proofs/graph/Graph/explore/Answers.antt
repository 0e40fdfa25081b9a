use Rattle.std.proofs.Common.{◌≡◌, ◌<◌, ◌≤◌, List, length, arith, ap, rules, subst, sym}
use Rattle.std.proofs.lemmas.List.{length-map}
use Rattle.wy_types.specs.Program.{program_of}
use Rattle.wy_types.proofs.Finite.{pair_bound}
use Rattle.wy_text.specs.Members.{In}
use Rattle.wy_subtype.specs.declared.entry.Entry.{Entry}
use Rattle.wy_subtype.specs.declared.graph.Graph.{Graph}
use Rattle.wy_subtype.specs.Decided.{About, Decided, Grows}
use Rattle.wy_subtype.specs.Graph.{about_of, pairs_in, decided_of, mets_in, AreNumbers}
use Rattle.wy_subtype.specs.Worklist.{Met, met_by, IsSeen, MetFails, IsPathTo}
use Rattle.wy_subtype.proofs.Working.{work_left}
use Rattle.wy_subtype.proofs.Deciding.{explore_start, exploring_seen, explored_grows, explored_same, explored_there, explore_more, explored_fails, explored_some, explored_all, explored_yes}
use Rattle.wy_subtype.proofs.graph.Graph.explore.Goals as goal

pub loop-next-init : goal.loop-next-init
loop-next-init g c = record {
  graph = c.requires.graph;
  numbers = c.requires.numbers;
  exploring = explore_start (mets_in c.args.self.now c.args.work.now) (decided_of c.args.self.now) c.args.steps.now c.requires.seen;
}

pub advance-requires-clause-seen : goal.advance-requires-clause-seen
advance-requires-clause-seen g c =
    exploring_seen (mets_in c.args.self.now c.args.work.now) (mets_in c.loop-next.self c.loop-next.work) c.loop-next.next (decided_of c.args.self.now) (decided_of c.loop-next.self) c.args.steps.now c.loop-next.steps c.loop-next.invariant.exploring

pub path_to-requires : goal.path_to-requires
path_to-requires g c =
    let mid : Graph = c.loop-next.self in
    let new : Graph = c.advance.new.self in
    let es : List Entry = c.advance.new.work in
    let first : List Met = mets_in c.args.self.now c.args.work.now in
    let ms : List Met = mets_in mid c.loop-next.work in
    let lt : c.loop-next.next < length c.loop-next.work = search rules in
    let lm : c.loop-next.next < length ms = omega (arith, lt, length-map c.loop-next.work (met_by (pairs_in mid))) in
    let about : about_of new ≡ about_of c.args.self.now =
    explored_same first ms c.loop-next.next (decided_of c.args.self.now) (decided_of mid) (decided_of new) c.args.steps.now c.loop-next.steps c.advance.new.steps c.loop-next.invariant.exploring lm c.advance.ensures.grows in
    let same : mets_in new es ≡ ms = rw c.in-Some.is at c.in_ok-cause.ensures.same in
    let A : About → Type 0 = λ v. IsSeen v.program v.scope v.mode ms in
    let M : List Met → Type 0 = λ l. IsSeen (about_of new).program (about_of new).scope (about_of new).mode l in
    let S : List Entry → Type 0 = λ l. IsSeen (about_of new).program (about_of new).scope (about_of new).mode (mets_in new l) in
    let N : List Entry → Type 0 = λ l. AreNumbers new l in
    let L : List Entry → Type 0 = λ l. c.loop-next.next < length l in
    let le : c.loop-next.next < length es = omega (arith, lm, ap (λ (l : List Met). length l) same, length-map es (met_by (pairs_in new))) in
    record {
      core = c.advance.ensures.graph.core;
      numbers = subst N (sym c.as_slice.ensures) c.in_ok-cause.ensures.numbers;
      seen = subst S (sym c.as_slice.ensures) (subst M (sym same) (subst A (sym about) c.loop-next.invariant.exploring.work.seen));
      within = subst L (sym c.as_slice.ensures) le;
    }

pub loop-next-smaller : goal.loop-next-smaller
loop-next-smaller g c =
    let old : Graph = c.args.self.now in
    let ms : List Met = mets_in c.loop-next.self c.loop-next.work in
    let less : c.loop-next.next < length c.loop-next.work = search rules in
    let lm : c.loop-next.next < length ms = omega (arith, less, length-map c.loop-next.work (met_by (pairs_in c.loop-next.self))) in
    let lt : c.loop-next.next < pair_bound (program_of old.core.now) old.scope = work_left (program_of old.core.now) old.scope old.mode (mets_in old c.args.work.now) ms c.loop-next.next lm c.loop-next.invariant.exploring.work in
    omega arith

pub loop-next-preserved : goal.loop-next-preserved
loop-next-preserved g c =
    let old : Graph = c.args.self.now in
    let mid : Graph = c.loop-next.self in
    let new : Graph = c.advance.new.self in
    let ms : List Met = mets_in mid c.loop-next.work in
    let less : c.loop-next.next < length c.loop-next.work = search rules in
    let lm : c.loop-next.next < length ms = omega (arith, less, length-map c.loop-next.work (met_by (pairs_in mid))) in
    record {
      graph = c.advance.ensures.graph;
      numbers = c.in_ok-cause.ensures.numbers;
      exploring = explore_more (mets_in old c.args.work.now) ms c.loop-next.next (decided_of old) (decided_of mid) (decided_of new) c.args.steps.now c.loop-next.steps c.advance.new.steps c.loop-next.invariant.exploring lm c.in_ok-cause.ensures.grows
          c.in_ok-cause.ensures.there (mets_in new c.advance.new.work) (rw c.in_default.is at c.in_ok-cause.ensures.advances);
    }

pub returns-in-Some : goal.returns-in-Some
returns-in-Some g c =
    let old : Graph = c.args.self.now in
    let mid : Graph = c.loop-next.self in
    let new : Graph = c.advance.new.self in
    let first : List Met = mets_in old c.args.work.now in
    let ms : List Met = mets_in mid c.loop-next.work in
    let less : c.loop-next.next < length c.loop-next.work = search rules in
    let lm : c.loop-next.next < length ms = omega (arith, less, length-map c.loop-next.work (met_by (pairs_in mid))) in
    let about : about_of new ≡ about_of old =
    explored_same first ms c.loop-next.next (decided_of old) (decided_of mid) (decided_of new) c.args.steps.now c.loop-next.steps c.advance.new.steps c.loop-next.invariant.exploring lm c.advance.ensures.grows in
    let same : mets_in new c.advance.new.work ≡ ms = rw c.in-Some.is at c.in_ok-cause.ensures.same in
    let F : List Met → Type 0 = λ l. MetFails (about_of mid).program (about_of mid).scope (about_of mid).mode l c.loop-next.next c.in-Some.cause in
    let W : List Entry → Type 0 = λ l. IsPathTo (about_of new).program (about_of new).scope (about_of new).mode (mets_in new l) c.loop-next.next c.in_ok-path.path in
    let M : List Met → Type 0 = λ l. IsPathTo (about_of new).program (about_of new).scope (about_of new).mode l c.loop-next.next c.in_ok-path.path in
    let A : About → Type 0 = λ v. IsPathTo v.program v.scope v.mode ms c.loop-next.next c.in_ok-path.path in
    let path : IsPathTo (about_of old).program (about_of old).scope (about_of old).mode ms c.loop-next.next c.in_ok-path.path = subst A about (subst M same (subst W c.as_slice.ensures c.in_ok-path.ensures)) in
    record {
      graph = c.advance.ensures.graph;
      verdict = λ q b. explored_fails first ms c.loop-next.next (decided_of old) (decided_of mid) c.args.steps.now c.loop-next.steps c.loop-next.invariant.exploring c.in-Some.cause
          (subst F same (rw c.in-Some.is at c.in_ok-cause.ensures.fails)) c.in_ok-path.path path q b;
      grows = explored_grows first ms c.loop-next.next (decided_of old) (decided_of mid) (decided_of new) c.args.steps.now c.loop-next.steps c.advance.new.steps c.loop-next.invariant.exploring lm c.in_ok-cause.ensures.grows;
      there = explored_there first ms c.loop-next.next (decided_of old) (decided_of mid) (decided_of new) c.args.steps.now c.loop-next.steps c.advance.new.steps c.loop-next.invariant.exploring lm c.in_ok-cause.ensures.grows
          c.in_ok-cause.ensures.there;
    }

pub mark_all-requires : goal.mark_all-requires
mark_all-requires g c =
    let old : Graph = c.args.self.now in
    let mid : Graph = c.loop-next.self in
    let ms : List Met = mets_in mid c.loop-next.work in
    let le : length c.loop-next.work ≤ c.loop-next.next = search rules in
    let lm : length ms ≤ c.loop-next.next = omega (arith, le, length-map c.loop-next.work (met_by (pairs_in mid))) in
    record {
      graph = c.loop-next.invariant.graph;
      numbers = c.loop-next.invariant.numbers;
      holds = λ m i. explored_all (mets_in old c.args.work.now) ms c.loop-next.next (decided_of old) (decided_of mid) c.args.steps.now c.loop-next.steps c.loop-next.invariant.exploring lm m i;
    }

pub returns-in_err-cause-clause-graph : goal.returns-in_err-cause-clause-graph
returns-in_err-cause-clause-graph g c = c.advance.ensures.graph

pub returns-in_err-cause-clause-grows : goal.returns-in_err-cause-clause-grows
returns-in_err-cause-clause-grows g c = λ q b.
    let mid : Graph = c.loop-next.self in
    let less : c.loop-next.next < length c.loop-next.work = search rules in
    let lm : c.loop-next.next < length (mets_in mid c.loop-next.work) = omega (arith, less, length-map c.loop-next.work (met_by (pairs_in mid))) in
    explored_grows (mets_in c.args.self.now c.args.work.now) (mets_in mid c.loop-next.work) c.loop-next.next (decided_of c.args.self.now) (decided_of mid) (decided_of c.advance.new.self) c.args.steps.now c.loop-next.steps c.advance.new.steps
    c.loop-next.invariant.exploring lm c.advance.ensures.grows q b

pub returns-in_err-path-clause-graph : goal.returns-in_err-path-clause-graph
returns-in_err-path-clause-graph g c = c.advance.ensures.graph

pub returns-in_err-path-clause-grows : goal.returns-in_err-path-clause-grows
returns-in_err-path-clause-grows g c = λ q b.
    let mid : Graph = c.loop-next.self in
    let less : c.loop-next.next < length c.loop-next.work = search rules in
    let lm : c.loop-next.next < length (mets_in mid c.loop-next.work) = omega (arith, less, length-map c.loop-next.work (met_by (pairs_in mid))) in
    explored_grows (mets_in c.args.self.now c.args.work.now) (mets_in mid c.loop-next.work) c.loop-next.next (decided_of c.args.self.now) (decided_of mid) (decided_of c.advance.new.self) c.args.steps.now c.loop-next.steps c.advance.new.steps
    c.loop-next.invariant.exploring lm c.advance.ensures.grows q b

pub returns : goal.returns
returns g c =
    let old : Graph = c.args.self.now in
    let mid : Graph = c.loop-next.self in
    let first : List Met = mets_in old c.args.work.now in
    let ms : List Met = mets_in mid c.loop-next.work in
    let le : length c.loop-next.work ≤ c.loop-next.next = search rules in
    let lm : length ms ≤ c.loop-next.next = omega (arith, le, length-map c.loop-next.work (met_by (pairs_in mid))) in
    let some : 0 < length first = omega (arith, c.requires.within, length-map c.args.work.now (met_by (pairs_in old))) in
    record {
      graph = c.mark_all.ensures.graph;
      verdict = λ q b. explored_yes first ms c.loop-next.next (decided_of old) (decided_of mid) c.args.steps.now c.loop-next.steps c.loop-next.invariant.exploring lm q b;
      grows = λ q b. (let P : Decided → Type 0 = λ d. Grows q (decided_of old) d c.args.steps.now c.loop-next.steps in subst P (sym c.mark_all.ensures.decided) (c.loop-next.invariant.exploring.grows q b));
      there = λ q b.
          let P : Decided → Type 0 = λ d. In q d.pairs in
          subst P (sym c.mark_all.ensures.decided) (c.loop-next.invariant.exploring.there q b
          (explored_some first ms c.loop-next.next (decided_of old) (decided_of mid) c.args.steps.now c.loop-next.steps c.loop-next.invariant.exploring lm some));
    }
