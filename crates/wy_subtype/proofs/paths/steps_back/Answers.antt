use Rattle.std.proofs.Common.{[], ◌++◌, ◌≡◌, ◌<◌, List, length, arith, append-nil, subst, sym}
use Rattle.std.proofs.lemmas.List.{length-map}
use Rattle.wy_text.proofs.Lists.{In-slice_get}
use Rattle.wy_types.specs.declared.path.Step.{Step}
use Rattle.wy_types.specs.Program.{program_of}
use Rattle.wy_subtype.specs.declared.entry.Entry.{Entry}
use Rattle.wy_subtype.specs.declared.graph.Graph.{Graph}
use Rattle.wy_subtype.specs.Nodes.{node_pair}
use Rattle.wy_subtype.specs.Graph.{about_of, pairs_in, mets_in}
use Rattle.wy_subtype.specs.Worklist.{Traces, met_by}
use Rattle.wy_subtype.proofs.Places.{slice_get-mapped}
use Rattle.wy_subtype.proofs.Working.{traces_step}
use Rattle.wy_subtype.proofs.Looking.{back_before, back_step}
use Rattle.wy_subtype.proofs.paths.steps_back.Goals as goal

pub loop-k-init : goal.loop-k-init
loop-k-init c = record {
  within = c.requires.within;
  traced = λ rest t.
      let g : Graph = c.args.graph.now in
      let P : List Step → Type 0 = λ l. Traces (program_of g.core.now) g.scope g.mode (mets_in g c.args.work.now) c.args.at (l ++ rest) in
      subst P (sym c.new-steps.ensures.items) t;
}

pub entry_at-parent-requires : goal.entry_at-parent-requires
entry_at-parent-requires c =
    let less = back_before (about_of c.args.graph.now) (pairs_in c.args.graph.now) c.args.work.now c.requires.seen c.loop-k.k c.loop-k-test.true c.entry_at-entry.result.now c.entry_at-entry.ensures in
    omega (arith, less, c.loop-k.invariant.within)

pub step_between-requires : goal.step_between-requires
step_between-requires c =
    let g : Graph = c.args.graph.now in
    let es : List Entry = c.args.work.now in
    let e : Entry = c.entry_at-entry.result.now in
    let p : Entry = c.entry_at-parent.result.now in
    let le : e.node < length (pairs_in g) = c.requires.numbers e (In-slice_get es c.loop-k.k e c.entry_at-entry.ensures) in
    let lp : p.node < length (pairs_in g) = c.requires.numbers p (In-slice_get es e.parent p c.entry_at-parent.ensures) in
    record {
      core = c.requires.core;
      parent = omega (arith, lp, length-map g.nodes node_pair);
      child = omega (arith, le, length-map g.nodes node_pair);
      asked = back_step (about_of g) (pairs_in g) es c.requires.seen c.loop-k.k c.loop-k-test.true e c.entry_at-entry.ensures p c.entry_at-parent.ensures;
    }

pub loop-k-smaller : goal.loop-k-smaller
loop-k-smaller c =
    back_before (about_of c.args.graph.now) (pairs_in c.args.graph.now) c.args.work.now c.requires.seen c.loop-k.k c.loop-k-test.true c.entry_at-entry.result.now c.entry_at-entry.ensures

pub loop-k-preserved : goal.loop-k-preserved
loop-k-preserved c =
    let g : Graph = c.args.graph.now in
    let es : List Entry = c.args.work.now in
    let e : Entry = c.entry_at-entry.result.now in
    let p : Entry = c.entry_at-parent.result.now in
    let less : e.parent < c.loop-k.k = back_before (about_of g) (pairs_in g) es c.requires.seen c.loop-k.k c.loop-k-test.true e c.entry_at-entry.ensures in
    record {
      within = omega (arith, less, c.loop-k.invariant.within);
      traced = traces_step (program_of g.core.now) g.scope g.mode (mets_in g es) c.loop-k.k c.args.at (met_by (pairs_in g) e) (met_by (pairs_in g) p) c.in_ok-step.step c.loop-k.steps.items c.push.new.self.items
          (slice_get-mapped (met_by (pairs_in g)) es c.loop-k.k e c.entry_at-entry.ensures) (slice_get-mapped (met_by (pairs_in g)) es e.parent p c.entry_at-parent.ensures) c.in_ok-step.ensures c.in_ok-push.ensures.items c.loop-k.invariant.traced;
    }

pub returns : goal.returns
returns c =
    let g : Graph = c.args.graph.now in
    let P : List Step → Type 0 = λ l. Traces (program_of g.core.now) g.scope g.mode (mets_in g c.args.work.now) c.args.at l in
    let z : c.loop-k.k ≡ 0 = omega arith in
    subst P (append-nil c.loop-k.steps.items) (c.loop-k.invariant.traced [] z)
