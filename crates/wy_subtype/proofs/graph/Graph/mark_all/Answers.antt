use Rattle.std.proofs.Common.{◌≡◌, ◌<◌, List, get_or, length, ap, subst, sym, arith}
use Rattle.std.proofs.lemmas.List.{length-map}
use Rattle.wy_text.specs.Members.{In}
use Rattle.wy_text.proofs.Lists.{In-get, In-map}
use Rattle.wy_subtype.specs.declared.entry.Entry.{Entry}
use Rattle.wy_subtype.specs.declared.graph.Graph.{Graph}
use Rattle.wy_subtype.specs.Verdict.{IsSubtypeIn}
use Rattle.wy_subtype.specs.Steps.{Pair}
use Rattle.wy_subtype.specs.Decided.{About, Decided}
use Rattle.wy_subtype.specs.Nodes.{node_pair, pair_at}
use Rattle.wy_subtype.specs.Graph.{about_of, pairs_in}
use Rattle.wy_subtype.specs.Worklist.{met_by}
use Rattle.wy_subtype.proofs.graph.Graph.mark_all.Goals as goal

pub mark-requires : goal.mark-requires
mark-requires c =
    let old : Graph = c.args.self.now in
    let es : List Entry = c.as_slice-entry-items.result.now in
    let e : Entry = get_or es c.loop-entry.entry-index (record { «node» = 0; parent = 0 }) in
    let I : List Entry → Type 0 = λ l. In e l in
    let there : In e c.args.work.now = subst I c.as_slice-entry-items.ensures (In-get es c.loop-entry.entry-index (record { «node» = 0; parent = 0 }) c.loop-entry-test.true) in
    let L : List Pair → Type 0 = λ l. e.node < length l in
    let lt : e.node < length (pairs_in c.loop-entry.self) = subst L (sym c.loop-entry.invariant.pairs) (c.requires.numbers e there) in
    let S : About → List Pair → Type 0 = λ v l. IsSubtypeIn v.program v.scope v.mode (pair_at l e.node).0 (pair_at l e.node).1 in
    let A : About → Type 0 = λ v. S v (pairs_in old) in
    let P : List Pair → Type 0 = λ l. S (about_of c.loop-entry.self) l in
    let same : about_of c.loop-entry.self ≡ about_of old = ap (λ (d : Decided). d.about) c.loop-entry.invariant.decided in
    record {
      graph = c.loop-entry.invariant.graph;
      within = omega (arith, lt, length-map c.loop-entry.self.nodes node_pair);
      holds = subst P (sym c.loop-entry.invariant.pairs) (subst A (sym same) (c.requires.holds (met_by (pairs_in old) e) (In-map (met_by (pairs_in old)) e c.args.work.now there)));
    }
