use Rattle.std.proofs.Common.{◌≡◌, ◌<◌, ℕ, refl, sym, subst}
use Rattle.std.proofs.lemmas.Result.{IfOk-weaker}
use Rattle.std.proofs.lemmas.List.{length-map}
use Rattle.std.proofs.Common.{arith, length}
use Rattle.wy_text.specs.Members.{In}
use Rattle.wy_types.specs.Program.{program_of}
use Rattle.wy_subtype.specs.declared.node.Outcome.{Outcome}
use Rattle.wy_subtype.specs.declared.node.Outcome.TheVariants.{Holds}
use Rattle.wy_subtype.specs.declared.node.Node.{Node}
use Rattle.wy_subtype.specs.declared.graph.Graph.{Graph}
use Rattle.wy_subtype.specs.Verdict.{IsSubtypeIn}
use Rattle.wy_subtype.specs.Steps.{Pair}
use Rattle.wy_subtype.specs.Nodes.{node_pair, pair_at, IsOutcome, IsNoted}
use Rattle.wy_subtype.specs.Graph.{about_of, pairs_in, decided_of}
use Rattle.wy_subtype.proofs.Places.{slice_get-mapped}
use Rattle.wy_subtype.proofs.Knowing.{pair_at-is}
use Rattle.wy_subtype.proofs.Numbering.{there_pair}
use Rattle.wy_subtype.proofs.Growing.{grows_none}
use Rattle.wy_subtype.proofs.Beginning.{alone_some, alone_numbers, alone_begins, alone_seen}
use Rattle.wy_subtype.proofs.graph.Graph.decide.Goals as goal

pub returns-then-holds : goal.returns-then-holds
returns-then-holds g c =
    let old : Graph = c.args.self.now in
    let n : ℕ = c.args.number in
    let k : Node = c.at.result.now in
    let known : k.outcome ≡ Holds = c.if-holds.ensures refl in
    let at : ◌≡◌ {A = Pair} (pair_at (pairs_in old) n) (node_pair k) = pair_at-is (pairs_in old) n (node_pair k) (slice_get-mapped node_pair old.nodes n k c.at.ensures) in
    let R : Outcome → Type 0 = λ o. IsOutcome (about_of old) (pairs_in old) (node_pair k) o in
    let N : Outcome → Type 0 = λ o. IsNoted (In n old.unfolded.items) o in
    let V : Pair → Type 0 = λ q. IsSubtypeIn (program_of old.core.now) old.scope old.mode q.0 q.1 in
    record {
      graph = c.requires.graph;
      verdict = subst V (sym at) (subst R known (c.requires.graph.right n k c.at.ensures));
      grows = grows_none (pair_at (pairs_in old) n) (decided_of old) (decided_of old) c.args.steps.now c.args.steps.now refl refl;
      there = there_pair (pairs_in old) old.unfolded.items n (subst N known (c.requires.graph.noted n k c.at.ensures));
    }

pub returns-in_err-work-clause-grows : goal.returns-in_err-work-clause-grows
returns-in_err-work-clause-grows g c = grows_none (pair_at (pairs_in c.args.self.now) c.args.number) (decided_of c.args.self.now) (decided_of c.args.self.now) c.args.steps.now c.args.steps.now refl refl

pub explore-requires : goal.explore-requires
explore-requires g c =
    let old : Graph = c.args.self.now in
    let lt : c.args.number < length (pairs_in old) = omega (arith, c.requires.within, length-map old.nodes node_pair) in
    record {
      graph = c.requires.graph;
      numbers = alone_numbers c.args.number c.in_ok-work.work c.in_ok-work.ensures (pairs_in old) lt;
      seen = alone_seen c.args.number c.in_ok-work.work c.in_ok-work.ensures (program_of old.core.now) old.scope old.mode (pairs_in old) c.requires.left c.requires.right;
      within = alone_some c.args.number c.in_ok-work.work c.in_ok-work.ensures;
    }

pub returns : goal.returns
returns g c =
    let old : Graph = c.args.self.now in
    let q : Pair = pair_at (pairs_in old) c.args.number in
    let begins = alone_begins c.args.number c.in_ok-work.work c.in_ok-work.ensures (pairs_in old) in
    record {
      graph = c.explore.ensures.graph;
      verdict = IfOk-weaker c.explore.result _ _ (λ v h. h q begins) c.explore.ensures.verdict;
      grows = c.explore.ensures.grows q begins;
      there = IfOk-weaker c.explore.result _ _ (λ v h. h q begins) c.explore.ensures.there;
    }
