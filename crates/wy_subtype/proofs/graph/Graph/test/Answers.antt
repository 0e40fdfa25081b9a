use Rattle.std.proofs.Common.{◌≡◌, ℕ, List, map, sym, subst}
use Rattle.wy_subtype.specs.declared.unfolding.Unfolding.{Unfolding}
use Rattle.wy_subtype.specs.declared.unfolding.UnfoldedPair.{UnfoldedPair}
use Rattle.wy_subtype.specs.Verdict.{FailsBy}
use Rattle.wy_subtype.specs.Steps.{Pair}
use Rattle.wy_subtype.specs.Unfolding.{sides, IsUnfolded}
use Rattle.wy_subtype.specs.Graph.{about_of, pairs_in}
use Rattle.wy_subtype.specs.Nodes.{node_pair, pair_at, IsAsking, AreNumbersOf}
use Rattle.wy_subtype.proofs.Places.{slice_get-mapped}
use Rattle.wy_subtype.proofs.Knowing.{pair_at-is}
use Rattle.wy_subtype.proofs.Numbering.{numbers_close}
use Rattle.wy_subtype.proofs.graph.Graph.test.Goals as goal

pub returns-in-Fails-clause-outcome : goal.returns-in-Fails-clause-outcome
returns-in-Fails-clause-outcome c =
    let about = about_of c.args.self.now in
    let q : Pair = node_pair c.at-node.result.now in
    let at : ◌≡◌ {A = Pair} (pair_at (pairs_in c.args.self.now) c.args.number) q = pair_at-is (pairs_in c.args.self.now) c.args.number q (slice_get-mapped node_pair c.args.self.now.nodes c.args.number c.at-node.result.now c.at-node.ensures) in
    let U : Unfolding → Type 0 = λ u. IsUnfolded about.program about.scope about.mode q u in
    let F : Pair → Type 0 = λ v. FailsBy about.program about.scope about.mode v c.in-Fails.cause in
    subst F (sym at) (subst U c.in-Fails.is c.in_ok-unfolding.ensures)

pub returns-in_ok-numbers-in-Closed-clause-outcome : goal.returns-in_ok-numbers-in-Closed-clause-outcome
returns-in_ok-numbers-in-Closed-clause-outcome c =
    let about = about_of c.args.self.now in
    let q : Pair = node_pair c.at-node.result.now in
    let at : ◌≡◌ {A = Pair} (pair_at (pairs_in c.args.self.now) c.args.number) q = pair_at-is (pairs_in c.args.self.now) c.args.number q (slice_get-mapped node_pair c.args.self.now.nodes c.args.number c.at-node.result.now c.at-node.ensures) in
    let new : List Pair = map node_pair c.numbers_of.new.self in
    let numbers : List ℕ = c.in_ok-numbers-in-Closed.numbers in
    let U : Unfolding → Type 0 = λ u. IsUnfolded about.program about.scope about.mode q u in
    let N : List UnfoldedPair → Type 0 = λ l. AreNumbersOf new (map sides l) numbers in
    let A : Pair → Type 0 = λ v. IsAsking about new v numbers in
    subst A (sym at) (numbers_close about new q c.in-Closed.asked numbers (subst U c.in-Closed.is c.in_ok-unfolding.ensures) (subst N c.as_slice.ensures c.in_ok-numbers-in-Closed.ensures.numbers))
