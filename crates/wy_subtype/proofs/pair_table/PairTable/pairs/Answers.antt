use Rattle.std.proofs.Common.{◌≡◌, ◌<◌, ℕ, length, arith, subst}
use Rattle.std.proofs.lemmas.List.{length-map}
use Rattle.wy_text.specs.Members.{In, Apart}
use Rattle.wy_subtype.specs.declared.graph.Graph.{Graph}
use Rattle.wy_subtype.specs.Decided.{Decided}
use Rattle.wy_subtype.specs.Nodes.{node_pair, pair_at, pairs_at}
use Rattle.wy_subtype.specs.Graph.{pairs_in}
use Rattle.wy_subtype.proofs.Knowing.{pairs_at-apart}
use Rattle.wy_subtype.proofs.pair_table.PairTable.pairs.Goals as goal

pub returns-clause-number : goal.returns-clause-number
returns-clause-number c =
    let g : Graph = c.self.inside.graph in
    let n : c.len.result ≡ length (pairs_at (pairs_in g) g.unfolded.items) = omega (arith, c.len.ensures, g.unfolded.ok.0, length-map g.unfolded.items (pair_at (pairs_in g))) in
    let P : Decided → Type 0 = λ d. c.len.result ≡ length d.pairs in
    subst P c.self.view_is n

pub returns-clause-apart : goal.returns-clause-apart
returns-clause-apart c =
    let g : Graph = c.self.inside.graph in
    let P : Decided → Type 0 = λ d. Apart d.pairs in
    let within : (n : ℕ) → In n g.unfolded.items → n < length (pairs_in g) = λ n i. (let lt : n < length g.nodes = c.self.invariant.within n i in let l : n < length (pairs_in g) = omega (arith, length-map g.nodes node_pair) in l) in
    subst P c.self.view_is (pairs_at-apart (pairs_in g) c.self.invariant.apart g.unfolded.items c.self.invariant.once within)
