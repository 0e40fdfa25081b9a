use Rattle.std.proofs.Common.{◌≡◌, ◌∙◌, ap, subst, sym, List, map}
use Rattle.wy_text.specs.Members.{In}
use Rattle.wy_subtype.specs.declared.node.Node.{Node}
use Rattle.wy_subtype.specs.declared.node.Outcome.TheVariants.{Holds}
use Rattle.wy_subtype.specs.Steps.{Pair}
use Rattle.wy_subtype.specs.Decided.{Decided}
use Rattle.wy_subtype.specs.Graph.{about_of}
use Rattle.wy_subtype.specs.Nodes.{node_pair, pairs_at, AreKnown}
use Rattle.wy_subtype.proofs.Knowing.{pairs-with, noted_there, marked_known}
use Rattle.wy_subtype.proofs.graph.Graph.mark.Goals as goal

pub returns-then-not-is_open : goal.returns-then-not-is_open
returns-then-not-is_open c =
    let about = about_of c.args.self.now in
    let ks : List Node = c.args.self.now.nodes in
    let there : In c.args.number c.args.self.now.unfolded.items =
    noted_there (In c.args.number c.args.self.now.unfolded.items) c.at.result.now.outcome (sym c.if-not-is_open.ensures) (c.requires.graph.noted c.args.number c.at.result.now c.at.ensures) in
    let K : List Node → Type 0 = λ l. AreKnown about l c.args.self.now.unfolded.items in
    let same : map node_pair c.learn.new.self ≡ map node_pair ks = ap (map node_pair) c.learn.ensures ∙ pairs-with ks c.args.number Holds in
    let decided : List Pair → Decided = λ l. record { about = about; pairs = pairs_at l c.args.self.now.unfolded.items } in
    record {
      graph = subst K (sym c.learn.ensures) (marked_known about ks c.args.self.now.unfolded.items c.args.number c.requires.graph c.requires.within there c.requires.holds);
      pairs = same;
      decided = ap decided same;
    }
