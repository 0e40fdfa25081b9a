use Rattle.std.proofs.Common.{◌≡◌, Some, None, List, refl, inl, subst}
use Rattle.std.specs.Prelude.{slice_get, map}
use Rattle.wy_text.specs.Members.{In}
use Rattle.wy_subtype.specs.declared.node.Node.{Node}
use Rattle.wy_subtype.specs.Steps.{Pair}
use Rattle.wy_subtype.specs.Nodes.{node_pair}
use Rattle.wy_subtype.proofs.Meeting.{found_pair, found_none}
use Rattle.wy_subtype.proofs.nodes.Nodes.number_of.Goals as goal

pub returns-in-Some : goal.returns-in-Some
returns-in-Some c =
    let q : Pair = (c.args.left.now, c.args.right.now) in
    let P : List Node → Type 0 = λ l. slice_get (map node_pair l) c.in-Some.number ≡ Some q in
    record {
      at = subst P c.self.view_is (found_pair c.self.inside.nodes.items c.self.inside.keys.keys c.in_ok-key.key c.self.invariant q c.in_ok-key.ensures (Some c.in-Some.number) c.in-Some.ensures.index);
      meets = inl refl;
    }

pub add-requires-clause-absent : goal.add-requires-clause-absent
add-requires-clause-absent c =
    let q : Pair = (c.args.left.now, c.args.right.now) in
    let P : List Node → Type 0 = λ l. In q (map node_pair l) → ⊥ in
    subst P c.self.view_is (found_none c.self.inside.nodes.items c.self.inside.keys.keys c.in_ok-key.key c.self.invariant q c.in_ok-key.ensures None c.in_default.ensures.found)
