use Rattle.std.proofs.Common.{◌<◌, ◌+◌, length, drop, rules, ap, ◌∙◌}
use Rattle.wy_syntax.specs.Trees as trees
use Rattle.wy_syntax.specs.Views.{part_tree, part_trees, tail_tree}
use Rattle.wy_bodies.specs.Written.{methods_names, tail_names}
use Rattle.wy_bodies.proofs.TreeLayers.{part_tree-Field, part_tree-Method}
use Rattle.wy_symbols.proofs.Turns.{next_of}
use Rattle.wy_symbols.proofs.Nexts.{collected_turn, collected_kept}
use Rattle.wy_bodies.proofs.captures.add_methods.Goals as goal
use Rattle.wy_bodies.proofs.captures.add_methods.Goals.{in-Field, in-Method}

pub loop-part-preserved : goal.loop-part-preserved
loop-part-preserved c =
    let parts = c.args.parts.now in
    let i = c.loop-part.part-index in
    let lt : i < length parts = search rules in
    let left = part_trees (drop (i + 1) parts) in
    let at = ap part_trees (next_of parts i c.part-item.result lt c.part-item.is) in
    let old = c.loop-part.names in
    let new = c.match-part.names in
    elim c.match-part.branch [
      | in-Field d ↦
          let here = at ∙ ap (λ x. trees.more_parts x left) (ap part_tree d.in-Field.is ∙ part_tree-Field _ _ _ _) in
          collected_kept old new c.args.names.now (methods_names left) (methods_names (part_trees (drop i parts))) (methods_names (part_trees parts)) d.names-is (ap methods_names here) c.loop-part.invariant
      | in-Method d ↦
          let here = at ∙ ap (λ x. trees.more_parts x left) (ap part_tree d.in-Method.is ∙ part_tree-Method _ _) in
          collected_turn old new c.args.names.now (tail_names (tail_tree d.in-Method.body)) (methods_names left) (methods_names (part_trees (drop i parts))) (methods_names (part_trees parts)) (search rules) (ap methods_names here) c.loop-part.invariant
    ]
