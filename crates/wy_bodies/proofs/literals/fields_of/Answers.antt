use Rattle.std.proofs.Common.{◌<◌, ◌+◌, ◌∷◌, [], length, drop, rules, ap, ◌∙◌}
use Rattle.wy_syntax.specs.Trees as trees
use Rattle.wy_syntax.specs.Views.{part_tree, part_trees}
use Rattle.wy_bodies.specs.Lending.{lent_within}
use Rattle.wy_bodies.specs.Bodies.{fields_of, is_var, typed}
use Rattle.wy_bodies.proofs.TreeLayers.{part_tree-Field, part_tree-Method}
use Rattle.wy_symbols.proofs.Turns.{next_of}
use Rattle.wy_symbols.proofs.Nexts.{added_turn, kept_turn}
use Rattle.wy_bodies.proofs.literals.fields_of.Goals as goal
use Rattle.wy_bodies.proofs.literals.fields_of.Goals.{in-Method, in-Field+in_ok-field_of-in-Field+in_ok-push-in-Field}

pub loop-part-preserved : goal.loop-part-preserved
loop-part-preserved c =
    let parts = c.args.parts.now in
    let i = c.loop-part.part-index in
    let lt : i < length parts = search rules in
    let left = part_trees (drop (i + 1) parts) in
    let w = lent_within c.args.within.now in
    let at = ap part_trees (next_of parts i c.part-item.result lt c.part-item.is) in
    let old = c.loop-part.fields in
    let new = c.match-part.fields in
    elim c.match-part.branch [
      | in-Method d ↦
          let here = at ∙ ap (λ x. trees.more_parts x left) (ap part_tree d.in-Method.is ∙ part_tree-Method _ _) in
          kept_turn old new (fields_of w left) (fields_of w (part_trees (drop i parts))) (fields_of w (part_trees parts)) d.fields-is (ap (fields_of w) here) c.loop-part.invariant
      | in-Field+in_ok-field_of-in-Field+in_ok-push-in-Field d ↦
          let f = d.in-Field in
          let here = at ∙ ap (λ x. trees.more_parts x left) (ap part_tree f.is ∙ part_tree-Field _ _ _ _) in
          added_turn old new (record { name = f.name.text; place = f.name.place; mutable = is_var w f.kind; typ = typed w f.type_use } ∷ []) (fields_of w left)
          (fields_of w (part_trees (drop i parts))) (fields_of w (part_trees parts)) (search rules) (ap (fields_of w) here) c.loop-part.invariant
    ]
