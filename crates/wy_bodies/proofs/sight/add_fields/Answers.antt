use Rattle.std.proofs.Common.{◌≡◌, ◌<◌, ◌+◌, Some, length, drop, rules, ap, sym, ◌∙◌, cond}
use Rattle.indexmap.specs.IndexMap.{get}
use Rattle.wy_syntax.specs.Trees as trees
use Rattle.wy_syntax.specs.Views.{part_tree, part_trees}
use Rattle.wy_types.specs.declared.code.Binding.TheVariants as to
use Rattle.wy_symbols.specs.Declarations.{same_name, texts}
use Rattle.wy_bodies.specs.BodyRefusals.{field_names}
use Rattle.wy_bodies.specs.Sight.{seen}
use Rattle.wy_bodies.specs.InSight.{field_entries, or_else}
use Rattle.wy_bodies.proofs.TreeLayers.{part_tree-Field, part_tree-Method}
use Rattle.wy_symbols.proofs.Turns.{next_of}
use Rattle.wy_bodies.proofs.FieldsSeen.{field_seen}
use Rattle.wy_bodies.proofs.sight.add_fields.Goals as goal
use Rattle.wy_bodies.proofs.sight.add_fields.Goals.{in-Method, in-Field+in_ok-copy-in-Field+in_ok-insert-in-Field+in_ok-number-in-Field}

pub loop-part-preserved : goal.loop-part-preserved
loop-part-preserved c =
    let parts = c.args.parts.now in
    let i = c.loop-part.part-index in
    let lt : i < length parts = search rules in
    let left = part_trees (drop (i + 1) parts) in
    let rest = texts (field_names left) in
    let at = ap part_trees (next_of parts i c.part-item.result lt c.part-item.is) in
    let old = c.loop-part.fields in
    let k = c.loop-part.number in
    elim c.match-part.branch [
      | in-Method d ↦ λ x.
          let here = at ∙ ap (λ p. trees.more_parts p left) (ap part_tree d.in-Method.is ∙ part_tree-Method _ _) in
          ap (λ m. or_else (seen (field_entries c.match-part.number rest) x) (get same_name m x)) d.fields-is
          ∙ ap (λ n. or_else (seen (field_entries n rest) x) (get same_name old x)) d.number-is
          ∙ ap (λ p. or_else (seen (field_entries k (texts (field_names p))) x) (get same_name old x)) (sym here)
          ∙ c.loop-part.invariant x
      | in-Field+in_ok-copy-in-Field+in_ok-insert-in-Field+in_ok-number-in-Field d ↦ λ x.
          let here = at ∙ ap (λ p. trees.more_parts p left) (ap part_tree d.in-Field.is ∙ part_tree-Field _ _ _ _) in
          let next : c.match-part.number ≡ k + 1 = search rules in
          let put = ap (λ m. get same_name m x) d.fields-is ∙ d.in_ok-insert-in-Field.ensures.updates.0 x
          ∙ ap (λ y. cond (same_name y x) (Some (to.Field k)) (get same_name old x)) d.in_ok-copy-in-Field.ensures in
          ap (λ n. or_else (seen (field_entries n rest) x) (get same_name c.match-part.fields x)) next
          ∙ field_seen k d.in-Field.name.text rest (get same_name old x) (get same_name c.match-part.fields x) _ x put
          (ap (λ p. or_else (seen (field_entries k (texts (field_names p))) x) (get same_name old x)) (sym here) ∙ c.loop-part.invariant x)
    ]
