use Rattle.std.proofs.Common.{◌≡◌, ◌≤◌, ◌+◌, true, drop, map}
use Rattle.wy_syntax.specs.Views.{item_tree}
use Rattle.wy_syntax.specs.Nodes.{file_nodes}
use Rattle.wy_syntax.specs.Before.{is_before}
use Rattle.wy_nodes.proofs.counting.file_nodes.Given as goal

abbrev pub invariant-loop-item : goal.invariant-loop-item
invariant-loop-item l = record {
  count : l.count + file_nodes (λ p. is_before p l.place) (map item_tree (drop l.item-index l.items)) ≡ file_nodes (λ p. is_before p l.place) (map item_tree l.items);
  within : l.count + file_nodes (λ p. true) (map item_tree (drop l.item-index l.items)) ≤ file_nodes (λ p. true) (map item_tree l.items);
}
