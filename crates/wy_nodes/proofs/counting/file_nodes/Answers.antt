use Rattle.std.proofs.Common.{◌<◌, ℕ, List, length, map, refl, rules, true}
use Rattle.wy_syntax.specs.declared.items.Item.{Item}
use Rattle.wy_syntax.specs.Views.{item_tree}
use Rattle.wy_syntax.specs.Nodes.{file_nodes, item_nodes}
use Rattle.wy_syntax.specs.Before.{is_before}
use Rattle.wy_nodes.proofs.Turns.{counted_turn, within_turn}
use Rattle.wy_nodes.proofs.counting.file_nodes.Goals as goal

pub loop-item-preserved : goal.loop-item-preserved
loop-item-preserved c =
    let items = c.args.items.now in
    let i = c.loop-item.item-index in
    let item = c.item-item.result in
    let lt : i < length items = search rules in
    let before : List Item → ℕ = λ xs. file_nodes (λ p. is_before p c.args.place) (map item_tree xs) in
    let all : List Item → ℕ = λ xs. file_nodes (λ p. true) (map item_tree xs) in
    record {
      count = counted_turn items i item lt c.item-item.is before c.loop-item.count c.item_nodes-count.result (item_nodes (λ p. is_before p c.args.place) (item_tree item)) (before items) c.item_nodes-count.ensures.count refl c.loop-item.invariant.count;
      within = within_turn items i item lt c.item-item.is all c.loop-item.count c.item_nodes-count.result (item_nodes (λ p. true) (item_tree item)) (all items) c.item_nodes-count.ensures.within refl c.loop-item.invariant.within;
    }
