use Rattle.std.proofs.Common.{◌≡◌, ◌<◌, ℕ, List, length, refl, rules, true}
use Rattle.wy_syntax.specs.declared.statements.Part.{Part}
use Rattle.wy_syntax.specs.declared.statements.Stmt.{Stmt}
use Rattle.wy_syntax.specs.Nodes.{block_nodes, expr_nodes, one_if, part_nodes, parts_nodes, stmt_nodes}
use Rattle.wy_syntax.specs.Before.{is_before}
use Rattle.wy_syntax.specs.Views.{expr_tree, part_tree, part_trees, stmt_tree, stmt_trees}
use Rattle.wy_syntax.proofs.Layers.{rhs_tree-Branch}
use Rattle.wy_nodes.proofs.Sums.{sum_of_four}
use Rattle.wy_nodes.proofs.Turns.{counted_turn, within_turn}
use Rattle.wy_nodes.proofs.counting.+statements.Goals as goal

pub rhs_nodes-returns-in-Branch-clause-count : goal.rhs_nodes-returns-in-Branch-clause-count
rhs_nodes-returns-in-Branch-clause-count t c =
    let here : c.node_before-in-Branch.result ≡ one_if (is_before c.in-Branch.mark c.args.place) = search rules in
    let first : c.expr_nodes.result ≡ expr_nodes (λ p. is_before p c.args.place) (expr_tree c.in-Branch.condition) = search rules in
    let second : c.block_nodes.result ≡ block_nodes (λ p. is_before p c.args.place) (stmt_trees c.in-Branch.first.items) = search rules in
    let third : c.block_nodes-in-Branch.result ≡ block_nodes (λ p. is_before p c.args.place) (stmt_trees c.in-Branch.second.items) = search rules in
    rw (c.in-Branch.is, rhs_tree-Branch c.in-Branch.mark c.in-Branch.condition c.in-Branch.first c.in-Branch.second) (sum_of_four here first second third)

pub block_nodes-loop-stmt-preserved : goal.block_nodes-loop-stmt-preserved
block_nodes-loop-stmt-preserved t c =
    let block = c.args.block.now in
    let i = c.loop-stmt.stmt-index in
    let stmt = c.stmt-item.result in
    let lt : i < length block = search rules in
    let before : List Stmt → ℕ = λ xs. block_nodes (λ p. is_before p c.args.place) (stmt_trees xs) in
    let all : List Stmt → ℕ = λ xs. block_nodes (λ p. true) (stmt_trees xs) in
    record {
      count = counted_turn block i stmt lt c.stmt-item.is before c.loop-stmt.count c.stmt_nodes-count.result (stmt_nodes (λ p. is_before p c.args.place) (stmt_tree stmt)) (before block) c.stmt_nodes-count.ensures.count refl c.loop-stmt.invariant.count;
      within = within_turn block i stmt lt c.stmt-item.is all c.loop-stmt.count c.stmt_nodes-count.result (stmt_nodes (λ p. true) (stmt_tree stmt)) (all block) c.stmt_nodes-count.ensures.within refl c.loop-stmt.invariant.within;
    }

pub parts_nodes-loop-part-preserved : goal.parts_nodes-loop-part-preserved
parts_nodes-loop-part-preserved t c =
    let parts = c.args.parts.now in
    let i = c.loop-part.part-index in
    let part = c.part-item.result in
    let lt : i < length parts = search rules in
    let before : List Part → ℕ = λ xs. parts_nodes (λ p. is_before p c.args.place) (part_trees xs) in
    let all : List Part → ℕ = λ xs. parts_nodes (λ p. true) (part_trees xs) in
    record {
      count = counted_turn parts i part lt c.part-item.is before c.loop-part.count c.part_nodes-count.result (part_nodes (λ p. is_before p c.args.place) (part_tree part)) (before parts) c.part_nodes-count.ensures.count refl c.loop-part.invariant.count;
      within = within_turn parts i part lt c.part-item.is all c.loop-part.count c.part_nodes-count.result (part_nodes (λ p. true) (part_tree part)) (all parts) c.part_nodes-count.ensures.within refl c.loop-part.invariant.within;
    }
