use Rattle.std.proofs.Common.{◌≡◌, ◌<◌, ℕ, List, length, refl, rules, true}
use Rattle.wy_syntax.specs.declared.expressions.Expr.{Expr}
use Rattle.wy_syntax.specs.Nodes.{expr_nodes, exprs_nodes, one_if}
use Rattle.wy_syntax.specs.Before.{is_before}
use Rattle.wy_syntax.specs.Views.{expr_tree, expr_trees}
use Rattle.wy_syntax.proofs.Layers.{expr_tree-Binary, expr_tree-Call, expr_tree-Choice, expr_tree-TextCode, expr_tree-TextPart}
use Rattle.wy_nodes.proofs.Sums.{sum_of_four, sum_of_three}
use Rattle.wy_nodes.proofs.Turns.{counted_turn, within_turn}
use Rattle.wy_nodes.proofs.counting.+expressions.Goals as goal

pub expr_nodes-returns-in-Binary-clause-count : goal.expr_nodes-returns-in-Binary-clause-count
expr_nodes-returns-in-Binary-clause-count t c =
    let here : c.node_before-in-Binary.result ≡ one_if (is_before c.in-Binary.mark c.args.place) = search rules in
    let first : c.expr_nodes.result ≡ expr_nodes (λ p. is_before p c.args.place) (expr_tree c.in-Binary.a.value) = search rules in
    let second : c.expr_nodes-in-Binary.result ≡ expr_nodes (λ p. is_before p c.args.place) (expr_tree c.in-Binary.b.value) = search rules in
    rw (c.in-Binary.is, expr_tree-Binary c.in-Binary.operator c.in-Binary.a c.in-Binary.b c.in-Binary.mark) (sum_of_three here first second)

pub expr_nodes-returns-in-Call-clause-count : goal.expr_nodes-returns-in-Call-clause-count
expr_nodes-returns-in-Call-clause-count t c =
    let here : c.node_before-in-Call.result ≡ one_if (is_before c.in-Call.name.place c.args.place) = search rules in
    let first : c.expr_nodes-in-Call.result ≡ expr_nodes (λ p. is_before p c.args.place) (expr_tree c.in-Call.e.value) = search rules in
    let second : c.exprs_nodes.result ≡ exprs_nodes (λ p. is_before p c.args.place) (expr_trees c.in-Call.arguments.items) = search rules in
    rw (c.in-Call.is, expr_tree-Call c.in-Call.e c.in-Call.name c.in-Call.arguments) (sum_of_three here first second)

pub expr_nodes-returns-in-TextPart-clause-count : goal.expr_nodes-returns-in-TextPart-clause-count
expr_nodes-returns-in-TextPart-clause-count t c =
    let here : c.node_before-in-TextPart.result ≡ one_if (is_before c.in-TextPart.mark c.args.place) = search rules in
    let first : c.expr_nodes-in-TextPart.result ≡ expr_nodes (λ p. is_before p c.args.place) (expr_tree c.in-TextPart.a.value) = search rules in
    let second : c.expr_nodes-in-TextPart-2.result ≡ expr_nodes (λ p. is_before p c.args.place) (expr_tree c.in-TextPart.b.value) = search rules in
    let third : c.expr_nodes-in-TextPart-3.result ≡ expr_nodes (λ p. is_before p c.args.place) (expr_tree c.in-TextPart.c.value) = search rules in
    rw (c.in-TextPart.is, expr_tree-TextPart c.in-TextPart.a c.in-TextPart.b c.in-TextPart.c c.in-TextPart.mark) (sum_of_four here first second third)

pub expr_nodes-returns-in-Choice-clause-count : goal.expr_nodes-returns-in-Choice-clause-count
expr_nodes-returns-in-Choice-clause-count t c =
    let here : c.node_before-in-Choice.result ≡ one_if (is_before c.in-Choice.mark c.args.place) = search rules in
    let first : c.expr_nodes-in-Choice.result ≡ expr_nodes (λ p. is_before p c.args.place) (expr_tree c.in-Choice.a.value) = search rules in
    let second : c.expr_nodes-in-Choice-2.result ≡ expr_nodes (λ p. is_before p c.args.place) (expr_tree c.in-Choice.b.value) = search rules in
    let third : c.expr_nodes-in-Choice-3.result ≡ expr_nodes (λ p. is_before p c.args.place) (expr_tree c.in-Choice.c.value) = search rules in
    rw (c.in-Choice.is, expr_tree-Choice c.in-Choice.a c.in-Choice.b c.in-Choice.c c.in-Choice.mark) (sum_of_four here first second third)

pub expr_nodes-returns-in-TextCode-clause-count : goal.expr_nodes-returns-in-TextCode-clause-count
expr_nodes-returns-in-TextCode-clause-count t c =
    let here : c.node_before-in-TextCode.result ≡ one_if (is_before c.in-TextCode.mark c.args.place) = search rules in
    let first : c.expr_nodes-in-TextCode.result ≡ expr_nodes (λ p. is_before p c.args.place) (expr_tree c.in-TextCode.a.value) = search rules in
    let second : c.expr_nodes-in-TextCode-2.result ≡ expr_nodes (λ p. is_before p c.args.place) (expr_tree c.in-TextCode.b.value) = search rules in
    rw (c.in-TextCode.is, expr_tree-TextCode c.in-TextCode.a c.in-TextCode.b c.in-TextCode.mark) (sum_of_three here first second)

pub exprs_nodes-loop-e-preserved : goal.exprs_nodes-loop-e-preserved
exprs_nodes-loop-e-preserved t c =
    let es = c.args.es.now in
    let i = c.loop-e.e-index in
    let e = c.e-item.result in
    let lt : i < length es = search rules in
    let before : List Expr → ℕ = λ xs. exprs_nodes (λ p. is_before p c.args.place) (expr_trees xs) in
    let all : List Expr → ℕ = λ xs. exprs_nodes (λ p. true) (expr_trees xs) in
    record {
      count = counted_turn es i e lt c.e-item.is before c.loop-e.count c.expr_nodes-count.result (expr_nodes (λ p. is_before p c.args.place) (expr_tree e)) (before es) c.expr_nodes-count.ensures.count refl c.loop-e.invariant.count;
      within = within_turn es i e lt c.e-item.is all c.loop-e.count c.expr_nodes-count.result (expr_nodes (λ p. true) (expr_tree e)) (all es) c.expr_nodes-count.ensures.within refl c.loop-e.invariant.within;
    }
