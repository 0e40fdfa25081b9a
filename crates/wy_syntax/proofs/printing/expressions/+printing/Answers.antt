use Rattle.std.proofs.Common.{append_assoc, ◌<◌, ◌-◌, List, drop, take, length, refl, rules, sym, ap, subst, ◌∙◌, ◌++◌}
use Rattle.wy_syntax.specs.declared.expressions.Expr.{Expr}
use Rattle.wy_syntax.specs.Canonical.{arguments_text, expr_text, more_arguments_text}
use Rattle.wy_syntax.specs.Collected.{Adds}
use Rattle.wy_syntax.specs.Views.{expr_tree, expr_trees}
use Rattle.wy_syntax.proofs.Layers.{expr_tree-Binary, expr_tree-Call, expr_tree-Choice, expr_tree-TextCode, expr_tree-TextPart}
use Rattle.wy_syntax.proofs.Gathered.{all_through, before, behind_first, next}
use Rattle.wy_syntax.proofs.printing.expressions.+printing.Goals as goal

pub push_arguments-returns-after-loop-argument : goal.push_arguments-returns-after-loop-argument
push_arguments-returns-after-loop-argument t c =
    let xs = c.args.arguments.now in
    let e = c.first-item.result in
    let lt : 0 < length xs = search rules in
    let more : List Expr → _ = λ es. more_arguments_text (expr_trees es) in
    let some = ap (λ (es : List Expr). arguments_text (expr_trees es)) (next xs 0 e lt c.first-item.is) ∙ ap (λ (es : List Expr). expr_text (expr_tree e) ++ more es) (sym (behind_first xs)) in
    let others = all_through (take (length xs - 1) (drop 1 xs)) c.loop-argument.argument-index more c.loop-argument-test.false refl c.loop-argument.invariant in
    subst (λ l. Adds l c.args.out.now c.loop-argument.out) (sym some) (before c.push_expr.ensures others)

pub push_expr-returns-in-Binary : goal.push_expr-returns-in-Binary
push_expr-returns-in-Binary t c =
    rw (c.in-Binary.is, expr_tree-Binary c.in-Binary.operator c.in-Binary.left c.in-Binary.right c.in-Binary.field-3) record {
      enough = λ whole. c.push_enclosed-in-Binary.ensures.enough (c.push_operator.ensures.enough (c.push_enclosed-in-Binary-2.ensures.enough whole));
      added = λ whole.
          let w2 = c.push_enclosed-in-Binary-2.ensures.enough whole in
          let w1 = c.push_operator.ensures.enough w2 in
          simp append_assoc (simp (c.push_operator.ensures.added w2, c.push_enclosed-in-Binary.ensures.added w1, c.is_lower-in-Binary.ensures, c.left_level.ensures, c.deref-in-Binary.ensures, c.deref-in-Binary-2.ensures, c.is_lower-in-Binary-2.ensures, c.right_level.ensures, c.deref-in-Binary-3.ensures, c.deref-in-Binary-4.ensures, append_assoc) at c.push_enclosed-in-Binary-2.ensures.added whole);
    }

pub push_expr-returns-in-Call : goal.push_expr-returns-in-Call
push_expr-returns-in-Call t c =
    rw (c.in-Call.is, expr_tree-Call c.in-Call.receiver c.in-Call.name c.in-Call.arguments) record {
      enough = λ whole. c.push_enclosed-in-Call.ensures.enough (c.push_method.ensures.enough (c.push_arguments.ensures.enough (c.push-in-Call.ensures.enough whole)));
      added = λ whole.
          let w3 = c.push-in-Call.ensures.enough whole in
          let w2 = c.push_arguments.ensures.enough w3 in
          let w1 = c.push_method.ensures.enough w2 in
          simp append_assoc (simp (c.push_arguments.ensures.added w3, c.push_method.ensures.added w2, c.push_enclosed-in-Call.ensures.added w1, c.deref-in-Call-3.ensures.value, c.is_lower-in-Call.ensures, c.deref-in-Call.ensures, c.deref-in-Call-2.ensures, append_assoc) at c.push-in-Call.ensures.added whole);
    }

pub push_worded-returns-in-TextPart : goal.push_worded-returns-in-TextPart
push_worded-returns-in-TextPart t c =
    rw (c.in-TextPart.is, expr_tree-TextPart c.in-TextPart.e c.in-TextPart.from c.in-TextPart.to c.in-TextPart.field-3) record {
      enough = λ whole. c.push_behind.ensures.enough (c.push_behind-in-TextPart.ensures.enough (c.push_last-in-TextPart.ensures.enough whole));
      added = λ whole.
          let w2 = c.push_last-in-TextPart.ensures.enough whole in
          let w1 = c.push_behind-in-TextPart.ensures.enough w2 in
          simp append_assoc (simp (c.push_behind-in-TextPart.ensures.added w2, c.push_behind.ensures.added w1, c.deref-in-TextPart.ensures, c.deref-in-TextPart-2.ensures, c.deref-in-TextPart-3.ensures, append_assoc) at c.push_last-in-TextPart.ensures.added whole);
    }

pub push_worded-returns-in-TextCode : goal.push_worded-returns-in-TextCode
push_worded-returns-in-TextCode t c =
    rw (c.in-TextCode.is, expr_tree-TextCode c.in-TextCode.e c.in-TextCode.at c.in-TextCode.field-2) record {
      enough = λ whole. c.push_behind-in-TextCode.ensures.enough (c.push_last-in-TextCode.ensures.enough whole);
      added = λ whole.
          let w1 = c.push_last-in-TextCode.ensures.enough whole in
          simp append_assoc (simp (c.push_behind-in-TextCode.ensures.added w1, c.deref-in-TextCode.ensures, c.deref-in-TextCode-2.ensures, append_assoc) at c.push_last-in-TextCode.ensures.added whole);
    }

pub push_worded-returns-in-Choice : goal.push_worded-returns-in-Choice
push_worded-returns-in-Choice t c =
    rw (c.in-Choice.is, expr_tree-Choice c.in-Choice.condition c.in-Choice.first c.in-Choice.second c.in-Choice.field-3) record {
      enough = λ whole. c.push.ensures.enough (c.push_enclosed.ensures.enough (c.push_behind-in-Choice.ensures.enough (c.push_behind-in-Choice-2.ensures.enough whole)));
      added = λ whole.
          let w3 = c.push_behind-in-Choice-2.ensures.enough whole in
          let w2 = c.push_behind-in-Choice.ensures.enough w3 in
          let w1 = c.push_enclosed.ensures.enough w2 in
          simp append_assoc (simp (c.push_behind-in-Choice.ensures.added w3, c.push_enclosed.ensures.added w2, c.push.ensures.added w1, c.is_lower.ensures, c.deref-in-Choice.ensures, c.deref-in-Choice-2.ensures, c.deref-in-Choice-3.ensures, c.deref-in-Choice-4.ensures, append_assoc) at c.push_behind-in-Choice-2.ensures.added whole);
    }

pub push_last-returns : goal.push_last-returns
push_last-returns t c =
    before c.push_behind.ensures c.push.ensures

pub push_behind-returns : goal.push_behind-returns
push_behind-returns t c =
    before c.push.ensures c.push_expr.ensures
