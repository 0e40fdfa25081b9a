use Rattle.std.proofs.Common.{◌≡◌, ◌<◌, ◌+◌, length, drop, rules, sym, ap, ap₂, ◌∙◌, subst}
use Rattle.std.specs.Prelude.{IfOk, OnOk}
use Rattle.std.proofs.lemmas.List.{drop_all}
use Rattle.std.proofs.lemmas.Result.{on_ok_weaker, IfOk-weaker}
use Rattle.wy_types.specs.declared.code.TextOperator.TheVariants as texts
use Rattle.wy_types.specs.Code as plain
use Rattle.wy_types.specs.View.{expr_of, value_of, values_of, block_of}
use Rattle.wy_syntax.specs.Trees as trees
use Rattle.wy_syntax.specs.Views.{expr_tree, expr_trees}
use Rattle.wy_symbols.specs.Least.{noted}
use Rattle.wy_bodies.specs.Lending.{lent_within}
use Rattle.wy_bodies.specs.InSight.{sight_of}
use Rattle.wy_bodies.specs.Bodies.{operand, operator_of, expr_value, expr_values}
use Rattle.wy_bodies.specs.BodyRefusals.{expr_refusals, exprs_refusals, typed_refusals}
use Rattle.wy_bodies.proofs.Notings.{noted_two, noted_three, noted_turn}
use Rattle.wy_syntax.proofs.Layers.{expr_tree-Binary, expr_tree-Call, expr_tree-TextPart, expr_tree-TextCode, expr_tree-Choice}
use Rattle.wy_bodies.proofs.TreeLayers.{expr_tree-Ascribe}
use Rattle.wy_symbols.proofs.Turns.{next_of}
use Rattle.wy_bodies.specs.ValueRows.{values_then}
use Rattle.wy_bodies.proofs.ValueRows.{values_pushed, row_one, row_two, row_three, values_then-none, if_of}
use Rattle.wy_bodies.proofs.expressions.+expressions.Goals as goal

pub expr_value-returns-in-Ascribe-clause-value : goal.expr_value-returns-in-Ascribe-clause-value
expr_value-returns-in-Ascribe-clause-value t c =
    let w = lent_within c.args.within.now in
    let s = sight_of c.args.frame.now c.args.variables.now in
    let same = ap (λ e. trees.ascribe (expr_tree e) c.in-Ascribe.type_use c.in-Ascribe.place) c.deref-in-Ascribe.ensures ∙ sym (expr_tree-Ascribe c.in-Ascribe.e c.in-Ascribe.type_use c.in-Ascribe.place) ∙ ap expr_tree (sym c.in-Ascribe.is) in
    subst (λ x. IfOk c.typed_value.result (λ v. value_of v ≡ expr_value w s x)) same c.typed_value.ensures.value

pub expr_value-returns-in-Ascribe-clause-noted : goal.expr_value-returns-in-Ascribe-clause-noted
expr_value-returns-in-Ascribe-clause-noted t c =
    let w = lent_within c.args.within.now in
    let s = sight_of c.args.frame.now c.args.variables.now in
    let same = ap (λ e. trees.ascribe (expr_tree e) c.in-Ascribe.type_use c.in-Ascribe.place) c.deref-in-Ascribe.ensures ∙ sym (expr_tree-Ascribe c.in-Ascribe.e c.in-Ascribe.type_use c.in-Ascribe.place) ∙ ap expr_tree (sym c.in-Ascribe.is) in
    subst (λ x. OnOk c.typed_value.result (c.typed_value.new.least ≡ noted c.args.least.now (expr_refusals w s x))) same c.typed_value.ensures.noted

pub typed_value-returns-clause-value : goal.typed_value-returns-clause-value
typed_value-returns-clause-value t c =
    let w = lent_within c.args.within.now in
    let s = sight_of c.args.frame.now c.args.variables.now in
    ap₂ (λ v u. plain.Plain (plain.Ascribe c.args.place v u)) (ap value_of c.in_ok-value-2.ensures ∙ c.in_ok-value.ensures.value) c.in_ok-typ.ensures.value

pub typed_value-returns-clause-noted : goal.typed_value-returns-clause-noted
typed_value-returns-clause-noted t c =
    let w = lent_within c.args.within.now in
    let s = sight_of c.args.frame.now c.args.variables.now in
    noted_two c.args.least.now c.expr_value.new.least c.read_type.new.least (expr_refusals w s (expr_tree c.args.e.now)) (typed_refusals w c.args.type_use.now) c.in_ok-value.ensures.noted c.in_ok-typ.ensures.noted

pub expr_value-returns-in_ok-left-in-Binary-clause-noted : goal.expr_value-returns-in_ok-left-in-Binary-clause-noted
expr_value-returns-in_ok-left-in-Binary-clause-noted t c =
    let w = lent_within c.args.within.now in
    let s = sight_of c.args.frame.now c.args.variables.now in
    let first = c.in_ok-left-in-Binary.ensures.noted ∙ ap (λ e. noted c.args.least.now (expr_refusals w s (expr_tree e))) c.deref-in-Binary.ensures in
    let same = ap (λ e. noted c.operand_value.new.least (expr_refusals w s (expr_tree e))) c.deref-in-Binary-2.ensures in
    let tree = ap (λ e. noted c.args.least.now (expr_refusals w s e)) (sym (expr_tree-Binary c.in-Binary.operator c.in-Binary.left c.in-Binary.right c.in-Binary.place) ∙ ap expr_tree (sym c.in-Binary.is)) in
    on_ok_weaker c.binary_with.result
    (λ h. noted_two c.args.least.now c.operand_value.new.least c.binary_with.new.least (expr_refusals w s (expr_tree c.in-Binary.left.value)) (expr_refusals w s (expr_tree c.in-Binary.right.value)) first (h ∙ same) ∙ tree) c.binary_with.ensures.noted

pub expr_value-returns-in_ok-left-in-Binary-clause-value : goal.expr_value-returns-in_ok-left-in-Binary-clause-value
expr_value-returns-in_ok-left-in-Binary-clause-value t c =
    let w = lent_within c.args.within.now in
    let s = sight_of c.args.frame.now c.args.variables.now in
    let left = c.in_ok-left-in-Binary.ensures.value ∙ ap (λ e. operand (expr_value w s (expr_tree e))) c.deref-in-Binary.ensures in
    let right = ap (λ e. operand (expr_value w s (expr_tree e))) c.deref-in-Binary-2.ensures in
    let same = ap₂ (λ a b. plain.Plain (plain.Binary c.in-Binary.place (operator_of c.in-Binary.operator) a b)) left right ∙ ap (expr_value w s) (sym (expr_tree-Binary c.in-Binary.operator c.in-Binary.left c.in-Binary.right c.in-Binary.place) ∙ ap expr_tree (sym c.in-Binary.is)) in
    IfOk-weaker c.binary_with.result _ _ (λ v h. h ∙ same) c.binary_with.ensures.value

pub expr_value-returns-in_ok-receiver-in-Call-clause-noted : goal.expr_value-returns-in_ok-receiver-in-Call-clause-noted
expr_value-returns-in_ok-receiver-in-Call-clause-noted t c =
    let w = lent_within c.args.within.now in
    let s = sight_of c.args.frame.now c.args.variables.now in
    let first = c.in_ok-receiver-in-Call.ensures.noted ∙ ap (λ e. noted c.args.least.now (expr_refusals w s (expr_tree e))) c.deref-in-Call.ensures in
    let same = ap (λ es. noted c.operand_value-in-Call.new.least (exprs_refusals w s (expr_trees es))) c.deref-in-Call-2.ensures.value in
    let tree = ap (λ e. noted c.args.least.now (expr_refusals w s e)) (sym (expr_tree-Call c.in-Call.receiver c.in-Call.name c.in-Call.arguments) ∙ ap expr_tree (sym c.in-Call.is)) in
    on_ok_weaker c.call_with.result
    (λ h. noted_two c.args.least.now c.operand_value-in-Call.new.least c.call_with.new.least (expr_refusals w s (expr_tree c.in-Call.receiver.value)) (exprs_refusals w s (expr_trees c.in-Call.arguments.items)) first (h ∙ same) ∙ tree) c.call_with.ensures.noted

pub expr_value-returns-in_ok-receiver-in-Call-clause-value : goal.expr_value-returns-in_ok-receiver-in-Call-clause-value
expr_value-returns-in_ok-receiver-in-Call-clause-value t c =
    let w = lent_within c.args.within.now in
    let s = sight_of c.args.frame.now c.args.variables.now in
    let receiver = c.in_ok-receiver-in-Call.ensures.value ∙ ap (λ e. operand (expr_value w s (expr_tree e))) c.deref-in-Call.ensures in
    let values = ap (λ es. expr_values w s (expr_trees es)) c.deref-in-Call-2.ensures.value in
    let same = ap₂ (λ a l. plain.Plain (plain.Call c.in-Call.name.place a c.in-Call.name.text l)) receiver values ∙ ap (expr_value w s) (sym (expr_tree-Call c.in-Call.receiver c.in-Call.name c.in-Call.arguments) ∙ ap expr_tree (sym c.in-Call.is)) in
    IfOk-weaker c.call_with.result _ _ (λ v h. h ∙ same) c.call_with.ensures.value

pub expr_value-returns-in_ok-push_value-in-TextCode-2-clause-noted : goal.expr_value-returns-in_ok-push_value-in-TextCode-2-clause-noted
expr_value-returns-in_ok-push_value-in-TextCode-2-clause-noted t c =
    let w = lent_within c.args.within.now in
    let s = sight_of c.args.frame.now c.args.variables.now in
    let first = c.in_ok-push_value-in-TextCode.ensures.noted ∙ ap (λ e. noted c.args.least.now (expr_refusals w s (expr_tree e))) c.deref-in-TextCode.ensures in
    let second = c.in_ok-push_value-in-TextCode-2.ensures.noted ∙ ap (λ e. noted c.push_value-in-TextCode.new.least (expr_refusals w s (expr_tree e))) c.deref-in-TextCode-2.ensures in
    noted_two c.args.least.now c.push_value-in-TextCode.new.least c.push_value-in-TextCode-2.new.least (expr_refusals w s (expr_tree c.in-TextCode.e.value)) (expr_refusals w s (expr_tree c.in-TextCode.at.value)) first second
    ∙ ap (λ e. noted c.args.least.now (expr_refusals w s e)) (sym (expr_tree-TextCode c.in-TextCode.e c.in-TextCode.at c.in-TextCode.place) ∙ ap expr_tree (sym c.in-TextCode.is))

pub expr_value-returns-in_ok-push_value-in-TextCode-2-clause-value : goal.expr_value-returns-in_ok-push_value-in-TextCode-2-clause-value
expr_value-returns-in_ok-push_value-in-TextCode-2-clause-value t c =
    let w = lent_within c.args.within.now in
    let s = sight_of c.args.frame.now c.args.variables.now in
    let first = λ (rest : plain.Values). c.in_ok-push_value-in-TextCode.ensures.values rest ∙ ap (λ e. values_then c.new-values-in-TextCode.result.items (plain.more (expr_value w s (expr_tree e)) rest)) c.deref-in-TextCode.ensures in
    let second = λ (rest : plain.Values). c.in_ok-push_value-in-TextCode-2.ensures.values rest ∙ ap (λ e. values_then c.push_value-in-TextCode.new.values.items (plain.more (expr_value w s (expr_tree e)) rest)) c.deref-in-TextCode-2.ensures in
    c.text_call-in-TextCode.ensures
    ∙ ap (λ l. plain.Plain (plain.TextCall c.in-TextCode.place texts.Code l))
    (row_two c.new-values-in-TextCode.result.items c.push_value-in-TextCode.new.values.items c.push_value-in-TextCode-2.new.values.items (expr_value w s (expr_tree c.in-TextCode.e.value)) (expr_value w s (expr_tree c.in-TextCode.at.value)) c.new-values-in-TextCode.ensures.items first second)
    ∙ ap (expr_value w s) (sym (expr_tree-TextCode c.in-TextCode.e c.in-TextCode.at c.in-TextCode.place) ∙ ap expr_tree (sym c.in-TextCode.is))

pub expr_value-returns-in_ok-push_value-in-TextPart-3-clause-noted : goal.expr_value-returns-in_ok-push_value-in-TextPart-3-clause-noted
expr_value-returns-in_ok-push_value-in-TextPart-3-clause-noted t c =
    let w = lent_within c.args.within.now in
    let s = sight_of c.args.frame.now c.args.variables.now in
    let first = c.in_ok-push_value-in-TextPart.ensures.noted ∙ ap (λ e. noted c.args.least.now (expr_refusals w s (expr_tree e))) c.deref-in-TextPart.ensures in
    let second = c.in_ok-push_value-in-TextPart-2.ensures.noted ∙ ap (λ e. noted c.push_value.new.least (expr_refusals w s (expr_tree e))) c.deref-in-TextPart-2.ensures in
    let third = c.in_ok-push_value-in-TextPart-3.ensures.noted ∙ ap (λ e. noted c.push_value-in-TextPart.new.least (expr_refusals w s (expr_tree e))) c.deref-in-TextPart-3.ensures in
    noted_three c.args.least.now c.push_value.new.least c.push_value-in-TextPart.new.least c.push_value-in-TextPart-2.new.least (expr_refusals w s (expr_tree c.in-TextPart.e.value)) (expr_refusals w s (expr_tree c.in-TextPart.from.value)) (expr_refusals w s (expr_tree c.in-TextPart.to.value)) first second third
    ∙ ap (λ e. noted c.args.least.now (expr_refusals w s e)) (sym (expr_tree-TextPart c.in-TextPart.e c.in-TextPart.from c.in-TextPart.to c.in-TextPart.place) ∙ ap expr_tree (sym c.in-TextPart.is))

pub expr_value-returns-in_ok-push_value-in-TextPart-3-clause-value : goal.expr_value-returns-in_ok-push_value-in-TextPart-3-clause-value
expr_value-returns-in_ok-push_value-in-TextPart-3-clause-value t c =
    let w = lent_within c.args.within.now in
    let s = sight_of c.args.frame.now c.args.variables.now in
    let first = λ (rest : plain.Values). c.in_ok-push_value-in-TextPart.ensures.values rest ∙ ap (λ e. values_then c.new-values.result.items (plain.more (expr_value w s (expr_tree e)) rest)) c.deref-in-TextPart.ensures in
    let second = λ (rest : plain.Values). c.in_ok-push_value-in-TextPart-2.ensures.values rest ∙ ap (λ e. values_then c.push_value.new.values.items (plain.more (expr_value w s (expr_tree e)) rest)) c.deref-in-TextPart-2.ensures in
    let third = λ (rest : plain.Values). c.in_ok-push_value-in-TextPart-3.ensures.values rest ∙ ap (λ e. values_then c.push_value-in-TextPart.new.values.items (plain.more (expr_value w s (expr_tree e)) rest)) c.deref-in-TextPart-3.ensures in
    c.text_call.ensures
    ∙ ap (λ l. plain.Plain (plain.TextCall c.in-TextPart.place texts.Part l))
    (row_three c.new-values.result.items c.push_value.new.values.items c.push_value-in-TextPart.new.values.items c.push_value-in-TextPart-2.new.values.items (expr_value w s (expr_tree c.in-TextPart.e.value)) (expr_value w s (expr_tree c.in-TextPart.from.value)) (expr_value w s (expr_tree c.in-TextPart.to.value)) c.new-values.ensures.items first second third)
    ∙ ap (expr_value w s) (sym (expr_tree-TextPart c.in-TextPart.e c.in-TextPart.from c.in-TextPart.to c.in-TextPart.place) ∙ ap expr_tree (sym c.in-TextPart.is))

pub expr_value-returns-in_ok-first-in-Choice-clause-noted : goal.expr_value-returns-in_ok-first-in-Choice-clause-noted
expr_value-returns-in_ok-first-in-Choice-clause-noted t c =
    let w = lent_within c.args.within.now in
    let s = sight_of c.args.frame.now c.args.variables.now in
    let first = c.in_ok-test-in-Choice.ensures.noted ∙ ap (λ e. noted c.args.least.now (expr_refusals w s (expr_tree e))) c.deref-in-Choice.ensures in
    let second = c.in_ok-first-in-Choice.ensures.noted ∙ ap (λ e. noted c.operand_value-in-Choice.new.least (expr_refusals w s (expr_tree e))) c.deref-in-Choice-2.ensures in
    let same = ap (λ e. noted c.last_value.new.least (expr_refusals w s (expr_tree e))) c.deref-in-Choice-3.ensures in
    let tree = ap (λ e. noted c.args.least.now (expr_refusals w s e)) (sym (expr_tree-Choice c.in-Choice.test c.in-Choice.first c.in-Choice.second c.in-Choice.place) ∙ ap expr_tree (sym c.in-Choice.is)) in
    on_ok_weaker c.choice_with.result
    (λ h. noted_three c.args.least.now c.operand_value-in-Choice.new.least c.last_value.new.least c.choice_with.new.least (expr_refusals w s (expr_tree c.in-Choice.test.value)) (expr_refusals w s (expr_tree c.in-Choice.first.value)) (expr_refusals w s (expr_tree c.in-Choice.second.value)) first second (h ∙ same) ∙ tree) c.choice_with.ensures.noted

pub expr_value-returns-in_ok-first-in-Choice-clause-value : goal.expr_value-returns-in_ok-first-in-Choice-clause-value
expr_value-returns-in_ok-first-in-Choice-clause-value t c =
    let w = lent_within c.args.within.now in
    let s = sight_of c.args.frame.now c.args.variables.now in
    let test = c.in_ok-test-in-Choice.ensures.value ∙ ap (λ e. operand (expr_value w s (expr_tree e))) c.deref-in-Choice.ensures in
    let first = c.in_ok-first-in-Choice.ensures.value ∙ ap (λ e. plain.Last (expr_value w s (expr_tree e))) c.deref-in-Choice-2.ensures in
    let second = ap (λ e. plain.Last (expr_value w s (expr_tree e))) c.deref-in-Choice-3.ensures in
    let same = if_of c.in-Choice.place test first second ∙ ap (expr_value w s) (sym (expr_tree-Choice c.in-Choice.test c.in-Choice.first c.in-Choice.second c.in-Choice.place) ∙ ap expr_tree (sym c.in-Choice.is)) in
    IfOk-weaker c.choice_with.result _ _ (λ v h. h ∙ same) c.choice_with.ensures.value

pub binary_with-returns-clause-value : goal.binary_with-returns-clause-value
binary_with-returns-clause-value t c =
    let w = lent_within c.args.within.now in
    let s = sight_of c.args.frame.now c.args.variables.now in
    ap (λ o. plain.Plain (plain.Binary c.args.place o (expr_of c.args.left.value) (expr_of c.in_ok-right.right.value))) c.operator_of.ensures
    ∙ ap (λ b. plain.Plain (plain.Binary c.args.place (operator_of c.args.operator) (expr_of c.args.left.value) b)) c.in_ok-right.ensures.value

pub call_with-returns-clause-value : goal.call_with-returns-clause-value
call_with-returns-clause-value t c =
    let w = lent_within c.args.within.now in
    let s = sight_of c.args.frame.now c.args.variables.now in
    c.call.ensures
    ∙ ap (λ n. plain.Plain (plain.Call c.args.name.now.place (expr_of c.args.receiver.value) n (values_of c.in_ok-arguments.arguments.items))) c.in_ok-copy.ensures
    ∙ ap (λ l. plain.Plain (plain.Call c.args.name.now.place (expr_of c.args.receiver.value) c.args.name.now.text l)) c.in_ok-arguments.ensures.value

pub choice_with-returns-clause-value : goal.choice_with-returns-clause-value
choice_with-returns-clause-value t c =
    let w = lent_within c.args.within.now in
    let s = sight_of c.args.frame.now c.args.variables.now in
    c.choice.ensures ∙ ap (plain.If c.args.place (expr_of c.args.test.value) (block_of c.args.first)) c.in_ok-second.ensures.value

pub text_of_one-returns-clause-value : goal.text_of_one-returns-clause-value
text_of_one-returns-clause-value t c =
    let w = lent_within c.args.within.now in
    let s = sight_of c.args.frame.now c.args.variables.now in
    c.text_call.ensures
    ∙ ap (λ l. plain.Plain (plain.TextCall c.args.place c.args.operator l))
    (row_one c.new-values.result.items c.push_value.new.values.items (expr_value w s (expr_tree c.args.e.now)) c.new-values.ensures.items c.in_ok-push_value.ensures.values)

pub push_value-returns-clause-values : goal.push_value-returns-clause-values
push_value-returns-clause-values t c =
    let w = lent_within c.args.within.now in
    let s = sight_of c.args.frame.now c.args.variables.now in
    values_pushed c.args.values.now.items c.add.new.list.items c.in_ok-expr_value.field-0 (expr_value w s (expr_tree c.args.e.now)) c.in_ok-add.ensures c.in_ok-expr_value.ensures.value

pub expr_values-loop-e-preserved : goal.expr_values-loop-e-preserved
expr_values-loop-e-preserved t c =
    let w = lent_within c.args.within.now in
    let s = sight_of c.args.frame.now c.args.variables.now in
    let lt : c.loop-e.e-index < length c.args.es.now = search rules in
    let es = c.args.es.now in
    let left = drop (c.loop-e.e-index + 1) es in
    let e = c.e-item.result in
    let at = ap expr_trees (next_of es c.loop-e.e-index e lt c.e-item.is) in
    record {
      value = c.in_ok-push_value.ensures.values (expr_values w s (expr_trees left)) ∙ ap (λ l. values_then c.loop-e.values.items (expr_values w s l)) (sym at) ∙ c.loop-e.invariant.value;
      noted = noted_turn c.loop-e.least c.push_value.new.least (noted c.args.least.now (exprs_refusals w s (expr_trees es))) (exprs_refusals w s (expr_trees (drop c.loop-e.e-index es))) (expr_refusals w s (expr_tree e)) (exprs_refusals w s (expr_trees left))
          (ap (exprs_refusals w s) at) c.in_ok-push_value.ensures.noted c.loop-e.invariant.noted;
    }

pub expr_values-returns-clause-value : goal.expr_values-returns-clause-value
expr_values-returns-clause-value t c =
    let w = lent_within c.args.within.now in
    let s = sight_of c.args.frame.now c.args.variables.now in
    let es = c.args.es.now in
    sym (values_then-none c.loop-e.values.items)
    ∙ ap (λ l. values_then c.loop-e.values.items (expr_values w s (expr_trees l))) (sym (drop_all c.loop-e.e-index es c.loop-e-test.false))
    ∙ c.loop-e.invariant.value
