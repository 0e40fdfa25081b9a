use Rattle.std.proofs.Common.{rules, ◌<◌, ◌≤◌, length, refl, ap, ◌∙◌, subst, w64, SFits}
use Rattle.std.proofs.lemmas.Int.{to_z-of_z}
use Rattle.std.proofs.lemmas.Option.{slice_get_read}
use Rattle.wy_types.specs.View.{expr_of, value_of}
use Rattle.wy_types.proofs.Rows.{expr_text_call, expr_call, expr_new, value_if}
use Rattle.wy_lower.specs.Listing.{listing}
use Rattle.wy_lower.specs.Emits.{Emits, inside_of, right_listing}
use Rattle.wy_lower.proofs.EmitLists.{read_item}
use Rattle.wy_lower.proofs.EmitSteps.{emits_sides}
use Rattle.wy_lower.proofs.EmitForms.{count_is, emits_number, emits_quoted, emits_truth, emits_nothing, emits_this, emits_name, emits_unary, emits_binary, emits_text_call, emits_call, emits_new, emits_ascribe, emits_assign, emits_plain, emits_if, values_more, values_end, block_more, block_end}
use Rattle.wy_lower.proofs.expressions.+emission.Goals as goal

pub emit_expr-returns-in-Int : goal.emit_expr-returns-in-Int
emit_expr-returns-in-Int t c =
    let fits : SFits w64 c.in-Int.number = search rules in
    emits_number _ _ _ _ _ c.in-Int.number _ (ap expr_of c.in-Int.is) (to_z-of_z w64 c.in-Int.number fits) c.put.ensures

pub emit_expr-returns-in-Text : goal.emit_expr-returns-in-Text
emit_expr-returns-in-Text t c = emits_quoted _ _ _ _ _ _ (ap expr_of c.in-Text.is) c.put_quoted.ensures

pub emit_expr-returns-in-Bool : goal.emit_expr-returns-in-Bool
emit_expr-returns-in-Bool t c = emits_truth _ _ _ _ _ _ (ap expr_of c.in-Bool.is) c.put-in-Bool.ensures

pub emit_expr-returns-in-Unit : goal.emit_expr-returns-in-Unit
emit_expr-returns-in-Unit t c = emits_nothing _ _ _ _ _ (ap expr_of c.in-Unit.is) c.put-in-Unit.ensures

pub emit_expr-returns-in-This : goal.emit_expr-returns-in-This
emit_expr-returns-in-This t c = emits_this _ _ _ _ _ (ap expr_of c.in-This.is) c.put-in-This.ensures

pub emit_expr-returns-in-Name : goal.emit_expr-returns-in-Name
emit_expr-returns-in-Name t c = emits_name _ _ _ _ _ _ (ap expr_of c.in-Name.is) c.put_name.ensures

pub emit_expr-returns-in-Unary : goal.emit_expr-returns-in-Unary
emit_expr-returns-in-Unary t c =
    emits_unary _ _ _ _ _ _ _ _ _ _ (ap expr_of c.in-Unary.is) (ap expr_of c.deref.ensures) c.unary_code.ensures c.emit_expr.ensures c.put-in-Unary.ensures

pub emit_expr-returns-in-Binary : goal.emit_expr-returns-in-Binary
emit_expr-returns-in-Binary t c =
    emits_binary _ _ _ _ _ _ _ _ _ _ _ (ap expr_of c.in-Binary.is) (ap expr_of c.deref-in-Binary.ensures) (ap expr_of c.deref-in-Binary-2.ensures) c.emit_expr-in-Binary.ensures c.emit_right.ensures

pub emit_expr-returns-in-TextCall : goal.emit_expr-returns-in-TextCall
emit_expr-returns-in-TextCall t c =
    let form = ap expr_of c.in-TextCall.is ∙ expr_text_call c.in-TextCall.place c.in-TextCall.operator c.in-TextCall.values in
    emits_text_call _ _ _ _ _ _ _ _ _ _ form refl c.text_code.ensures c.emit_values.ensures c.put-in-TextCall.ensures

pub emit_expr-returns-in-Call : goal.emit_expr-returns-in-Call
emit_expr-returns-in-Call t c =
    let form = ap expr_of c.in-Call.is ∙ expr_call c.in-Call.place c.in-Call.receiver c.in-Call.name c.in-Call.arguments in
    let count = c.len.ensures ∙ c.in-Call.arguments.ok.0 ∙ count_is c.in-Call.arguments.items in
    emits_call _ _ _ _ _ _ _ _ _ _ _ _ _ form (ap expr_of c.deref-in-Call.ensures) refl count c.emit_expr-in-Call.ensures c.emit_values-in-Call.ensures c.put_call.ensures

pub emit_expr-returns-in-New : goal.emit_expr-returns-in-New
emit_expr-returns-in-New t c =
    let form = ap expr_of c.in-New.is ∙ expr_new c.in-New.place c.in-New.literal c.in-New.values in
    emits_new _ _ _ _ _ _ _ _ _ form refl c.emit_values-in-New.ensures c.put-in-New.ensures

pub emit_expr-returns-in-Ascribe : goal.emit_expr-returns-in-Ascribe
emit_expr-returns-in-Ascribe t c = emits_ascribe _ _ _ _ _ _ _ _ (ap expr_of c.in-Ascribe.is) (ap value_of c.deref-in-Ascribe.ensures) c.emit_value.ensures

pub emit_expr-returns-in-Assign : goal.emit_expr-returns-in-Assign
emit_expr-returns-in-Assign t c =
    emits_assign _ _ _ _ _ _ _ _ _ (ap expr_of c.in-Assign.is) (ap value_of c.deref-in-Assign.ensures) c.emit_value-in-Assign.ensures c.put_assigned.ensures

pub emit_right-returns-in-And : goal.emit_right-returns-in-And
emit_right-returns-in-And t c =
    subst (λ o. Emits c.args.out.now c.end_sides.new.out (λ at. right_listing c.args.place o at (λ at. listing (inside_of c.args.inside.now) at (expr_of c.args.right.now)))) c.in-And.ensures
    (emits_sides _ _ _ _ _ _ _ _ _ _ _ c.begin_first-test.ensures.at c.begin_first-test.ensures.added c.emit_expr-in-And.ensures c.begin_second-first.ensures.at c.begin_second-first.ensures.added c.put-in-And.ensures c.end_sides.ensures)

pub emit_right-returns-in-Or : goal.emit_right-returns-in-Or
emit_right-returns-in-Or t c =
    subst (λ o. Emits c.args.out.now c.end_sides-in-Or.new.out (λ at. right_listing c.args.place o at (λ at. listing (inside_of c.args.inside.now) at (expr_of c.args.right.now)))) c.in-Or.ensures
    (emits_sides _ _ _ _ _ _ _ _ _ _ _ c.begin_first-test-in-Or.ensures.at c.begin_first-test-in-Or.ensures.added c.put-in-Or.ensures c.begin_second-first-in-Or.ensures.at c.begin_second-first-in-Or.ensures.added c.emit_expr-in-Or.ensures c.end_sides-in-Or.ensures)

pub emit_value-returns-in-Plain : goal.emit_value-returns-in-Plain
emit_value-returns-in-Plain t c = emits_plain _ _ _ _ _ (ap value_of c.in-Plain.is) c.emit_expr.ensures

pub emit_value-returns-in-If : goal.emit_value-returns-in-If
emit_value-returns-in-If t c =
    let form = ap value_of c.in-If.is ∙ value_if c.in-If.place c.in-If.test c.in-If.first c.in-If.second in
    emits_if _ _ _ _ _ _ _ _ _ _ form (ap expr_of c.deref.ensures) c.emit_expr-in-If.ensures
    (emits_sides _ _ _ _ _ _ _ _ _ _ _ c.begin_first-tested.ensures.at c.begin_first-tested.ensures.added c.emit_block.ensures c.begin_second-turned.ensures.at c.begin_second-turned.ensures.added c.emit_block-in-If.ensures c.end_sides.ensures)

pub emit_values-loop-i-preserved : goal.emit_values-loop-i-preserved
emit_values-loop-i-preserved t c =
    let xs = c.args.values.now.items in
    let i = c.loop-i.i in
    let x = c.index.result.now in
    let lt : i < length xs = search rules in
    values_more _ _ _ _ xs i x _ lt (read_item xs i x (slice_get_read xs _ i x refl lt c.index.ensures)) c.loop-i.invariant c.emit_value.ensures

pub emit_values-returns : goal.emit_values-returns
emit_values-returns t c =
    let xs = c.args.values.now.items in
    let le : length xs ≤ c.loop-i.i = search rules in
    values_end _ _ _ xs c.loop-i.i _ le c.loop-i.invariant

pub emit_block-loop-i-preserved : goal.emit_block-loop-i-preserved
emit_block-loop-i-preserved t c =
    let xs = c.args.block.now.statements.items in
    let i = c.loop-i.i in
    let x = c.index.result.now in
    let lt : i < length xs = search rules in
    block_more _ _ _ _ xs i x _ _ lt (read_item xs i x (slice_get_read xs _ i x refl lt c.index.ensures)) c.loop-i.invariant c.emit_statement.ensures

pub emit_block-returns : goal.emit_block-returns
emit_block-returns t c =
    let xs = c.args.block.now.statements.items in
    let le : length xs ≤ c.loop-i.i = search rules in
    block_end _ _ _ _ xs c.loop-i.i _ _ _ le (ap value_of c.deref.ensures) c.loop-i.invariant c.emit_value.ensures
