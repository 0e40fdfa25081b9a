use Rattle.std.proofs.Common.{rules, ◌<◌, ◌≤◌, ◌∙◌, length, refl, ap}
use Rattle.std.proofs.lemmas.Option.{slice_get_read}
use Rattle.wy_types.specs.View.{expr_of, value_of}
use Rattle.wy_types.proofs.Rows.{expr_text_call, expr_call, expr_new, value_if}
use Rattle.wy_lower.proofs.EmitLists.{read_item}
use Rattle.wy_lower.proofs.EmitParts.{gathering_none, values_more, values_end, block_more, block_end, gathers_text_call, gathers_new, gathers_binary, gathers_call, gathers_if}
use Rattle.wy_lower.proofs.gathering.+gathering.Goals as goal

pub gather_expr-returns-in-Binary : goal.gather_expr-returns-in-Binary
gather_expr-returns-in-Binary t c =
    gathers_binary _ _ _ _ _ _ _ _ _ _ _ _ _ (ap expr_of c.in-Binary.is) (ap expr_of c.deref-in-Binary.ensures) (ap expr_of c.deref-in-Binary-2.ensures) c.gather_expr-in-Binary.ensures c.gather_expr-in-Binary-2.ensures

pub gather_expr-returns-in-TextCall : goal.gather_expr-returns-in-TextCall
gather_expr-returns-in-TextCall t c =
    let form = ap expr_of c.in-TextCall.is ∙ expr_text_call c.in-TextCall.field-0 c.in-TextCall.field-1 c.in-TextCall.values in
    gathers_text_call _ _ _ _ _ _ _ _ form c.gather_values.ensures

pub gather_expr-returns-in-Call : goal.gather_expr-returns-in-Call
gather_expr-returns-in-Call t c =
    let form = ap expr_of c.in-Call.is ∙ expr_call c.in-Call.field-0 c.in-Call.receiver c.in-Call.name c.in-Call.values in
    let put = c.add_method.ensures in
    gathers_call _ _ _ _ _ _ _ _ _ _ _ _ _ form (ap expr_of c.deref-in-Call.ensures) c.gather_expr-in-Call.ensures c.gather_values-in-Call.ensures put.enough put.texts put.methods

pub gather_expr-returns-in-New : goal.gather_expr-returns-in-New
gather_expr-returns-in-New t c =
    let form = ap expr_of c.in-New.is ∙ expr_new c.in-New.field-0 c.in-New.literal c.in-New.values in
    let put = c.add_number.ensures in
    gathers_new _ _ _ _ _ _ _ _ _ _ form put.enough put.texts put.methods put.numbers refl c.gather_values-in-New.ensures

pub gather_value-returns-in-If : goal.gather_value-returns-in-If
gather_value-returns-in-If t c =
    let form = ap value_of c.in-If.is ∙ value_if c.in-If.field-0 c.in-If.test c.in-If.first c.in-If.second in
    gathers_if _ _ _ _ _ _ _ _ _ _ _ _ _ _ form (ap expr_of c.deref.ensures) c.gather_expr-in-If.ensures c.gather_block.ensures c.gather_block-in-If.ensures

pub gather_values-loop-i-init : goal.gather_values-loop-i-init
gather_values-loop-i-init t c = gathering_none _ _ _ _

pub gather_values-loop-i-preserved : goal.gather_values-loop-i-preserved
gather_values-loop-i-preserved t c =
    let xs = c.args.values.now.items in
    let i = c.loop-i.i in
    let x = c.index.result.now in
    let lt : i < length xs = search rules in
    values_more _ _ _ _ _ _ xs i x _ _ lt (read_item xs i x (slice_get_read xs _ i x refl lt c.index.ensures)) c.loop-i.invariant c.gather_value.ensures

pub gather_values-returns : goal.gather_values-returns
gather_values-returns t c =
    let xs = c.args.values.now.items in
    let le : length xs ≤ c.loop-i.i = search rules in
    values_end _ _ _ _ xs c.loop-i.i _ _ le c.loop-i.invariant

pub gather_block-loop-i-init : goal.gather_block-loop-i-init
gather_block-loop-i-init t c = gathering_none _ _ _ _

pub gather_block-loop-i-preserved : goal.gather_block-loop-i-preserved
gather_block-loop-i-preserved t c =
    let xs = c.args.block.now.statements.items in
    let i = c.loop-i.i in
    let x = c.index.result.now in
    let lt : i < length xs = search rules in
    block_more _ _ _ _ _ _ xs i x _ _ _ lt (read_item xs i x (slice_get_read xs _ i x refl lt c.index.ensures)) c.loop-i.invariant c.gather_statement.ensures

pub gather_block-returns : goal.gather_block-returns
gather_block-returns t c =
    let xs = c.args.block.now.statements.items in
    let le : length xs ≤ c.loop-i.i = search rules in
    block_end _ _ _ _ _ _ xs c.loop-i.i _ _ _ _ le (ap value_of c.deref.ensures) c.loop-i.invariant c.gather_value.ensures
