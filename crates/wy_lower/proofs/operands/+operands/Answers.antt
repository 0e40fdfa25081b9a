use Rattle.std.proofs.Common.{rules, ◌≡◌, ◌<◌, ◌≤◌, suc, length, refl, sym, ap, ◌∙◌, arith}
use Rattle.std.proofs.lemmas.Option.{slice_get_read}
use Rattle.wy_types.specs.View.{expr_of, value_of, values_of}
use Rattle.wy_types.proofs.Rows.{expr_text_call, expr_call, expr_new, value_if}
use Rattle.wy_lower.specs.Capped.{capped}
use Rattle.wy_lower.specs.Operands.{operands, value_operands, values_operands}
use Rattle.wy_lower.proofs.Capped.{capped_max, capped_same, more_behind, sum_behind}
use Rattle.wy_lower.proofs.EmitLists.{read_item}
use Rattle.wy_lower.proofs.EmitOperands.{mosts_none, values_more, values_end, block_more, block_end}
use Rattle.wy_lower.proofs.operands.+operands.Goals as goal

pub operands-returns-in-Int : goal.operands-returns-in-Int
unfolding operands
operands-returns-in-Int t c = sym (ap (λ e. capped (operands (expr_of e))) c.in-Int.is)

pub operands-returns-in-Text : goal.operands-returns-in-Text
unfolding operands
operands-returns-in-Text t c = sym (ap (λ e. capped (operands (expr_of e))) c.in-Text.is)

pub operands-returns-in-Bool : goal.operands-returns-in-Bool
unfolding operands
operands-returns-in-Bool t c = sym (ap (λ e. capped (operands (expr_of e))) c.in-Bool.is)

pub operands-returns-in-Unit : goal.operands-returns-in-Unit
unfolding operands
operands-returns-in-Unit t c = sym (ap (λ e. capped (operands (expr_of e))) c.in-Unit.is)

pub operands-returns-in-This : goal.operands-returns-in-This
unfolding operands
operands-returns-in-This t c = sym (ap (λ e. capped (operands (expr_of e))) c.in-This.is)

pub operands-returns-in-Name : goal.operands-returns-in-Name
unfolding operands
operands-returns-in-Name t c = sym (ap (λ e. capped (operands (expr_of e))) c.in-Name.is)

pub operands-returns-in-Unary : goal.operands-returns-in-Unary
unfolding operands
operands-returns-in-Unary t c = c.operands.ensures ∙ ap (λ e. capped (operands (expr_of e))) c.deref.ensures ∙ sym (ap (λ e. capped (operands (expr_of e))) c.in-Unary.is)

pub operands-returns-in-Binary : goal.operands-returns-in-Binary
unfolding operands
operands-returns-in-Binary t c =
    let first = c.operands-first.ensures ∙ ap (λ e. capped (operands (expr_of e))) c.deref-in-Binary.ensures in
    let second = c.operands-second.ensures ∙ ap (λ e. capped (operands (expr_of e))) c.deref-in-Binary-2.ensures in
    c.two_operands.ensures _ _ first second ∙ sym (ap (λ e. capped (operands (expr_of e))) c.in-Binary.is)

pub operands-returns-in-TextCall : goal.operands-returns-in-TextCall
unfolding operands
operands-returns-in-TextCall t c =
    let form = ap expr_of c.in-TextCall.is ∙ expr_text_call c.in-TextCall.field-0 c.in-TextCall.field-1 c.in-TextCall.values in
    c.values_operands.ensures ∙ sym (ap (λ e. capped (operands e)) form)

pub operands-returns-in-Call : goal.operands-returns-in-Call
unfolding operands
operands-returns-in-Call t c =
    let form = ap expr_of c.in-Call.is ∙ expr_call c.in-Call.field-0 c.in-Call.receiver c.in-Call.field-2 c.in-Call.values in
    let first = c.operands-first-in-Call.ensures ∙ ap (λ e. capped (operands (expr_of e))) c.deref-in-Call.ensures in
    let n = values_operands (values_of c.in-Call.values.items) in
    let others = more_behind _ _ n c.sum.ensures c.values_operands-others.ensures in
    capped_max _ _ _ _ (suc n) c.greater.ensures first others ∙ sym (ap (λ e. capped (operands e)) form)

pub operands-returns-in-New : goal.operands-returns-in-New
unfolding operands
operands-returns-in-New t c =
    let form = ap expr_of c.in-New.is ∙ expr_new c.in-New.field-0 c.in-New.field-1 c.in-New.values in
    capped_max _ 1 _ 1 _ c.greater-in-New.ensures refl c.values_operands-initial.ensures ∙ sym (ap (λ e. capped (operands e)) form)

pub operands-returns-in-Ascribe : goal.operands-returns-in-Ascribe
unfolding operands
operands-returns-in-Ascribe t c =
    c.value_operands.ensures ∙ ap (λ e. capped (value_operands (value_of e))) c.deref-in-Ascribe.ensures ∙ sym (ap (λ e. capped (operands (expr_of e))) c.in-Ascribe.is)

pub operands-returns-in-Assign : goal.operands-returns-in-Assign
unfolding operands
operands-returns-in-Assign t c =
    c.value_operands-in-Assign.ensures ∙ ap (λ e. capped (value_operands (value_of e))) c.deref-in-Assign.ensures ∙ sym (ap (λ e. capped (operands (expr_of e))) c.in-Assign.is)

pub value_operands-returns-in-Plain : goal.value_operands-returns-in-Plain
unfolding value_operands
value_operands-returns-in-Plain t c = c.operands.ensures ∙ sym (ap (λ e. capped (value_operands (value_of e))) c.in-Plain.is)

pub value_operands-returns-in-If : goal.value_operands-returns-in-If
unfolding value_operands
value_operands-returns-in-If t c =
    let form = ap value_of c.in-If.is ∙ value_if c.in-If.field-0 c.in-If.test c.in-If.first c.in-If.second in
    let tested = c.operands-tested.ensures ∙ ap (λ e. capped (operands (expr_of e))) c.deref.ensures in
    let sides = capped_max _ _ _ _ _ c.greater.ensures c.block_operands-first.ensures c.block_operands-second.ensures in
    capped_max _ _ _ _ _ c.greater-in-If.ensures tested sides ∙ sym (ap (λ e. capped (value_operands e)) form)

pub values_operands-loop-i-init : goal.values_operands-loop-i-init
values_operands-loop-i-init t c = mosts_none _ _ (omega arith)

pub values_operands-loop-i-preserved : goal.values_operands-loop-i-preserved
values_operands-loop-i-preserved t c =
    let xs = c.args.values.now.items in
    let i = c.loop-i.i in
    let x = c.index.result.now in
    let lt : i < length xs = search rules in
    let below = sum_behind _ i _ _ c.sum-below.ensures c.value_operands.ensures in
    values_more _ c.loop-i.most _ _ i xs x lt (read_item xs i x (slice_get_read xs _ i x refl lt c.index.ensures)) below c.greater-most.ensures c.loop-i.invariant

pub values_operands-returns : goal.values_operands-returns
values_operands-returns t c =
    let xs = c.args.values.now.items in
    let le : length xs ≤ c.loop-i.i = search rules in
    let long : c.loop-i.i ≡ c.len.result = omega (arith, c.len-i-end.ensures, c.len.ensures) in
    let fits : c.len.result ≡ capped c.len.result = capped_same c.len.result (omega arith) in
    values_end _ c.loop-i.most c.len.result _ c.loop-i.i xs le long fits c.greater.ensures c.loop-i.invariant

pub block_operands-loop-i-init : goal.block_operands-loop-i-init
block_operands-loop-i-init t c = mosts_none _ _ refl

pub block_operands-loop-i-preserved : goal.block_operands-loop-i-preserved
block_operands-loop-i-preserved t c =
    let xs = c.args.block.now.statements.items in
    let i = c.loop-i.i in
    let x = c.index.result.now in
    let lt : i < length xs = search rules in
    block_more _ c.loop-i.most _ _ i xs x _ lt (read_item xs i x (slice_get_read xs _ i x refl lt c.index.ensures)) c.statement_operands-here.ensures c.greater-most.ensures c.loop-i.invariant

pub block_operands-returns : goal.block_operands-returns
block_operands-returns t c =
    let xs = c.args.block.now.statements.items in
    let last = value_of c.args.block.now.last.value in
    let le : length xs ≤ c.loop-i.i = search rules in
    let here = c.value_operands.ensures ∙ ap (λ e. capped (value_operands (value_of e))) c.deref.ensures in
    block_end _ c.loop-i.most _ _ c.loop-i.i xs last le here c.greater.ensures c.loop-i.invariant
