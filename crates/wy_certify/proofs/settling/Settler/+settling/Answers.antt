use Rattle.std.proofs.Common.{◌≡◌, ◌<◌, ◌≤◌, List, length, sym, ap, ◌∙◌, rules}
use Rattle.std.proofs.lemmas.Result.{on_ok_weaker}
use Rattle.wy_types.specs.declared.types.TypeRef.{TypeRef}
use Rattle.wy_types.specs.declared.code.Value as v
use Rattle.wy_types.specs.declared.code.Stmt as st
use Rattle.wy_types.specs.Code.{Expr, Value}
use Rattle.wy_types.specs.View.{expr_of, value_of, values_of, block_of}
use Rattle.wy_types.proofs.Rows.{expr_text_call, expr_call, expr_new, value_if}
use Rattle.wy_rules.specs.Canonical.{with_local}
use Rattle.wy_certify.specs.Settling.{standing_of, knowing, val_typ, expr_settled, value_settled, values_settled, stmt_settled, front_settled, block_settled}
use Rattle.wy_certify.proofs.Settled.{number_settled, text_settled, truth_settled, nothing_settled, this_settled, name_settled, unary_settled, binary_settled, text_call_settled, call_settled, new_settled, ascribe_settled, assign_settled, plain_settled, if_settled, val_settled, do_settled, all_settled, value_turn, values_end, stmt_turn, front_end}
use Rattle.wy_certify.proofs.settling.Settler.+settling.Goals as goal

pub settle_expr-returns-in-Int : goal.settle_expr-returns-in-Int
settle_expr-returns-in-Int t c =
    let w = standing_of c.args.self.now in
    let us = c.args.known.now.items in
    sym (ap (λ (x : Expr). expr_settled w x us) (ap expr_of c.in-Int.is) ∙ number_settled w c.in-Int.field-0 c.in-Int.field-1 us)

pub settle_expr-returns-in-Text : goal.settle_expr-returns-in-Text
settle_expr-returns-in-Text t c =
    let w = standing_of c.args.self.now in
    let us = c.args.known.now.items in
    sym (ap (λ (x : Expr). expr_settled w x us) (ap expr_of c.in-Text.is) ∙ text_settled w c.in-Text.field-0 c.in-Text.field-1 us)

pub settle_expr-returns-in-Bool : goal.settle_expr-returns-in-Bool
settle_expr-returns-in-Bool t c =
    let w = standing_of c.args.self.now in
    let us = c.args.known.now.items in
    sym (ap (λ (x : Expr). expr_settled w x us) (ap expr_of c.in-Bool.is) ∙ truth_settled w c.in-Bool.field-0 c.in-Bool.field-1 us)

pub settle_expr-returns-in-Unit : goal.settle_expr-returns-in-Unit
settle_expr-returns-in-Unit t c =
    let w = standing_of c.args.self.now in
    let us = c.args.known.now.items in
    sym (ap (λ (x : Expr). expr_settled w x us) (ap expr_of c.in-Unit.is) ∙ nothing_settled w c.in-Unit.field-0 us)

pub settle_expr-returns-in-This : goal.settle_expr-returns-in-This
settle_expr-returns-in-This t c =
    let w = standing_of c.args.self.now in
    let us = c.args.known.now.items in
    sym (ap (λ (x : Expr). expr_settled w x us) (ap expr_of c.in-This.is) ∙ this_settled w c.in-This.field-0 us)

pub settle_expr-returns-in-Name : goal.settle_expr-returns-in-Name
settle_expr-returns-in-Name t c =
    let w = standing_of c.args.self.now in
    let us = c.args.known.now.items in
    sym (ap (λ (x : Expr). expr_settled w x us) (ap expr_of c.in-Name.is) ∙ name_settled w c.in-Name.field-0 c.in-Name.field-1 us)

pub settle_expr-returns-in-Unary : goal.settle_expr-returns-in-Unary
settle_expr-returns-in-Unary t c =
    let w = standing_of c.args.self.now in
    let us = c.args.known.now.items in
    let whole = ap (λ (x : Expr). expr_settled w x us) (ap expr_of c.in-Unary.is) ∙ unary_settled w c.in-Unary.field-0 c.in-Unary.field-1 (expr_of c.in-Unary.x.value) us in
    on_ok_weaker c.settle_expr.result (λ h. h ∙ ap (λ (x : Expr). expr_settled w x us) (ap expr_of c.deref.ensures) ∙ sym whole) c.settle_expr.ensures

pub settle_expr-returns-in_ok-settle_expr-in-Binary : goal.settle_expr-returns-in_ok-settle_expr-in-Binary
settle_expr-returns-in_ok-settle_expr-in-Binary t c =
    let w = standing_of c.args.self.now in
    let us = c.args.known.now.items in
    let x = expr_of c.in-Binary.x.value in
    let y = expr_of c.in-Binary.y.value in
    let at = ap expr_of c.deref-in-Binary.ensures in
    let at2 = ap expr_of c.deref-in-Binary-2.ensures in
    let first : c.settle_expr-in-Binary.new.known.items ≡ expr_settled w (expr_of c.deref-in-Binary.result.now) us = c.in_ok-settle_expr-in-Binary.ensures in
    let whole = ap (λ (e : Expr). expr_settled w e us) (ap expr_of c.in-Binary.is) ∙ binary_settled w c.in-Binary.field-0 c.in-Binary.field-1 x y us in
    on_ok_weaker c.settle_expr-in-Binary-2.result (λ h. cc) c.settle_expr-in-Binary-2.ensures

pub settle_expr-returns-in-TextCall : goal.settle_expr-returns-in-TextCall
settle_expr-returns-in-TextCall t c =
    let w = standing_of c.args.self.now in
    let us = c.args.known.now.items in
    let form = ap expr_of c.in-TextCall.is ∙ expr_text_call c.in-TextCall.field-0 c.in-TextCall.field-1 c.in-TextCall.values in
    let whole = ap (λ (x : Expr). expr_settled w x us) form ∙ text_call_settled w c.in-TextCall.field-0 c.in-TextCall.field-1 (values_of c.in-TextCall.values.items) us in
    on_ok_weaker c.settle_values.result (λ h. h ∙ sym whole) c.settle_values.ensures

pub settle_expr-returns-in_ok-settle_expr-in-Call : goal.settle_expr-returns-in_ok-settle_expr-in-Call
settle_expr-returns-in_ok-settle_expr-in-Call t c =
    let w = standing_of c.args.self.now in
    let us = c.args.known.now.items in
    let x = expr_of c.in-Call.x.value in
    let xs = values_of c.in-Call.values.items in
    let at = ap expr_of c.deref-in-Call.ensures in
    let first : c.settle_expr-in-Call.new.known.items ≡ expr_settled w (expr_of c.deref-in-Call.result.now) us = c.in_ok-settle_expr-in-Call.ensures in
    let form = ap expr_of c.in-Call.is ∙ expr_call c.in-Call.field-0 c.in-Call.x c.in-Call.field-2 c.in-Call.values in
    let whole = ap (λ (e : Expr). expr_settled w e us) form ∙ call_settled w c.in-Call.field-0 x c.in-Call.field-2 xs us in
    on_ok_weaker c.settle_values-in-Call.result (λ h. cc) c.settle_values-in-Call.ensures

pub settle_expr-returns-in-New : goal.settle_expr-returns-in-New
settle_expr-returns-in-New t c =
    let w = standing_of c.args.self.now in
    let us = c.args.known.now.items in
    let form = ap expr_of c.in-New.is ∙ expr_new c.in-New.field-0 c.in-New.field-1 c.in-New.values in
    let whole = ap (λ (x : Expr). expr_settled w x us) form ∙ new_settled w c.in-New.field-0 c.in-New.field-1 (values_of c.in-New.values.items) us in
    on_ok_weaker c.settle_values-in-New.result (λ h. h ∙ sym whole) c.settle_values-in-New.ensures

pub settle_expr-returns-in-Ascribe : goal.settle_expr-returns-in-Ascribe
settle_expr-returns-in-Ascribe t c =
    let w = standing_of c.args.self.now in
    let us = c.args.known.now.items in
    let whole = ap (λ (x : Expr). expr_settled w x us) (ap expr_of c.in-Ascribe.is) ∙ ascribe_settled w c.in-Ascribe.field-0 (value_of c.in-Ascribe.value.value) c.in-Ascribe.field-2 us in
    on_ok_weaker c.settle_value.result (λ h. h ∙ ap (λ (x : Value). value_settled w x us) (ap value_of c.deref-in-Ascribe.ensures) ∙ sym whole) c.settle_value.ensures

pub settle_expr-returns-in-Assign : goal.settle_expr-returns-in-Assign
settle_expr-returns-in-Assign t c =
    let w = standing_of c.args.self.now in
    let us = c.args.known.now.items in
    let whole = ap (λ (x : Expr). expr_settled w x us) (ap expr_of c.in-Assign.is) ∙ assign_settled w c.in-Assign.field-0 c.in-Assign.field-1 (value_of c.in-Assign.value.value) us in
    on_ok_weaker c.settle_value-in-Assign.result (λ h. h ∙ ap (λ (x : Value). value_settled w x us) (ap value_of c.deref-in-Assign.ensures) ∙ sym whole) c.settle_value-in-Assign.ensures

pub settle_value-returns-in-Plain : goal.settle_value-returns-in-Plain
settle_value-returns-in-Plain t c =
    let w = standing_of c.args.self.now in
    let us = c.args.known.now.items in
    let whole = ap (λ (x : Value). value_settled w x us) (ap value_of c.in-Plain.is) ∙ plain_settled w (expr_of c.in-Plain.x) us in
    on_ok_weaker c.settle_expr.result (λ h. h ∙ sym whole) c.settle_expr.ensures

pub settle_value-returns-in_ok-settle_block-in-If : goal.settle_value-returns-in_ok-settle_block-in-If
settle_value-returns-in_ok-settle_block-in-If t c =
    let w = standing_of c.args.self.now in
    let us = c.args.known.now.items in
    let x = expr_of c.in-If.test.value in
    let a = block_of c.in-If.first in
    let b = block_of c.in-If.second in
    let at = ap expr_of c.deref.ensures in
    let test : c.settle_expr-in-If.new.known.items ≡ expr_settled w (expr_of c.deref.result.now) us = c.in_ok-settle_expr-in-If.ensures in
    let first : c.settle_block.new.known.items ≡ block_settled w a c.settle_expr-in-If.new.known.items = c.in_ok-settle_block-in-If.ensures in
    let form = ap value_of c.in-If.is ∙ value_if c.in-If.field-0 c.in-If.test c.in-If.first c.in-If.second in
    let whole = ap (λ (e : Value). value_settled w e us) form ∙ if_settled w c.in-If.field-0 x a b us in
    on_ok_weaker c.settle_block-in-If.result (λ h. cc) c.settle_block-in-If.ensures

pub settle_statement-returns-in_ok-typ-in-Val : goal.settle_statement-returns-in_ok-typ-in-Val
settle_statement-returns-in_ok-typ-in-Val t c =
    let w = standing_of c.args.self.now in
    let us = c.args.known.now.items in
    let n = c.in-Val.number in
    let x = value_of c.in-Val.value in
    let vs = value_settled w x us in
    let part : c.settle_value.new.known.items ≡ vs = c.in_ok-settle_value-in-Val.ensures in
    let seen : c.as_slice.result.now ≡ c.settle_value.new.known.items = c.as_slice.ensures.value in
    let typ : c.in_ok-typ-in-Val.typ ≡ val_typ (knowing w c.as_slice.result.now) c.in-Val.written x = c.in_ok-typ-in-Val.ensures in
    let whole = ap (λ (s : st.Stmt). stmt_settled w s us) c.in-Val.is ∙ val_settled w c.in-Val.field-0 n c.in-Val.written c.in-Val.value us in
    let own = typ ∙ ap (λ (l : List TypeRef). val_typ (knowing w l) c.in-Val.written x) (seen ∙ part) in
    on_ok_weaker c.put.result (λ h. h ∙ ap (with_local n c.in_ok-typ-in-Val.typ) part ∙ ap (λ (k : TypeRef). with_local n k vs) own ∙ sym whole) c.put.ensures

pub settle_statement-returns-in-Do : goal.settle_statement-returns-in-Do
settle_statement-returns-in-Do t c =
    let w = standing_of c.args.self.now in
    let us = c.args.known.now.items in
    let whole = ap (λ (s : st.Stmt). stmt_settled w s us) c.in-Do.is ∙ do_settled w c.in-Do.value us in
    on_ok_weaker c.settle_value-in-Do.result (λ h. h ∙ sym whole) c.settle_value-in-Do.ensures

pub settle_values-loop-value-preserved : goal.settle_values-loop-value-preserved
settle_values-loop-value-preserved t c =
    let w = standing_of c.args.self.now in
    let xs = c.deref-value-items.result.now in
    let lt : c.loop-value.value-index < length xs = search rules in
    value_turn w xs c.loop-value.value-index c.value-item.result lt c.value-item.is _ c.loop-value.known.items c.settle_value.new.known.items c.loop-value.invariant c.in_ok-settle_value.ensures

pub settle_values-returns : goal.settle_values-returns
settle_values-returns t c =
    let w = standing_of c.args.self.now in
    let xs = c.deref-value-items.result.now in
    let short : length xs ≤ c.loop-value.value-index = search rules in
    values_end w xs c.loop-value.value-index short _ c.loop-value.known.items c.loop-value.invariant ∙ ap (λ (l : List v.Value). values_settled w (values_of l) c.args.known.now.items) c.deref-value-items.ensures.value

pub settle_block-loop-statement-preserved : goal.settle_block-loop-statement-preserved
settle_block-loop-statement-preserved t c =
    let w = standing_of c.args.self.now in
    let xs = c.deref-statement-items.result.now in
    let lt : c.loop-statement.statement-index < length xs = search rules in
    stmt_turn w xs c.loop-statement.statement-index c.statement-item.result lt c.statement-item.is _ c.loop-statement.known.items c.settle_statement.new.known.items c.loop-statement.invariant c.in_ok-settle_statement.ensures

pub settle_block-returns : goal.settle_block-returns
settle_block-returns t c =
    let w = standing_of c.args.self.now in
    let us = c.args.known.now.items in
    let xs = c.deref-statement-items.result.now in
    let short : length xs ≤ c.loop-statement.statement-index = search rules in
    let z = value_of c.args.block.now.last.value in
    let front = front_end w xs c.loop-statement.statement-index short _ c.loop-statement.known.items c.loop-statement.invariant ∙ ap (λ (l : List st.Stmt). front_settled w l us) c.deref-statement-items.ensures.value in
    let whole = all_settled w c.args.block.now.statements.items z us in
    on_ok_weaker c.settle_value.result (λ h. h ∙ ap (λ (x : v.Value). value_settled w (value_of x) c.loop-statement.known.items) c.deref.ensures ∙ ap (value_settled w z) front ∙ sym whole) c.settle_value.ensures
