use Rattle.std.proofs.Common.{◌≡◌, ◌+◌, ◌<◌, ◌≤◌, length, drop, vec_len, Err, Ok, refl, sym, ap, ap₂, ◌∙◌, subst, rules, Bool as Truth}
use Rattle.wy_text.specs.declared.fault.Place.{Place}
use Rattle.wy_types.specs.declared.code.Stmt.{Stmt}
use Rattle.wy_types.specs.declared.code.Value as v
use Rattle.wy_types.specs.Code.{Block, Last, Unary, Ascribe, Assign}
use Rattle.wy_types.specs.View.{expr_of, value_of, values_of, block_of, stmt_block, stmts_block}
use Rattle.wy_types.proofs.Rows.{expr_text_call, expr_call, expr_new, value_if}
use Rattle.wy_proving.specs.Reading.{part_fails, part_stands, parts_fail}
use Rattle.wy_recheck.specs.declared.reader.Several.{Several}
use Rattle.wy_recheck.specs.declared.forms.Waiting.{Waiting}
use Rattle.wy_recheck.specs.Standing.{FailsFirst}
use Rattle.wy_recheck.specs.Nodes.{expr_read, value_read, values_read, block_read, second_read, text_read, call_read, new_read, closing, left, IsRead, IsStatement}
use Rattle.wy_recheck.proofs.NodesFailing.{first_weaker, handed_on}
use Rattle.wy_recheck.proofs.NodesJoined.{read_as, fails_as, behind_read, part_fails_first, later_fails, then_read, then_fails, behind_parts, parts_fail_first, values_counted, before, before_none, before_more}
use Rattle.wy_recheck.proofs.NodesInOrder.{value_stands, value_fails, no_value, do_stands, do_fails, val_statement, val_fails, statement_stands, statement_fails, no_statement, closing_fails}
use Rattle.wy_recheck.proofs.reader.Reader.+reading.Goals as goal

------------------------------------------------------------
-- Expressions

pub read_expr-returns-in-Int : goal.read_expr-returns-in-Int
read_expr-returns-in-Int t c = read_as _ _ c.literal.result _ _ (ap (λ x. expr_read c.args.self.now c.args.at.now (expr_of x)) c.in-Int.is) c.literal.ensures

pub read_expr-returns-in-Text : goal.read_expr-returns-in-Text
read_expr-returns-in-Text t c = read_as _ _ c.literal-in-Text.result _ _ (ap (λ x. expr_read c.args.self.now c.args.at.now (expr_of x)) c.in-Text.is) c.literal-in-Text.ensures

pub read_expr-returns-in-Bool : goal.read_expr-returns-in-Bool
read_expr-returns-in-Bool t c = read_as _ _ c.literal-in-Bool.result _ _ (ap (λ x. expr_read c.args.self.now c.args.at.now (expr_of x)) c.in-Bool.is) c.literal-in-Bool.ensures

pub read_expr-returns-in-Unit : goal.read_expr-returns-in-Unit
read_expr-returns-in-Unit t c = read_as _ _ c.literal-in-Unit.result _ _ (ap (λ x. expr_read c.args.self.now c.args.at.now (expr_of x)) c.in-Unit.is) c.literal-in-Unit.ensures

pub read_expr-returns-in-This : goal.read_expr-returns-in-This
read_expr-returns-in-This t c = read_as _ _ c.this.result _ _ (ap (λ x. expr_read c.args.self.now c.args.at.now (expr_of x)) c.in-This.is) c.this.ensures

pub read_expr-returns-in-Name : goal.read_expr-returns-in-Name
read_expr-returns-in-Name t c = read_as _ _ c.name.result _ _ (ap (λ x. expr_read c.args.self.now c.args.at.now (expr_of x)) c.in-Name.is) c.name.ensures

pub read_expr-returns-in-Unary : goal.read_expr-returns-in-Unary
read_expr-returns-in-Unary t c =
    read_as _ _ c.read_unary.result _ _ (ap (expr_read c.args.self.now c.args.at.now) (ap expr_of c.in-Unary.is ∙ ap (λ x. Unary c.in-Unary.place c.in-Unary.operator (expr_of x)) (sym c.deref.ensures))) c.read_unary.ensures

pub read_unary-returns-in_err-operand : goal.read_unary-returns-in_err-operand
read_unary-returns-in_err-operand t c =
    let e : c.from_residual.result ≡ Err c.in_err-operand.field-0.0 = handed_on c.from_residual.result c.in_err-operand.field-0.0 c.from_residual.ensures.1 in
    rw e (part_fails_first c.args.self.now.nodes.now _ _ _ refl _ c.in_err-operand.ensures)

pub read_unary-returns : goal.read_unary-returns
read_unary-returns t c =
    behind_read c.args.self.now.nodes.now _ _ _ refl c.in_ok-operand.operand _ _ c.unary.result c.in_ok-operand.ensures c.unary.ensures

pub read_expr-returns-in_err-first-in-Binary : goal.read_expr-returns-in_err-first-in-Binary
read_expr-returns-in_err-first-in-Binary t c =
    let r = c.args.self.now in
    let at = c.args.at.now in
    let form = ap (λ x. expr_read r at (expr_of x)) c.in-Binary.is in
    let e : c.from_residual.result ≡ Err c.in_err-first-in-Binary.field-0.0 = handed_on c.from_residual.result c.in_err-first-in-Binary.field-0.0 c.from_residual.ensures.1 in
    rw e (part_fails_first r.nodes.now _ _ _ form _ (fails_as _ _ (ap (λ x. expr_read r at (expr_of x)) (sym c.deref-in-Binary.ensures)) _ c.in_err-first-in-Binary.ensures))

pub read_expr-returns-in_ok-first-in-Binary : goal.read_expr-returns-in_ok-first-in-Binary
read_expr-returns-in_ok-first-in-Binary t c =
    let r = c.args.self.now in
    let at = c.args.at.now in
    let middle = c.read_expr.new.at in
    let form = ap (λ x. expr_read r at (expr_of x)) c.in-Binary.is in
    let first = ap (λ x. expr_read r at (expr_of x)) (sym c.deref-in-Binary.ensures) ∙ c.in_ok-first-in-Binary.ensures in
    let x = c.in_ok-first-in-Binary.first in
    let second = ap (λ z. second_read r middle c.in-Binary.place c.in-Binary.operator x (expr_of z)) (sym c.deref-in-Binary-2.ensures) in
    behind_read r.nodes.now _ _ _ form x middle _ c.read_second.result first (read_as _ _ c.read_second.result _ _ second c.read_second.ensures)

pub read_second-returns-in_err-second : goal.read_second-returns-in_err-second
read_second-returns-in_err-second t c =
    let e : c.from_residual.result ≡ Err c.in_err-second.field-0.0 = handed_on c.from_residual.result c.in_err-second.field-0.0 c.from_residual.ensures.1 in
    rw e (then_fails c.args.self.now.nodes.now _ _ _ c.in_err-second.ensures)

pub read_second-returns : goal.read_second-returns
read_second-returns t c =
    then_read c.args.self.now.nodes.now _ _ c.in_ok-second.second c.read_expr.new.at _ c.binary.result c.in_ok-second.ensures c.binary.ensures

pub read_expr-returns-in-TextCall : goal.read_expr-returns-in-TextCall
read_expr-returns-in-TextCall t c =
    read_as _ _ c.read_text_call.result _ _ (ap (expr_read c.args.self.now c.args.at.now) (ap expr_of c.in-TextCall.is ∙ expr_text_call c.in-TextCall.place c.in-TextCall.operator c.in-TextCall.values)) c.read_text_call.ensures

pub read_text_call-returns-in_err-operands : goal.read_text_call-returns-in_err-operands
read_text_call-returns-in_err-operands t c =
    let e : c.from_residual.result ≡ Err c.in_err-operands.field-0.0 = handed_on c.from_residual.result c.in_err-operands.field-0.0 c.from_residual.ensures.1 in
    rw e (parts_fail_first c.args.self.now.nodes.now _ _ _ refl _ c.in_err-operands.ensures)

pub read_text_call-returns : goal.read_text_call-returns
read_text_call-returns t c =
    let r = c.args.self.now in
    let xs = c.args.values.now in
    let z = c.in_ok-operands.operands in
    let behind = c.read_values.new.at in
    let size : vec_len xs ≡ length xs.items = search rules in
    let count = c.len.ensures ∙ size ∙ sym (values_counted xs.items) in
    behind_parts r.nodes.now _ _ _ refl z behind _ c.text_call.result c.in_ok-operands.ensures
    (subst (λ n. IsRead r.nodes.now (text_read r behind c.args.place c.args.operator n z) c.text_call.new.at c.text_call.result) count c.text_call.ensures)

pub read_expr-returns-in_err-receiver-in-Call : goal.read_expr-returns-in_err-receiver-in-Call
read_expr-returns-in_err-receiver-in-Call t c =
    let r = c.args.self.now in
    let at = c.args.at.now in
    let form = ap (expr_read r at) (ap expr_of c.in-Call.is ∙ expr_call c.in-Call.place c.in-Call.x c.in-Call.name c.in-Call.values) in
    let e : c.from_residual-in_err-receiver-in-Call.result ≡ Err c.in_err-receiver-in-Call.field-0.0 = handed_on c.from_residual-in_err-receiver-in-Call.result c.in_err-receiver-in-Call.field-0.0 c.from_residual-in_err-receiver-in-Call.ensures.1 in
    rw e (part_fails_first r.nodes.now _ _ _ form _ (fails_as _ _ (ap (λ x. expr_read r at (expr_of x)) (sym c.deref-in-Call.ensures)) _ c.in_err-receiver-in-Call.ensures))

pub read_expr-returns-in_ok-receiver-in-Call : goal.read_expr-returns-in_ok-receiver-in-Call
read_expr-returns-in_ok-receiver-in-Call t c =
    let r = c.args.self.now in
    let at = c.args.at.now in
    let form = ap (expr_read r at) (ap expr_of c.in-Call.is ∙ expr_call c.in-Call.place c.in-Call.x c.in-Call.name c.in-Call.values) in
    let first = ap (λ x. expr_read r at (expr_of x)) (sym c.deref-in-Call.ensures) ∙ c.in_ok-receiver-in-Call.ensures in
    behind_read r.nodes.now _ _ _ form c.in_ok-receiver-in-Call.receiver c.read_expr-in-Call.new.at _ c.read_arguments.result first c.read_arguments.ensures

pub read_arguments-returns-in_err-arguments : goal.read_arguments-returns-in_err-arguments
read_arguments-returns-in_err-arguments t c =
    let e : c.from_residual.result ≡ Err c.in_err-arguments.field-0.0 = handed_on c.from_residual.result c.in_err-arguments.field-0.0 c.from_residual.ensures.1 in
    rw e (parts_fail_first c.args.self.now.nodes.now _ _ _ refl _ c.in_err-arguments.ensures)

pub read_arguments-returns : goal.read_arguments-returns
read_arguments-returns t c =
    let r = c.args.self.now in
    let xs = c.args.values.now in
    let z = c.in_ok-arguments.arguments in
    let behind = c.read_values.new.at in
    let size : vec_len xs ≡ length xs.items = search rules in
    let count = ap (λ n. n + 1) (c.len.ensures ∙ size ∙ sym (values_counted xs.items)) in
    behind_parts r.nodes.now _ _ _ refl z behind _ c.call.result c.in_ok-arguments.ensures
    (subst (λ n. IsRead r.nodes.now (call_read r behind c.args.place c.args.name.now n c.args.receiver z) c.call.new.at c.call.result) count c.call.ensures)

pub read_expr-returns-in-New : goal.read_expr-returns-in-New
read_expr-returns-in-New t c =
    read_as _ _ c.read_new.result _ _ (ap (expr_read c.args.self.now c.args.at.now) (ap expr_of c.in-New.is ∙ expr_new c.in-New.place c.in-New.literal c.in-New.values)) c.read_new.ensures

pub read_new-returns-in_err-initialisers : goal.read_new-returns-in_err-initialisers
read_new-returns-in_err-initialisers t c =
    let e : c.from_residual.result ≡ Err c.in_err-initialisers.field-0.0 = handed_on c.from_residual.result c.in_err-initialisers.field-0.0 c.from_residual.ensures.1 in
    rw e (parts_fail_first c.args.self.now.nodes.now _ _ _ refl _ c.in_err-initialisers.ensures)

pub read_new-returns : goal.read_new-returns
read_new-returns t c =
    let r = c.args.self.now in
    let xs = c.args.values.now in
    let z = c.in_ok-initialisers.initialisers in
    let behind = c.read_values.new.at in
    let size : vec_len xs ≡ length xs.items = search rules in
    let count = c.len.ensures ∙ size ∙ sym (values_counted xs.items) in
    behind_parts r.nodes.now _ _ _ refl z behind _ c.new_object.result c.in_ok-initialisers.ensures
    (subst (λ n. IsRead r.nodes.now (new_read r behind c.args.place c.args.literal n z) c.new_object.new.at c.new_object.result) count c.new_object.ensures)

pub read_expr-returns-in-Ascribe : goal.read_expr-returns-in-Ascribe
read_expr-returns-in-Ascribe t c =
    let form = ap expr_of c.in-Ascribe.is ∙ ap (λ x. Ascribe c.in-Ascribe.place (value_of x) c.in-Ascribe.typ) (sym c.deref-in-Ascribe.ensures) in
    read_as _ _ c.read_ascription.result _ _ (ap (expr_read c.args.self.now c.args.at.now) form) c.read_ascription.ensures

pub read_ascription-returns-in_err-value : goal.read_ascription-returns-in_err-value
read_ascription-returns-in_err-value t c =
    let e : c.from_residual.result ≡ Err c.in_err-value.field-0.0 = handed_on c.from_residual.result c.in_err-value.field-0.0 c.from_residual.ensures.1 in
    rw e (part_fails_first c.args.self.now.nodes.now _ _ _ refl _ c.in_err-value.ensures)

pub read_ascription-returns : goal.read_ascription-returns
read_ascription-returns t c =
    behind_read c.args.self.now.nodes.now _ _ _ refl c.in_ok-value.value _ _ c.ascription.result c.in_ok-value.ensures c.ascription.ensures

pub read_expr-returns-in-Assign : goal.read_expr-returns-in-Assign
read_expr-returns-in-Assign t c =
    let form = ap expr_of c.in-Assign.is ∙ ap (λ x. Assign c.in-Assign.place c.in-Assign.binding (value_of x)) (sym c.deref-in-Assign.ensures) in
    read_as _ _ c.read_assignment.result _ _ (ap (expr_read c.args.self.now c.args.at.now) form) c.read_assignment.ensures

pub read_assignment-returns-in_err-value : goal.read_assignment-returns-in_err-value
read_assignment-returns-in_err-value t c =
    let e : c.from_residual.result ≡ Err c.in_err-value.field-0.0 = handed_on c.from_residual.result c.in_err-value.field-0.0 c.from_residual.ensures.1 in
    rw e (part_fails_first c.args.self.now.nodes.now _ _ _ refl _ c.in_err-value.ensures)

pub read_assignment-returns : goal.read_assignment-returns
read_assignment-returns t c =
    behind_read c.args.self.now.nodes.now _ _ _ refl c.in_ok-value.value _ _ c.assignment.result c.in_ok-value.ensures c.assignment.ensures

------------------------------------------------------------
-- Values

pub read_value-returns-in-Plain : goal.read_value-returns-in-Plain
read_value-returns-in-Plain t c =
    let r = c.args.self.now in
    let at = c.args.at.now in
    read_as _ _ c.read_expr.result _ _ (ap (λ x. value_read r at (value_of x)) c.in-Plain.is) c.read_expr.ensures

pub read_value-returns-in_err-test-in-If : goal.read_value-returns-in_err-test-in-If
read_value-returns-in_err-test-in-If t c =
    let r = c.args.self.now in
    let at = c.args.at.now in
    let form = ap (value_read r at) (ap value_of c.in-If.is ∙ value_if c.in-If.place c.in-If.condition c.in-If.first c.in-If.second) in
    let e : c.from_residual.result ≡ Err c.in_err-test-in-If.field-0.0 = handed_on c.from_residual.result c.in_err-test-in-If.field-0.0 c.from_residual.ensures.1 in
    rw e (part_fails_first r.nodes.now _ _ _ form _ (fails_as _ _ (ap (λ x. expr_read r at (expr_of x)) (sym c.deref.ensures)) _ c.in_err-test-in-If.ensures))

pub read_value-returns-in_err-first-in-If : goal.read_value-returns-in_err-first-in-If
read_value-returns-in_err-first-in-If t c =
    let r = c.args.self.now in
    let at = c.args.at.now in
    let form = ap (value_read r at) (ap value_of c.in-If.is ∙ value_if c.in-If.place c.in-If.condition c.in-If.first c.in-If.second) in
    let first = ap (λ x. expr_read r at (expr_of x)) (sym c.deref.ensures) ∙ c.in_ok-test-in-If.ensures in
    let middle = c.read_expr-in-If.new.at in
    let e : c.from_residual-in_err-first-in-If.result ≡ Err c.in_err-first-in-If.field-0.0 = handed_on c.from_residual-in_err-first-in-If.result c.in_err-first-in-If.field-0.0 c.from_residual-in_err-first-in-If.ensures.1 in
    rw e (later_fails r.nodes.now _ _ _ form c.in_ok-test-in-If.test middle first _ (then_fails r.nodes.now _ _ _ c.in_err-first-in-If.ensures))

pub read_value-returns-in_err-second-in-If : goal.read_value-returns-in_err-second-in-If
read_value-returns-in_err-second-in-If t c =
    let r = c.args.self.now in
    let at = c.args.at.now in
    let form = ap (value_read r at) (ap value_of c.in-If.is ∙ value_if c.in-If.place c.in-If.condition c.in-If.first c.in-If.second) in
    let first = ap (λ x. expr_read r at (expr_of x)) (sym c.deref.ensures) ∙ c.in_ok-test-in-If.ensures in
    let middle = c.read_expr-in-If.new.at in
    let e : c.from_residual-in_err-second-in-If.result ≡ Err c.in_err-second-in-If.field-0.0 = handed_on c.from_residual-in_err-second-in-If.result c.in_err-second-in-If.field-0.0 c.from_residual-in_err-second-in-If.ensures.1 in
    rw e (later_fails r.nodes.now _ _ _ form c.in_ok-test-in-If.test middle first _ (later_fails r.nodes.now _ _ _ refl c.in_ok-first-in-If.first c.read_block.new.at c.in_ok-first-in-If.ensures _ (then_fails r.nodes.now _ _ _ c.in_err-second-in-If.ensures)))

pub read_value-returns-in_ok-second-in-If : goal.read_value-returns-in_ok-second-in-If
read_value-returns-in_ok-second-in-If t c =
    let r = c.args.self.now in
    let at = c.args.at.now in
    let form = ap (value_read r at) (ap value_of c.in-If.is ∙ value_if c.in-If.place c.in-If.condition c.in-If.first c.in-If.second) in
    let first = ap (λ x. expr_read r at (expr_of x)) (sym c.deref.ensures) ∙ c.in_ok-test-in-If.ensures in
    let middle = c.read_expr-in-If.new.at in
    behind_read r.nodes.now _ _ _ form c.in_ok-test-in-If.test middle _ c.choice.result first
    (then_read r.nodes.now _ _ c.in_ok-first-in-If.first c.read_block.new.at _ c.choice.result c.in_ok-first-in-If.ensures
    (then_read r.nodes.now _ _ c.in_ok-second-in-If.second c.read_block-in-If.new.at _ c.choice.result c.in_ok-second-in-If.ensures c.choice.ensures))

pub read_values-loop-i-init : goal.read_values-loop-i-init
read_values-loop-i-init t c =
    let r = c.args.self.now in
    let at = c.args.at.now in
    let rest = values_read r at (values_of c.args.values.now.items) in
    before_none rest ∙ ap₂ (λ ts f. before ts f rest) (sym c.new.ensures) (sym c.empty.ensures)

pub read_values-returns-in_err-next : goal.read_values-returns-in_err-next
read_values-returns-in_err-next t c =
    let r = c.args.self.now in
    let at = c.args.at.now in
    let xs = c.args.values.now.items in
    let i = c.loop-i.i in
    let ts = c.loop-i.sofar.types in
    let f = c.loop-i.sofar.effect in
    let x : v.Value = c.index.result.now in
    let lt : i < length xs = search rules in
    let e : c.from_residual.result ≡ Err c.in_err-next.field-0.0 = handed_on c.from_residual.result c.in_err-next.field-0.0 c.from_residual.ensures.1 in
    rw e (first_weaker (λ j. value_read r c.loop-i.at (value_of x) ≡ part_fails j) (λ j. values_read r at (values_of xs) ≡ parts_fail j)
    (λ j g. c.loop-i.invariant ∙ value_fails r xs i x c.loop-i.at lt c.index.ensures ts f j g) c.in_err-next.field-0.0 c.in_err-next.ensures)

pub read_values-loop-i-preserved : goal.read_values-loop-i-preserved
read_values-loop-i-preserved t c =
    let r = c.args.self.now in
    let at = c.args.at.now in
    let xs = c.args.values.now.items in
    let i = c.loop-i.i in
    let ts = c.loop-i.sofar.types in
    let f = c.loop-i.sofar.effect in
    let x : v.Value = c.index.result.now in
    let lt : i < length xs = search rules in
    let z = c.in_ok-next.next in
    let new = c.read_value.new.at in
    let rest = values_read r new (values_of (drop (i + 1) xs)) in
    c.loop-i.invariant ∙ ap (before ts f) (value_stands r xs i x c.loop-i.at lt c.index.ensures z.typ z.effect new c.in_ok-next.ensures) ∙ before_more ts f z.typ z.effect c.is_set.ensures c.is_set-in-loop-i.ensures rest ∙
    ap (λ (u : Several). before u.types u.effect rest) (sym c.in_ok-sofar.ensures)

pub read_values-returns : goal.read_values-returns
read_values-returns t c =
    let r = c.args.self.now in
    let at = c.args.at.now in
    let xs = c.args.values.now.items in
    let i = c.loop-i.i in
    let ts = c.loop-i.sofar.types in
    let f = c.loop-i.sofar.effect in
    let le : length xs ≤ i = search rules in
    c.loop-i.invariant ∙ no_value r xs i ts f c.loop-i.at le c.is_set-2.ensures

------------------------------------------------------------
-- Blocks

pub read_statement-returns-in_err-value-in-Val : goal.read_statement-returns-in_err-value-in-Val
read_statement-returns-in_err-value-in-Val t c =
    let r = c.args.self.now in
    let at = c.args.at.now in
    let e : c.from_residual.result ≡ Err c.in_err-value-in-Val.field-0.0 = handed_on c.from_residual.result c.in_err-value-in-Val.field-0.0 c.from_residual.ensures.1 in
    rw e (subst (λ (s : Stmt). FailsFirst (λ i. (rest : Block) → block_read r at (stmt_block s rest) ≡ part_fails i) c.in_err-value-in-Val.field-0.0) (sym c.in-Val.is)
    (val_fails r c.in-Val.x at c.in_err-value-in-Val.field-0.0 c.in_err-value-in-Val.ensures c.in-Val.place c.in-Val.number c.in-Val.written))

pub read_statement-returns-in_ok-value-in-Val : goal.read_statement-returns-in_ok-value-in-Val
read_statement-returns-in_ok-value-in-Val t c =
    let r = c.args.self.now in
    let at = c.args.at.now in
    subst (λ (s : Stmt). IsStatement r at c.val.new.at s c.val.result) (sym c.in-Val.is)
    (val_statement r c.in-Val.x at c.read_value.new.at c.in_ok-value-in-Val.value c.in_ok-value-in-Val.ensures c.in-Val.place c.in-Val.number c.in-Val.written c.val.new.at c.val.result c.val.ensures)

pub read_statement-returns-in_err-value-in-Do : goal.read_statement-returns-in_err-value-in-Do
read_statement-returns-in_err-value-in-Do t c =
    let r = c.args.self.now in
    let at = c.args.at.now in
    let e : c.from_residual-in_err-value-in-Do.result ≡ Err c.in_err-value-in-Do.field-0.0 = handed_on c.from_residual-in_err-value-in-Do.result c.in_err-value-in-Do.field-0.0 c.from_residual-in_err-value-in-Do.ensures.1 in
    rw e (subst (λ (s : Stmt). FailsFirst (λ i. (rest : Block) → block_read r at (stmt_block s rest) ≡ part_fails i) c.in_err-value-in-Do.field-0.0) (sym c.in-Do.is)
    (do_fails r c.in-Do.x at c.in_err-value-in-Do.field-0.0 c.in_err-value-in-Do.ensures))

pub read_statement-returns-in_ok-value-in-Do : goal.read_statement-returns-in_ok-value-in-Do
read_statement-returns-in_ok-value-in-Do t c =
    let r = c.args.self.now in
    let at = c.args.at.now in
    let z = c.in_ok-value-in-Do.value in
    let waits : Truth → Place → Waiting = λ b q. record { holds = b; place = q; effect = z.effect } in
    let w = waits c.same.result c.mark.result in
    subst (λ (s : Stmt). IsStatement r at c.read_value-in-Do.new.at s (Ok w)) (sym c.in-Do.is)
    (do_stands r c.in-Do.x at c.read_value-in-Do.new.at z c.in_ok-value-in-Do.ensures w (ap₂ waits c.same.ensures c.mark.ensures))

pub read_statements-loop-i-init : goal.read_statements-loop-i-init
read_statements-loop-i-init t c =
    let r = c.args.self.now in
    let at = c.args.at.now in
    λ rest. ap (λ ws. closing r ws (block_read r at (stmts_block c.args.block.now.statements.items rest))) (sym c.new-waiting.ensures)

pub read_statements-returns-in_err-next : goal.read_statements-returns-in_err-next
read_statements-returns-in_err-next t c =
    let r = c.args.self.now in
    let at = c.args.at.now in
    let xs = c.args.block.now.statements.items in
    let i = c.loop-i.i in
    let ws = c.loop-i.waiting in
    let x : Stmt = c.index.result.now in
    let lt : i < length xs = search rules in
    let e : c.from_residual.result ≡ Err c.in_err-next.field-0.0 = handed_on c.from_residual.result c.in_err-next.field-0.0 c.from_residual.ensures.1 in
    rw e (first_weaker (λ j. (rest : Block) → block_read r c.loop-i.at (stmt_block x rest) ≡ part_fails j) (λ j. (rest : Block) → block_read r at (stmts_block xs rest) ≡ part_fails j)
    (λ j g rest. c.loop-i.invariant rest ∙ statement_fails r xs i x lt c.index.ensures c.loop-i.at ws j g rest) c.in_err-next.field-0.0 c.in_err-next.ensures)

pub read_statements-loop-i-preserved : goal.read_statements-loop-i-preserved
read_statements-loop-i-preserved t c =
    let r = c.args.self.now in
    let at = c.args.at.now in
    let xs = c.args.block.now.statements.items in
    let i = c.loop-i.i in
    let ws = c.loop-i.waiting in
    let x : Stmt = c.index.result.now in
    let lt : i < length xs = search rules in
    λ rest.
    c.loop-i.invariant rest ∙ statement_stands r xs i x lt c.index.ensures c.loop-i.at ws c.in_ok-next.next c.read_statement.new.at c.in_ok-next.ensures rest ∙
    ap (λ l. closing r l (block_read r c.read_statement.new.at (stmts_block (drop (i + 1) xs) rest))) (sym c.in_ok-push.ensures.ok)

pub read_statements-returns : goal.read_statements-returns
read_statements-returns t c =
    let r = c.args.self.now in
    let at = c.args.at.now in
    let xs = c.args.block.now.statements.items in
    let i = c.loop-i.i in
    let ws = c.loop-i.waiting in
    let le : length xs ≤ i = search rules in
    λ rest. c.loop-i.invariant rest ∙ no_statement r xs i le c.loop-i.at ws rest

pub read_block-returns-in_err-waiting : goal.read_block-returns-in_err-waiting
read_block-returns-in_err-waiting t c =
    let r = c.args.self.now in
    let at = c.args.at.now in
    let e : c.from_residual.result ≡ Err c.in_err-waiting.field-0.0 = handed_on c.from_residual.result c.in_err-waiting.field-0.0 c.from_residual.ensures.1 in
    rw e (first_weaker _ (λ i. block_read r at (block_of c.args.block.now) ≡ part_fails i) (λ i g. g (Last (value_of c.args.block.now.last.value))) c.in_err-waiting.field-0.0 c.in_err-waiting.ensures)

pub read_block-returns-in_err-last : goal.read_block-returns-in_err-last
read_block-returns-in_err-last t c =
    let r = c.args.self.now in
    let at = c.args.at.now in
    let last = Last (value_of c.args.block.now.last.value) in
    let middle = c.read_statements.new.at in
    let ws = c.in_ok-waiting.waiting in
    let there = ap (λ x. value_read r middle (value_of x)) (sym c.deref.ensures) in
    let e : c.from_residual-in_err-last.result ≡ Err c.in_err-last.field-0.0 = handed_on c.from_residual-in_err-last.result c.in_err-last.field-0.0 c.from_residual-in_err-last.ensures.1 in
    rw e (first_weaker _ (λ i. block_read r at (block_of c.args.block.now) ≡ part_fails i) (λ i g. c.in_ok-waiting.ensures last ∙ ap (closing r ws) (there ∙ g) ∙ closing_fails r ws i) c.in_err-last.field-0.0 c.in_err-last.ensures)

pub read_block-returns : goal.read_block-returns
read_block-returns t c =
    let r = c.args.self.now in
    let at = c.args.at.now in
    let last = Last (value_of c.args.block.now.last.value) in
    let middle = c.read_statements.new.at in
    let ws = c.in_ok-waiting.waiting in
    let there = ap (λ x. value_read r middle (value_of x)) (sym c.deref.ensures) ∙ c.in_ok-last.ensures in
    read_as _ _ c.close_all.result _ _ (c.in_ok-waiting.ensures last ∙ ap (closing r ws) there ∙ ap (λ l. closing r l (part_stands c.in_ok-last.last.typ c.in_ok-last.last.effect c.read_value.new.at (left r c.read_value.new.at))) (sym c.as_slice.ensures)) c.close_all.ensures
