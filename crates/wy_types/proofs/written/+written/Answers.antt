use Rattle.std.proofs.Common.{◌≡◌, List, [], ◌∷◌, ◌++◌, ◌+◌, drop, sym, ap, ◌∙◌, refl, subst, append_assoc}
use Rattle.std.proofs.lemmas.List.{at_drop_more, at_drop_all}
use Rattle.std.specs.Prelude.{OnOk}
use Rattle.wy_types.specs.declared.types.TypeRef.{TypeRef}
use Rattle.wy_types.specs.declared.code.Stmt as s
use Rattle.wy_types.specs.Code.{Block, Last}
use Rattle.wy_types.specs.View.{expr_of, value_of, values_of, block_of, stmt_block, stmts_block}
use Rattle.wy_types.specs.Written.{expr_types, value_types, values_types, block_types, stmt_types, written_types}
use Rattle.wy_types.proofs.Rows.{expr_text_call, expr_call, expr_new, value_if}
use Rattle.wy_types.proofs.written.+written.Goals as goal

pub add_expr-returns-in-TextCall : goal.add_expr-returns-in-TextCall
add_expr-returns-in-TextCall t c =
    let P : List TypeRef → Type 0 = λ l. OnOk c.add_values.result (c.add_values.new.out ≡ c.args.out.now ++ l) in
    subst P (ap expr_types (sym (expr_text_call c.in-TextCall._place c.in-TextCall._operator c.in-TextCall.values) ∙ ap expr_of (sym c.in-TextCall.is))) c.add_values.ensures

pub add_expr-returns-in-New : goal.add_expr-returns-in-New
add_expr-returns-in-New t c =
    let P : List TypeRef → Type 0 = λ l. OnOk c.add_values-in-New.result (c.add_values-in-New.new.out ≡ c.args.out.now ++ l) in
    subst P (ap expr_types (sym (expr_new c.in-New._place c.in-New._literal c.in-New.values) ∙ ap expr_of (sym c.in-New.is))) c.add_values-in-New.ensures

pub add_expr-returns-in_ok-add_expr-in-Call : goal.add_expr-returns-in_ok-add_expr-in-Call
add_expr-returns-in_ok-add_expr-in-Call t c =
    let P : List TypeRef → Type 0 = λ l. OnOk c.add_values-in-Call.result (c.add_values-in-Call.new.out ≡ l) in
    let rest : List TypeRef = values_types (values_of c.in-Call.values.items) in
    subst P
    (ap (λ l. l ++ rest) (c.in_ok-add_expr-in-Call.ensures ∙ ap (λ x. c.args.out.now ++ expr_types (expr_of x)) c.deref-in-Call.ensures) ∙
    append_assoc c.args.out.now (expr_types (expr_of c.in-Call.receiver.value)) rest ∙
    ap (λ x. c.args.out.now ++ expr_types x) (sym (expr_call c.in-Call._place c.in-Call.receiver c.in-Call._method c.in-Call.values) ∙ ap expr_of (sym c.in-Call.is)))
    c.add_values-in-Call.ensures

pub add_value-returns-in_ok-add_block-in-If : goal.add_value-returns-in_ok-add_block-in-If
add_value-returns-in_ok-add_block-in-If t c =
    let P : List TypeRef → Type 0 = λ l. OnOk c.add_block-in-If.result (c.add_block-in-If.new.out ≡ l) in
    let test : List TypeRef = expr_types (expr_of c.in-If.test.value) in
    let first : List TypeRef = block_types (block_of c.in-If.first) in
    let second : List TypeRef = block_types (block_of c.in-If.second) in
    subst P
    (ap (λ l. l ++ second)
    (c.in_ok-add_block-in-If.ensures ∙ ap (λ l. l ++ first) (c.in_ok-add_expr-in-If.ensures ∙ ap (λ x. c.args.out.now ++ expr_types (expr_of x)) c.deref.ensures)) ∙
    append_assoc (c.args.out.now ++ test) first second ∙ append_assoc c.args.out.now test (first ++ second) ∙
    ap (λ x. c.args.out.now ++ value_types x) (sym (value_if c.in-If._place c.in-If.test c.in-If.first c.in-If.second) ∙ ap value_of (sym c.in-If.is)))
    c.add_block-in-If.ensures

pub add_values-loop-value-preserved : goal.add_values-loop-value-preserved
add_values-loop-value-preserved t c =
    let items = c.deref-value-items.result.now in
    let later = drop (c.loop-value.value-index + 1) items in
    let rest : List TypeRef = values_types (values_of later) in
    let types : List TypeRef = value_types (value_of c.value-item.result) in
    ap (λ (l : List TypeRef). l ++ rest) c.in_ok-add_value.ensures ∙ append_assoc c.loop-value.out types rest ∙
    ap (λ (l : List TypeRef). c.loop-value.out ++ l)
    (sym (at_drop_more (λ vs. values_types (values_of vs)) items c.loop-value.value-index c.value-item.result c.loop-value-test.true ∙
    ap (λ x. values_types (values_of (x ∷ later))) (sym c.value-item.is))) ∙
    c.loop-value.invariant

stmt_more : (x : s.Stmt) (rest : Block) → block_types (stmt_block x rest) ≡ stmt_types x ++ block_types rest
stmt_more (s.Val place number typ x) rest = sym (append_assoc (written_types typ) (value_types (value_of x)) (block_types rest))
stmt_more (s.Do x) rest = refl

pub add_block-loop-statement-preserved : goal.add_block-loop-statement-preserved
add_block-loop-statement-preserved t c =
    let items = c.deref-statement-items.result.now in
    let x = c.statement-item.result in
    let later = drop (c.loop-statement.statement-index + 1) items in
    let types_of : List s.Stmt → List TypeRef = λ xs. block_types (stmts_block xs (Last (value_of c.args.block.now.last.value))) in
    ap (λ (l : List TypeRef). l ++ types_of later) c.in_ok-add_statement.ensures ∙ append_assoc c.loop-statement.out (stmt_types x) (types_of later) ∙
    ap (λ (l : List TypeRef). c.loop-statement.out ++ l)
    (sym (at_drop_more types_of items c.loop-statement.statement-index x c.loop-statement-test.true ∙ ap (λ y. types_of (y ∷ later)) (sym c.statement-item.is) ∙
    stmt_more x (stmts_block later (Last (value_of c.args.block.now.last.value))))) ∙
    c.loop-statement.invariant

pub add_block-returns : goal.add_block-returns
add_block-returns t c =
    let P : List TypeRef → Type 0 = λ l. OnOk c.add_value.result (c.add_value.new.out ≡ l) in
    let types_of : List s.Stmt → List TypeRef = λ xs. block_types (stmts_block xs (Last (value_of c.args.block.now.last.value))) in
    subst P
    (ap (λ x. c.loop-statement.out ++ value_types (value_of x)) c.deref.ensures ∙
    ap (λ l. c.loop-statement.out ++ l) (sym (at_drop_all types_of c.deref-statement-items.result.now c.loop-statement.statement-index c.loop-statement-test.false)) ∙
    c.loop-statement.invariant ∙ ap (λ l. c.args.out.now ++ types_of l) c.deref-statement-items.ensures.value)
    c.add_value.ensures

pub add_expr-returns-in_ok-add_expr-in-Binary : goal.add_expr-returns-in_ok-add_expr-in-Binary
add_expr-returns-in_ok-add_expr-in-Binary t c =
    let P : List TypeRef → Type 0 = λ l. OnOk c.add_expr-in-Binary-2.result (c.add_expr-in-Binary-2.new.out ≡ l) in
    let left : List TypeRef = expr_types (expr_of c.in-Binary.left.value) in
    let right : List TypeRef = expr_types (expr_of c.in-Binary.right.value) in
    subst P
    (ap (λ x. c.add_expr-in-Binary.new.out ++ expr_types (expr_of x)) c.deref-in-Binary-2.ensures ∙
    ap (λ l. l ++ right) (c.in_ok-add_expr-in-Binary.ensures ∙ ap (λ x. c.args.out.now ++ expr_types (expr_of x)) c.deref-in-Binary.ensures) ∙
    append_assoc c.args.out.now left right ∙ ap (λ x. c.args.out.now ++ expr_types (expr_of x)) (sym c.in-Binary.is))
    c.add_expr-in-Binary-2.ensures

pub add_expr-returns-in_ok-add_value-in-Ascribe : goal.add_expr-returns-in_ok-add_value-in-Ascribe
add_expr-returns-in_ok-add_value-in-Ascribe t c =
    let P : List TypeRef → Type 0 = λ l. OnOk c.add_copy.result (c.add_copy.new.out ≡ l) in
    subst P
    (ap (λ l. l ++ c.in-Ascribe.t ∷ []) (c.in_ok-add_value-in-Ascribe.ensures ∙ ap (λ x. c.args.out.now ++ value_types (value_of x)) c.deref-in-Ascribe.ensures) ∙
    append_assoc c.args.out.now (value_types (value_of c.in-Ascribe.value.value)) (c.in-Ascribe.t ∷ []) ∙
    ap (λ x. c.args.out.now ++ expr_types (expr_of x)) (sym c.in-Ascribe.is))
    c.add_copy.ensures
