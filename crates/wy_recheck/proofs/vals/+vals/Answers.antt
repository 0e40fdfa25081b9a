use Rattle.std.proofs.Common.{◌≡◌, ◌+◌, ◌<◌, ◌≤◌, ◌++◌, ◌∷◌, [], length, drop, sym, ap, ◌∙◌, subst, arith, rules, Some, None}
use Rattle.wy_types.specs.declared.code.Value as v
use Rattle.wy_types.specs.declared.code.Stmt.{Stmt}
use Rattle.wy_types.specs.Code.{Last}
use Rattle.wy_types.specs.View.{expr_of, value_of, values_of, block_of, stmts_block}
use Rattle.wy_types.specs.Vals.{expr_vals, value_vals, values_vals, block_vals}
use Rattle.wy_types.proofs.Rows.{expr_text_call, expr_call, expr_new, value_if}
use Rattle.wy_recheck.specs.Vals.{statement_vals}
use Rattle.wy_recheck.proofs.ValsTaken.{taken_both, too_many, taken_as, Goes, goes_more, goes_short, goes_end, next_values, no_values, next_statements, no_statements}
use Rattle.wy_recheck.proofs.vals.+vals.Goals as goal

pub take_expr-returns-in_err-rest-in-Binary : goal.take_expr-returns-in_err-rest-in-Binary
take_expr-returns-in_err-rest-in-Binary t c =
    let n = c.args.number in
    let xs = expr_vals (expr_of c.in-Binary.left.value) in
    let ys = expr_vals (expr_of c.in-Binary.right.value) in
    let form = ap (λ x. expr_vals (expr_of x)) c.in-Binary.is in
    let left = ap (λ x. expr_vals (expr_of x)) (sym c.deref-in-Binary.ensures) in
    let e : c.from_residual.result ≡ None = search rules in
    rw e (taken_as n (xs ++ ys) _ None form (too_many n xs ys (taken_as n _ xs None left c.in_err-rest-in-Binary.ensures)))

pub take_expr-returns-in_ok-rest-in-Binary : goal.take_expr-returns-in_ok-rest-in-Binary
take_expr-returns-in_ok-rest-in-Binary t c =
    let n = c.args.number in
    let xs = expr_vals (expr_of c.in-Binary.left.value) in
    let ys = expr_vals (expr_of c.in-Binary.right.value) in
    let form = ap (λ x. expr_vals (expr_of x)) c.in-Binary.is in
    let left = ap (λ x. expr_vals (expr_of x)) (sym c.deref-in-Binary.ensures) in
    let right = ap (λ x. expr_vals (expr_of x)) (sym c.deref-in-Binary-2.ensures) in
    let m = c.in_ok-rest-in-Binary.rest in
    let o = c.take_expr-in-Binary-2.result in
    taken_as n (xs ++ ys) _ o form (taken_both n m xs ys o (taken_as n _ xs (Some m) left c.in_ok-rest-in-Binary.ensures) (taken_as m _ ys o right c.take_expr-in-Binary-2.ensures))

pub take_expr-returns-in-TextCall : goal.take_expr-returns-in-TextCall
take_expr-returns-in-TextCall t c =
    taken_as c.args.number _ _ c.take_values.result (ap expr_vals (ap expr_of c.in-TextCall.is ∙ expr_text_call c.in-TextCall._place c.in-TextCall._operator c.in-TextCall.values)) c.take_values.ensures

pub take_expr-returns-in-New : goal.take_expr-returns-in-New
take_expr-returns-in-New t c =
    taken_as c.args.number _ _ c.take_values-in-New.result (ap expr_vals (ap expr_of c.in-New.is ∙ expr_new c.in-New._place c.in-New._literal c.in-New.values)) c.take_values-in-New.ensures

pub take_expr-returns-in_err-rest-in-Call : goal.take_expr-returns-in_err-rest-in-Call
take_expr-returns-in_err-rest-in-Call t c =
    let n = c.args.number in
    let xs = expr_vals (expr_of c.in-Call.receiver.value) in
    let ys = values_vals (values_of c.in-Call.values.items) in
    let form = ap expr_vals (ap expr_of c.in-Call.is ∙ expr_call c.in-Call._place c.in-Call.receiver c.in-Call._method c.in-Call.values) in
    let left = ap (λ x. expr_vals (expr_of x)) (sym c.deref-in-Call.ensures) in
    let e : c.from_residual-in_err-rest-in-Call.result ≡ None = search rules in
    rw e (taken_as n (xs ++ ys) _ None form (too_many n xs ys (taken_as n _ xs None left c.in_err-rest-in-Call.ensures)))

pub take_expr-returns-in_ok-rest-in-Call : goal.take_expr-returns-in_ok-rest-in-Call
take_expr-returns-in_ok-rest-in-Call t c =
    let n = c.args.number in
    let xs = expr_vals (expr_of c.in-Call.receiver.value) in
    let ys = values_vals (values_of c.in-Call.values.items) in
    let form = ap expr_vals (ap expr_of c.in-Call.is ∙ expr_call c.in-Call._place c.in-Call.receiver c.in-Call._method c.in-Call.values) in
    let left = ap (λ x. expr_vals (expr_of x)) (sym c.deref-in-Call.ensures) in
    let m = c.in_ok-rest-in-Call.rest in
    let o = c.take_values-in-Call.result in
    taken_as n (xs ++ ys) _ o form (taken_both n m xs ys o (taken_as n _ xs (Some m) left c.in_ok-rest-in-Call.ensures) c.take_values-in-Call.ensures)

pub take_value-returns-in_err-rest-in-If : goal.take_value-returns-in_err-rest-in-If
take_value-returns-in_err-rest-in-If t c =
    let n = c.args.number in
    let xs = expr_vals (expr_of c.in-If.test.value) in
    let ys = block_vals (block_of c.in-If.first) in
    let zs = block_vals (block_of c.in-If.second) in
    let form = ap value_vals (ap value_of c.in-If.is ∙ value_if c.in-If._place c.in-If.test c.in-If.first c.in-If.second) in
    let left = ap (λ x. expr_vals (expr_of x)) (sym c.deref.ensures) in
    let e : c.from_residual.result ≡ None = search rules in
    rw e (taken_as n (xs ++ (ys ++ zs)) _ None form (too_many n xs (ys ++ zs) (taken_as n _ xs None left c.in_err-rest-in-If.ensures)))

pub take_value-returns-in_err-rest-in-If-2 : goal.take_value-returns-in_err-rest-in-If-2
take_value-returns-in_err-rest-in-If-2 t c =
    let n = c.args.number in
    let xs = expr_vals (expr_of c.in-If.test.value) in
    let ys = block_vals (block_of c.in-If.first) in
    let zs = block_vals (block_of c.in-If.second) in
    let form = ap value_vals (ap value_of c.in-If.is ∙ value_if c.in-If._place c.in-If.test c.in-If.first c.in-If.second) in
    let left = ap (λ x. expr_vals (expr_of x)) (sym c.deref.ensures) in
    let m = c.in_ok-rest-in-If.rest in
    let e : c.from_residual-in_err-rest-in-If-2.result ≡ None = search rules in
    rw e (taken_as n (xs ++ (ys ++ zs)) _ None form (taken_both n m xs (ys ++ zs) None (taken_as n _ xs (Some m) left c.in_ok-rest-in-If.ensures) (too_many m ys zs c.in_err-rest-in-If-2.ensures)))

pub take_value-returns-in_ok-rest-in-If-2 : goal.take_value-returns-in_ok-rest-in-If-2
take_value-returns-in_ok-rest-in-If-2 t c =
    let n = c.args.number in
    let xs = expr_vals (expr_of c.in-If.test.value) in
    let ys = block_vals (block_of c.in-If.first) in
    let zs = block_vals (block_of c.in-If.second) in
    let form = ap value_vals (ap value_of c.in-If.is ∙ value_if c.in-If._place c.in-If.test c.in-If.first c.in-If.second) in
    let left = ap (λ x. expr_vals (expr_of x)) (sym c.deref.ensures) in
    let m = c.in_ok-rest-in-If.rest in
    let k = c.in_ok-rest-in-If-2.rest in
    let o = c.take_block-in-If.result in
    taken_as n (xs ++ (ys ++ zs)) _ o form (taken_both n m xs (ys ++ zs) o (taken_as n _ xs (Some m) left c.in_ok-rest-in-If.ensures) (taken_both m k ys zs o c.in_ok-rest-in-If-2.ensures c.take_block-in-If.ensures))

pub take_values-returns-in_err-rest : goal.take_values-returns-in_err-rest
take_values-returns-in_err-rest t c =
    let n = c.args.number in
    let xs = c.args.values.now.items in
    let i = c.loop-i.i in
    let m = c.loop-i.rest in
    let all = values_vals (values_of xs) in
    let x : v.Value = c.index.result.now in
    let lt : i < length xs = search rules in
    let rest = values_vals (values_of (drop (i + 1) xs)) in
    let next = subst (λ l. Goes n all m l) (next_values xs i x lt c.index.ensures) c.loop-i.invariant in
    let e : c.from_residual.result ≡ None = search rules in
    rw e (goes_short n m all (value_vals (value_of x)) rest next c.in_err-rest.ensures)

pub take_values-loop-i-preserved : goal.take_values-loop-i-preserved
take_values-loop-i-preserved t c =
    let n = c.args.number in
    let xs = c.args.values.now.items in
    let i = c.loop-i.i in
    let m = c.loop-i.rest in
    let all = values_vals (values_of xs) in
    let x : v.Value = c.index.result.now in
    let lt : i < length xs = search rules in
    let rest = values_vals (values_of (drop (i + 1) xs)) in
    let next = subst (λ l. Goes n all m l) (next_values xs i x lt c.index.ensures) c.loop-i.invariant in
    goes_more n m c.in_ok-rest.rest all (value_vals (value_of x)) rest next c.in_ok-rest.ensures

pub take_values-returns : goal.take_values-returns
take_values-returns t c =
    let n = c.args.number in
    let xs = c.args.values.now.items in
    let i = c.loop-i.i in
    let m = c.loop-i.rest in
    let all = values_vals (values_of xs) in
    let le : length xs ≤ i = search rules in
    let none : m + 0 ≡ m = omega arith in
    goes_end n m all [] (Some m) (subst (λ l. Goes n all m l) (no_values xs i le) c.loop-i.invariant) none

pub take_block-returns-in_err-rest : goal.take_block-returns-in_err-rest
take_block-returns-in_err-rest t c =
    let n = c.args.number in
    let xs = c.args.block.now.statements.items in
    let last = Last (value_of c.args.block.now.last.value) in
    let i = c.loop-i.i in
    let m = c.loop-i.rest in
    let all = block_vals (stmts_block xs last) in
    let x : Stmt = c.index.result.now in
    let lt : i < length xs = search rules in
    let rest = block_vals (stmts_block (drop (i + 1) xs) last) in
    let next = subst (λ l. Goes n all m l) (next_statements xs i x lt c.index.ensures last) c.loop-i.invariant in
    let e : c.from_residual.result ≡ None = search rules in
    rw e (goes_short n m all (statement_vals x) rest next c.in_err-rest.ensures)

pub take_block-loop-i-preserved : goal.take_block-loop-i-preserved
take_block-loop-i-preserved t c =
    let n = c.args.number in
    let xs = c.args.block.now.statements.items in
    let last = Last (value_of c.args.block.now.last.value) in
    let i = c.loop-i.i in
    let m = c.loop-i.rest in
    let all = block_vals (stmts_block xs last) in
    let x : Stmt = c.index.result.now in
    let lt : i < length xs = search rules in
    let rest = block_vals (stmts_block (drop (i + 1) xs) last) in
    let next = subst (λ l. Goes n all m l) (next_statements xs i x lt c.index.ensures last) c.loop-i.invariant in
    goes_more n m c.in_ok-rest.rest all (statement_vals x) rest next c.in_ok-rest.ensures

pub take_block-returns : goal.take_block-returns
take_block-returns t c =
    let n = c.args.number in
    let xs = c.args.block.now.statements.items in
    let last = Last (value_of c.args.block.now.last.value) in
    let i = c.loop-i.i in
    let m = c.loop-i.rest in
    let all = block_vals (stmts_block xs last) in
    let le : length xs ≤ i = search rules in
    let o = c.take_value.result in
    let there = ap (λ x. value_vals (value_of x)) (sym c.deref.ensures) in
    goes_end n m all (block_vals last) o (subst (λ l. Goes n all m l) (no_statements xs i le last) c.loop-i.invariant) (taken_as m _ (block_vals last) o there c.take_value.ensures)

pub take_statement-returns-in_ok-rest-in-Val : goal.take_statement-returns-in_ok-rest-in-Val
take_statement-returns-in_ok-rest-in-Val t c =
    let n = c.args.number in
    let m = c.in_ok-rest-in-Val.rest in
    let o = c.take_value.result in
    let one = c.in-Val._number ∷ [] in
    let xs = value_vals (value_of c.in-Val.value) in
    taken_as n (one ++ xs) _ o (ap statement_vals c.in-Val.is) (taken_both n m one xs o (c.in_ok-rest-in-Val.ensures c.in-Val._number) c.take_value.ensures)

pub take_statement-returns-in_err-rest-in-Val : goal.take_statement-returns-in_err-rest-in-Val
take_statement-returns-in_err-rest-in-Val t c =
    let n = c.args.number in
    let one = c.in-Val._number ∷ [] in
    let xs = value_vals (value_of c.in-Val.value) in
    let e : c.from_residual.result ≡ None = search rules in
    rw e (taken_as n (one ++ xs) _ None (ap statement_vals c.in-Val.is) (too_many n one xs (c.in_err-rest-in-Val.ensures c.in-Val._number)))
