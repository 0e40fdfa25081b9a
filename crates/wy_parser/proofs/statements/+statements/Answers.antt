use Rattle.std.proofs.Common.{◌||◌, ap, ◌+◌, ◌-◌, arith, sym, ◌∙◌, subst, map}
use Rattle.std.proofs.lemmas.Result.{err_from_is_err_and}
use Rattle.wy_syntax.specs.declared.statements.Stmt.{Stmt}
use Rattle.wy_syntax.specs.Tokens.{code, toks}
use Rattle.wy_syntax.specs.Views.{part_tree, stmt_tree}
use Rattle.wy_parser.specs.declared.stop.Stop.{Stop}
use Rattle.wy_syntax.specs.StmtGrammar.{is_val}
use Rattle.wy_parser.specs.Reading.{blocks, starts}
use Rattle.wy_parser.specs.Parsing.{each, snoc}
use Rattle.wy_parser.specs.StmtParsing.{stmt_first, part_first, part_at, stmt_at}
use Rattle.wy_parser.specs.Sorts.{Halts}
use Rattle.wy_parser.proofs.Turns.{part_turn, part_halts, fold_ends, gives_err, pushed}
use Rattle.wy_parser.proofs.Rows.{row_turn, row_ends, row_halts}
use Rattle.wy_parser.proofs.statements.+statements.Goals as goal

pub parts-loop-preserved : goal.parts-loop-preserved
parts-loop-preserved t c = part_turn (c.args.inner - c.loop.counter) (c.args.inner - (c.loop.counter + 1)) part_first (part_at c.args.plain c.args.inner) snoc (map part_tree c.loop.items.items) (map part_tree c.push.new.self.items) (part_tree c.in_ok-item.item.value) (toks c.loop.rest.now) (toks c.in_ok-item.after.now) _ (omega arith) (sym c.begins.ensures ∙ c.if-not-begins.false) c.in_ok-item.ensures (pushed part_tree c.loop.items.items c.push.new.self.items c.into_inner.result c.in_ok-item.item.value c.in_ok-push.ensures.items c.into_inner.ensures) c.loop.invariant

pub parts-returns-then-not-begins : goal.parts-returns-then-not-begins
parts-returns-then-not-begins t c = sym c.loop.invariant ∙ fold_ends (c.args.inner - c.loop.counter) part_first (part_at c.args.plain c.args.inner) snoc (map part_tree c.loop.items.items) (toks c.loop.rest.now) (omega arith) (sym c.begins.ensures ∙ c.if-not-begins.true)

pub parts-returns-in_err-item : goal.parts-returns-in_err-item
parts-returns-in_err-item t c =
    let p = err_from_is_err_and c.from_residual.result c.from_residual.ensures.1 in
    let h = part_halts (c.args.inner - c.loop.counter) part_first (part_at c.args.plain c.args.inner) snoc (map part_tree c.loop.items.items) (toks c.loop.rest.now) _ c.in_err-item.field-0.0 (omega arith) (sym c.begins.ensures ∙ c.if-not-begins.false) c.in_err-item.ensures c.loop.invariant in
    gives_err (λ v. map part_tree v.items) c.from_residual.result p.0 _ p.1 (subst (λ (e : Stop). Halts e (each part_first (part_at c.args.plain c.args.inner) c.args.inner (toks c.args.tokens.now))) (sym p.2) h)

pub stmts-loop-preserved : goal.stmts-loop-preserved
stmts-loop-preserved t c = row_turn (c.args.inner - c.loop.counter) (c.args.inner - (c.loop.counter + 1)) stmt_first is_val (stmt_at c.args.plain c.args.inner) (map stmt_tree c.loop.items.items) (map stmt_tree c.push.new.self.items) (stmt_tree c.in_ok-item.item.value) (toks c.loop.rest.now) (toks c.in_ok-item.after.now) _ (omega arith) c.in_ok-item.ensures (ap (λ (s : Stmt). is_val (stmt_tree s) || starts code stmt_first (toks c.in_ok-item.after.now)) (sym c.deref.ensures) ∙ sym c.must_go_on-goes_on.ensures ∙ c.if-not-goes_on.false) (pushed stmt_tree c.loop.items.items c.push.new.self.items c.into_inner.result c.in_ok-item.item.value c.in_ok-push.ensures.items c.into_inner.ensures) c.loop.invariant

pub stmts-returns-then-not-goes_on : goal.stmts-returns-then-not-goes_on
stmts-returns-then-not-goes_on t c = row_ends (c.args.inner - c.loop.counter) stmt_first is_val (stmt_at c.args.plain c.args.inner) (map stmt_tree c.loop.items.items) (map stmt_tree c.push.new.self.items) (stmt_tree c.in_ok-item.item.value) (toks c.loop.rest.now) (toks c.in_ok-item.after.now) _ (omega arith) c.in_ok-item.ensures (ap (λ (s : Stmt). is_val (stmt_tree s) || starts code stmt_first (toks c.in_ok-item.after.now)) (sym c.deref.ensures) ∙ sym c.must_go_on-goes_on.ensures ∙ c.if-not-goes_on.true) (pushed stmt_tree c.loop.items.items c.push.new.self.items c.into_inner.result c.in_ok-item.item.value c.in_ok-push.ensures.items c.into_inner.ensures) c.loop.invariant

pub stmts-returns-in_err-item : goal.stmts-returns-in_err-item
stmts-returns-in_err-item t c =
    let p = err_from_is_err_and c.from_residual.result c.from_residual.ensures.1 in
    let h = row_halts (c.args.inner - c.loop.counter) stmt_first is_val (stmt_at c.args.plain c.args.inner) (map stmt_tree c.loop.items.items) (toks c.loop.rest.now) _ c.in_err-item.field-0.0 (omega arith) c.in_err-item.ensures c.loop.invariant in
    gives_err (λ v. map stmt_tree v.items) c.from_residual.result p.0 _ p.1 (subst (λ (e : Stop). Halts e (blocks code c.args.inner stmt_first is_val (stmt_at c.args.plain c.args.inner) (toks c.args.tokens.now))) (sym p.2) h)
