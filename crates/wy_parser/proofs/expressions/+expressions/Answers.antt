use Rattle.std.proofs.Common.{◌≡◌, ℕ, List, true, false, ◌+◌, ◌-◌, [], ◌∷◌, arith, sym, ◌∙◌, subst, map}
use Rattle.std.proofs.lemmas.Result.{err_from_is_err_and}
use Rattle.wy_syntax.specs.Tokens.{code, tok_of, toks}
use Rattle.wy_syntax.specs.Views.{expr_tree}
use Rattle.wy_parser.specs.declared.stop.Stop.{Stop}
use Rattle.wy_parser.specs.Reading.{Yes, starts, one_of}
use Rattle.wy_parser.specs.Parsing.{commas, comma_part, snoc}
use Rattle.wy_parser.specs.ExprParsing.{arg_first, operator_part, add_binary, call_part, add_call, post, symbols_of, operand_at, level_at, p_arg}
use Rattle.wy_parser.specs.Sorts.{Halts}
use Rattle.wy_parser.proofs.Turns.{level_turn, part_turn, part_halts, symbol_halts, right_halts, fold_ends, gives_err, pushed}
use Rattle.wy_parser.proofs.expressions.+expressions.Goals as goal

pub operation-loop-preserved : goal.operation-loop-preserved
operation-loop-preserved t c =
    let read = subst (λ (G : List ℕ). one_of code G (toks c.loop.rest.now) ≡ Yes (tok_of c.in_ok-symbol.symbol.now) (toks c.in_ok-symbol.after.now)) c.symbols-symbols.ensures c.in_ok-symbol.ensures in
    level_turn (c.args.inner - c.loop.counter) (c.args.inner - (c.loop.counter + 1)) (symbols_of c.args.level) (operand_at c.args.plain c.args.inner c.args.level) (expr_tree c.loop.left.value) (expr_tree c.in_ok-right.right.value) (expr_tree c.in_ok-left-2.left.value) (tok_of c.in_ok-symbol.symbol.now) (toks c.loop.rest.now) (toks c.in_ok-symbol.after.now) (toks c.in_ok-right.after.now) _ (omega arith) read c.in_ok-right.ensures c.in_ok-left-2.ensures c.loop.invariant

pub postfix-loop-preserved : goal.postfix-loop-preserved
postfix-loop-preserved t c = part_turn (c.args.inner - c.loop.counter) (c.args.inner - (c.loop.counter + 1)) (46 ∷ []) (call_part (p_arg c.args.plain c.args.inner) c.args.inner) add_call (expr_tree c.loop.e.value) _ (c.in_ok-name.name, map expr_tree c.in_ok-name.arguments.items) (toks c.loop.rest.now) (toks c.in_ok-name.after.now) _ (omega arith) (sym c.begins.ensures ∙ c.if-not-begins.false) c.in_ok-name.ensures c.in_ok-e-2.ensures c.loop.invariant

pub arguments-loop-preserved : goal.arguments-loop-preserved
arguments-loop-preserved t c = part_turn (c.args.inner - c.loop.counter) (c.args.inner - (c.loop.counter + 1)) (44 ∷ []) (comma_part (p_arg c.args.plain c.args.inner)) snoc (map expr_tree c.loop.items.items) (map expr_tree c.push-in-loop.new.self.items) (expr_tree c.in_ok-item.item.value) (toks c.loop.rest.now) (toks c.in_ok-item.after.now) _ (omega arith) (sym c.begins-in-loop.ensures ∙ c.if-not-begins-2.false) c.in_ok-item.ensures (pushed expr_tree c.loop.items.items c.push-in-loop.new.self.items c.into_inner-in-loop.result c.in_ok-item.item.value c.in_ok-push-2.ensures.items c.into_inner-in-loop.ensures) c.loop.invariant

pub arguments-returns-then-not-begins-2 : goal.arguments-returns-then-not-begins-2
arguments-returns-then-not-begins-2 t c = sym c.loop.invariant ∙ fold_ends (c.args.inner - c.loop.counter) (44 ∷ []) (comma_part (p_arg c.args.plain c.args.inner)) snoc (map expr_tree c.loop.items.items) (toks c.loop.rest.now) (omega arith) (sym c.begins-in-loop.ensures ∙ c.if-not-begins-2.true)

pub arguments-returns-in_err-item : goal.arguments-returns-in_err-item
arguments-returns-in_err-item t c =
    let p = err_from_is_err_and c.from_residual-in_err-item.result c.from_residual-in_err-item.ensures.1 in
    let h = part_halts (c.args.inner - c.loop.counter) (44 ∷ []) (comma_part (p_arg c.args.plain c.args.inner)) snoc (map expr_tree c.loop.items.items) (toks c.loop.rest.now) _ c.in_err-item.field-0.0 (omega arith) (sym c.begins-in-loop.ensures ∙ c.if-not-begins-2.false) c.in_err-item.ensures c.loop.invariant in
    gives_err (λ v. map expr_tree v.items) c.from_residual-in_err-item.result p.0 _ p.1 (subst (λ (e : Stop). Halts e (commas arg_first (p_arg c.args.plain c.args.inner) c.args.inner (toks c.args.tokens.now))) (sym p.2) h)

pub operation-returns-then-not-begins : goal.operation-returns-then-not-begins
operation-returns-then-not-begins t c =
    let symbols = symbols_of c.args.level in
    let ends = subst (λ (G : List ℕ). starts code G (toks c.loop.rest.now) ≡ false) c.symbols-symbols.ensures (sym c.begins.ensures ∙ c.if-not-begins.true) in
    sym c.loop.invariant ∙ fold_ends (c.args.inner - c.loop.counter) symbols (operator_part symbols (operand_at c.args.plain c.args.inner c.args.level)) add_binary (expr_tree c.loop.left.value) (toks c.loop.rest.now) (omega arith) ends

pub operation-returns-in_err-symbol : goal.operation-returns-in_err-symbol
operation-returns-in_err-symbol t c =
    let symbols = symbols_of c.args.level in
    let next = operand_at c.args.plain c.args.inner c.args.level in
    let goes = subst (λ (G : List ℕ). starts code G (toks c.loop.rest.now) ≡ true) c.symbols-symbols.ensures (sym c.begins.ensures ∙ c.if-not-begins.false) in
    let stop = subst (λ (G : List ℕ). Halts c.in_err-symbol.field-0.0 (one_of code G (toks c.loop.rest.now))) c.symbols-symbols.ensures c.in_err-symbol.ensures in
    let p = err_from_is_err_and c.from_residual-in_err-symbol.result c.from_residual-in_err-symbol.ensures.1 in
    let h = part_halts (c.args.inner - c.loop.counter) symbols (operator_part symbols next) add_binary (expr_tree c.loop.left.value) (toks c.loop.rest.now) _ c.in_err-symbol.field-0.0 (omega arith) goes
    (symbol_halts symbols next (toks c.loop.rest.now) c.in_err-symbol.field-0.0 stop) c.loop.invariant in
    gives_err (λ b. expr_tree b.value) c.from_residual-in_err-symbol.result p.0 _ p.1 (subst (λ (e : Stop). Halts e (level_at c.args.plain c.args.inner c.args.level (toks c.args.tokens.now))) (sym p.2) h)

pub operation-returns-in_err-right : goal.operation-returns-in_err-right
operation-returns-in_err-right t c =
    let symbols = symbols_of c.args.level in
    let next = operand_at c.args.plain c.args.inner c.args.level in
    let goes = subst (λ (G : List ℕ). starts code G (toks c.loop.rest.now) ≡ true) c.symbols-symbols.ensures (sym c.begins.ensures ∙ c.if-not-begins.false) in
    let read = subst (λ (G : List ℕ). one_of code G (toks c.loop.rest.now) ≡ Yes (tok_of c.in_ok-symbol.symbol.now) (toks c.in_ok-symbol.after.now)) c.symbols-symbols.ensures c.in_ok-symbol.ensures in
    let p = err_from_is_err_and c.from_residual-in_err-right.result c.from_residual-in_err-right.ensures.1 in
    let h = part_halts (c.args.inner - c.loop.counter) symbols (operator_part symbols next) add_binary (expr_tree c.loop.left.value) (toks c.loop.rest.now) _ c.in_err-right.field-0.0 (omega arith) goes
    (right_halts symbols next (toks c.loop.rest.now) (toks c.in_ok-symbol.after.now) (tok_of c.in_ok-symbol.symbol.now) c.in_err-right.field-0.0 read c.in_err-right.ensures) c.loop.invariant in
    gives_err (λ b. expr_tree b.value) c.from_residual-in_err-right.result p.0 _ p.1 (subst (λ (e : Stop). Halts e (level_at c.args.plain c.args.inner c.args.level (toks c.args.tokens.now))) (sym p.2) h)

pub postfix-returns-then-not-begins : goal.postfix-returns-then-not-begins
postfix-returns-then-not-begins t c = sym c.loop.invariant ∙ fold_ends (c.args.inner - c.loop.counter) (46 ∷ []) (call_part (p_arg c.args.plain c.args.inner) c.args.inner) add_call (expr_tree c.loop.e.value) (toks c.loop.rest.now) (omega arith) (sym c.begins.ensures ∙ c.if-not-begins.true)

pub postfix-returns-in_err-name : goal.postfix-returns-in_err-name
postfix-returns-in_err-name t c =
    let p = err_from_is_err_and c.from_residual-in_err-name.result c.from_residual-in_err-name.ensures.1 in
    let h = part_halts (c.args.inner - c.loop.counter) (46 ∷ []) (call_part (p_arg c.args.plain c.args.inner) c.args.inner) add_call (expr_tree c.loop.e.value) (toks c.loop.rest.now) _ c.in_err-name.field-0.0 (omega arith) (sym c.begins.ensures ∙ c.if-not-begins.false) c.in_err-name.ensures c.loop.invariant in
    gives_err (λ b. expr_tree b.value) c.from_residual-in_err-name.result p.0 _ p.1 (subst (λ (e : Stop). Halts e (post c.args.plain (p_arg c.args.plain c.args.inner) c.args.inner (toks c.args.tokens.now))) (sym p.2) h)
