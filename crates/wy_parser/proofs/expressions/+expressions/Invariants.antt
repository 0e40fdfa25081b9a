use Rattle.std.proofs.Common.{◌≡◌, ◌+◌, ◌-◌, ◌*◌, [], ◌∷◌, map}
use Rattle.wy_syntax.specs.Tokens.{code, toks}
use Rattle.wy_syntax.specs.Views.{expr_tree}
use Rattle.wy_parser.specs.Reading.{fold_many}
use Rattle.wy_parser.specs.Parsing.{commas, comma_part, snoc}
use Rattle.wy_parser.specs.ExprParsing.{arg_first, operator_part, add_binary, call_part, add_call, post, symbols_of, operand_at, level_at, p_arg}
use Rattle.wy_parser.proofs.Depths.{height}
use Rattle.wy_parser.proofs.expressions.+expressions.Given as goal

abbrev pub decreases-arg : goal.decreases-arg
decreases-arg l = 20 * l.depth + 0

abbrev pub decreases-arguments : goal.decreases-arguments
decreases-arguments l = 20 * l.inner + 3

abbrev pub decreases-atomic : goal.decreases-atomic
decreases-atomic l = 20 * l.inner + 5

abbrev pub decreases-built : goal.decreases-built
decreases-built l = 20 * l.inner + 3

abbrev pub decreases-call_part : goal.decreases-call_part
decreases-call_part l = 20 * l.inner + 4

abbrev pub decreases-choice : goal.decreases-choice
decreases-choice l = 20 * l.inner + 2

abbrev pub decreases-choice_rest : goal.decreases-choice_rest
decreases-choice_rest l = 20 * l.inner + 1

abbrev pub decreases-comma_arg : goal.decreases-comma_arg
decreases-comma_arg l = 20 * l.inner + 1

abbrev pub decreases-comparison : goal.decreases-comparison
decreases-comparison l = 20 * l.inner + 12

abbrev pub decreases-expr : goal.decreases-expr
decreases-expr l = 20 * l.depth + 0

abbrev pub decreases-minus : goal.decreases-minus
decreases-minus l = 20 * l.inner + 1

abbrev pub decreases-one_argument : goal.decreases-one_argument
decreases-one_argument l = 20 * l.inner + 1

abbrev pub decreases-operand : goal.decreases-operand
decreases-operand l = 20 * l.inner + height l.level

abbrev pub decreases-operation : goal.decreases-operation
decreases-operation l = 20 * l.inner + height l.level + 1

abbrev pub decreases-parens : goal.decreases-parens
decreases-parens l = 20 * l.inner + 2

abbrev pub decreases-postfix : goal.decreases-postfix
decreases-postfix l = 20 * l.inner + 6

abbrev pub decreases-prefix : goal.decreases-prefix
decreases-prefix l = 20 * l.depth + 0

abbrev pub decreases-prefix_in : goal.decreases-prefix_in
decreases-prefix_in l = 20 * l.inner + 7

abbrev pub decreases-several_arguments : goal.decreases-several_arguments
decreases-several_arguments l = 20 * l.inner + 2

abbrev pub decreases-third_argument : goal.decreases-third_argument
decreases-third_argument l = 20 * l.inner + 1

abbrev pub invariant-operation-loop : goal.invariant-operation-loop
invariant-operation-loop l = fold_many code (l.inner - l.counter) (symbols_of l.level) (operator_part (symbols_of l.level) (operand_at l.plain l.inner l.level)) add_binary (expr_tree l.left.value) (toks l.rest) ≡ level_at l.plain l.inner l.level (toks l.tokens)

abbrev pub invariant-postfix-loop : goal.invariant-postfix-loop
invariant-postfix-loop l = fold_many code (l.inner - l.counter) (46 ∷ []) (call_part (p_arg l.plain l.inner) l.inner) add_call (expr_tree l.e.value) (toks l.rest) ≡ post l.plain (p_arg l.plain l.inner) l.inner (toks l.tokens)

abbrev pub invariant-arguments-loop : goal.invariant-arguments-loop
invariant-arguments-loop l = fold_many code (l.inner - l.counter) (44 ∷ []) (comma_part (p_arg l.plain l.inner)) snoc (map expr_tree l.items.items) (toks l.rest) ≡ commas arg_first (p_arg l.plain l.inner) l.inner (toks l.tokens)
