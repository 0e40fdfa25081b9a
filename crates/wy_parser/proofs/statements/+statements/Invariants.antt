use Rattle.std.proofs.Common.{◌≡◌, ◌+◌, ◌-◌, ◌*◌, map}
use Rattle.wy_syntax.specs.Tokens.{code, toks}
use Rattle.wy_syntax.specs.Views.{part_tree, stmt_tree}
use Rattle.wy_syntax.specs.StmtGrammar.{is_val}
use Rattle.wy_parser.specs.Reading.{fold_many, blocks}
use Rattle.wy_parser.specs.Parsing.{each, snoc}
use Rattle.wy_parser.specs.StmtParsing.{stmt_first, part_first, part_at, stmt_at}
use Rattle.wy_parser.proofs.Rows.{behind_all}
use Rattle.wy_parser.proofs.statements.+statements.Given as goal

abbrev pub decreases-assign : goal.decreases-assign
decreases-assign l = 20 * l.inner + 1

abbrev pub decreases-block : goal.decreases-block
decreases-block l = 20 * l.depth + 0

abbrev pub decreases-block_in : goal.decreases-block_in
decreases-block_in l = 20 * l.inner + 12

abbrev pub decreases-branch_rest : goal.decreases-branch_rest
decreases-branch_rest l = 20 * l.inner + 2

abbrev pub decreases-either : goal.decreases-either
decreases-either l = 20 * l.inner + 3

abbrev pub decreases-field : goal.decreases-field
decreases-field l = 20 * l.inner + 1

abbrev pub decreases-indented_block : goal.decreases-indented_block
decreases-indented_block l = 20 * l.inner + 1

abbrev pub decreases-literal : goal.decreases-literal
decreases-literal l = 20 * l.inner + 6

abbrev pub decreases-part : goal.decreases-part
decreases-part l = 20 * l.inner + 3

abbrev pub decreases-parts : goal.decreases-parts
decreases-parts l = 20 * l.inner + 4

abbrev pub decreases-parts_inside : goal.decreases-parts_inside
decreases-parts_inside l = 20 * l.inner + 5

abbrev pub decreases-right_side : goal.decreases-right_side
decreases-right_side l = 20 * l.depth + 0

abbrev pub decreases-right_side_in : goal.decreases-right_side_in
decreases-right_side_in l = 20 * l.inner + 7

abbrev pub decreases-stmt : goal.decreases-stmt
decreases-stmt l = 20 * l.inner + 10

abbrev pub decreases-stmts : goal.decreases-stmts
decreases-stmts l = 20 * l.inner + 11

abbrev pub decreases-tail : goal.decreases-tail
decreases-tail l = 20 * l.inner + 2

abbrev pub decreases-untyped_side : goal.decreases-untyped_side
decreases-untyped_side l = 20 * l.inner + 7

abbrev pub decreases-typed_val : goal.decreases-typed_val
decreases-typed_val l = 20 * l.inner + 1

abbrev pub decreases-untyped_val : goal.decreases-untyped_val
decreases-untyped_val l = 20 * l.inner + 8

abbrev pub decreases-val : goal.decreases-val
decreases-val l = 20 * l.inner + 9

abbrev pub invariant-parts-loop : goal.invariant-parts-loop
invariant-parts-loop l = fold_many code (l.inner - l.counter) part_first (part_at l.plain l.inner) snoc (map part_tree l.items.items) (toks l.rest) ≡ each part_first (part_at l.plain l.inner) l.inner (toks l.tokens)

abbrev pub invariant-stmts-loop : goal.invariant-stmts-loop
invariant-stmts-loop l = behind_all (map stmt_tree l.items.items) (blocks code (l.inner - l.counter) stmt_first is_val (stmt_at l.plain l.inner) (toks l.rest)) ≡ blocks code l.inner stmt_first is_val (stmt_at l.plain l.inner) (toks l.tokens)
