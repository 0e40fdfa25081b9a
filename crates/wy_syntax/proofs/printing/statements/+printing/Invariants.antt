use Rattle.std.proofs.Common.{drop}
use Rattle.wy_syntax.specs.Views.{part_trees, stmt_trees}
use Rattle.wy_syntax.specs.Canonical.{block_text, parts_text}
use Rattle.wy_syntax.proofs.Gathered.{Follows}
use Rattle.wy_syntax.proofs.printing.statements.+printing.Given as goal

abbrev pub invariant-push_block-loop-stmt : goal.invariant-push_block-loop-stmt
invariant-push_block-loop-stmt l = Follows l.initial.out (block_text l.inside (stmt_trees l.block)) l.out (block_text l.inside (stmt_trees (drop l.stmt-index l.block)))

abbrev pub invariant-push_parts-loop-part : goal.invariant-push_parts-loop-part
invariant-push_parts-loop-part l = Follows l.initial.out (parts_text l.inside (part_trees l.parts)) l.out (parts_text l.inside (part_trees (drop l.part-index l.parts)))
