use Rattle.std.proofs.Common.{◌≡◌, drop}
use Rattle.wy_syntax.specs.Views.{part_trees, stmt_trees}
use Rattle.wy_heads.specs.Most.{parts_most, stmts_most}
use Rattle.wy_heads.proofs.counts.+most.Given as goal

abbrev pub invariant-stmts_most-loop-stmt : goal.invariant-stmts_most-loop-stmt
invariant-stmts_most-loop-stmt l = stmts_most l.most (stmt_trees (drop l.stmt-index l.block)) ≡ stmts_most l.initial.most (stmt_trees l.block)

abbrev pub invariant-parts_most-loop-part : goal.invariant-parts_most-loop-part
invariant-parts_most-loop-part l = parts_most l.most (part_trees (drop l.part-index l.parts)) ≡ parts_most l.initial.most (part_trees l.parts)
