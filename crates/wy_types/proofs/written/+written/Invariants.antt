use Rattle.std.proofs.Common.{◌≡◌, ◌++◌, drop}
use Rattle.wy_types.specs.View.{values_of, stmts_block, value_of}
use Rattle.wy_types.specs.Code.{Last}
use Rattle.wy_types.specs.Written.{values_types, block_types}
use Rattle.wy_types.proofs.written.+written.Given as goal

abbrev pub invariant-add_block-loop-statement : goal.invariant-add_block-loop-statement
invariant-add_block-loop-statement l =
    l.out ++ block_types (stmts_block (drop l.statement-index l.statement-items) (Last (value_of l.block.last.value))) ≡
    l.initial.out ++ block_types (stmts_block l.statement-items (Last (value_of l.block.last.value)))

abbrev pub invariant-add_values-loop-value : goal.invariant-add_values-loop-value
invariant-add_values-loop-value l =
    l.out ++ values_types (values_of (drop l.value-index l.value-items)) ≡ l.initial.out ++ values_types (values_of l.value-items)
