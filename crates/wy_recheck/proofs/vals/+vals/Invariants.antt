use Rattle.std.proofs.Common.{drop}
use Rattle.wy_types.specs.Code.{Last}
use Rattle.wy_types.specs.View.{value_of, values_of, stmts_block}
use Rattle.wy_types.specs.Vals.{values_vals, block_vals}
use Rattle.wy_recheck.proofs.ValsTaken.{Goes}
use Rattle.wy_recheck.proofs.vals.+vals.Given as goal

abbrev pub invariant-take_values-loop-i : goal.invariant-take_values-loop-i
invariant-take_values-loop-i l = Goes l.number (values_vals (values_of l.values.items)) l.rest (values_vals (values_of (drop l.i l.values.items)))

abbrev pub invariant-take_block-loop-i : goal.invariant-take_block-loop-i
invariant-take_block-loop-i l =
    Goes l.number (block_vals (stmts_block l.block.statements.items (Last (value_of l.block.last.value)))) l.rest (block_vals (stmts_block (drop l.i l.block.statements.items) (Last (value_of l.block.last.value))))
