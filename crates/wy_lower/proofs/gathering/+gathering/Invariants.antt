use Rattle.std.proofs.Common.{drop}
use Rattle.wy_types.specs.Code.{Last}
use Rattle.wy_types.specs.Vals.{values_vals, block_vals}
use Rattle.wy_types.specs.View.{value_of, values_of, stmts_block, block_of}
use Rattle.wy_lower.specs.Parts.{values_parts, block_parts}
use Rattle.wy_lower.proofs.EmitParts.{Gathering}
use Rattle.wy_lower.proofs.gathering.+gathering.Given as goal

abbrev pub invariant-gather_values-loop-i : goal.invariant-gather_values-loop-i
invariant-gather_values-loop-i l =
    let left = values_of (drop l.i l.values.items) in
    let all = values_of l.values.items in
    Gathering l.initial.names l.names l.initial.found l.found (values_parts left) (values_parts all) (values_vals left) (values_vals all)

abbrev pub invariant-gather_block-loop-i : goal.invariant-gather_block-loop-i
invariant-gather_block-loop-i l =
    let left = stmts_block (drop l.i l.block.statements.items) (Last (value_of l.block.last.value)) in
    let all = block_of l.block in
    Gathering l.initial.names l.names l.initial.found l.found (block_parts left) (block_parts all) (block_vals left) (block_vals all)
