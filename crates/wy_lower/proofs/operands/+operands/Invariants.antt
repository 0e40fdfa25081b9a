use Rattle.std.proofs.Common.{◌+◌, drop}
use Rattle.wy_types.specs.Code.{Last}
use Rattle.wy_types.specs.View.{value_of, values_of, stmts_block, block_of}
use Rattle.wy_lower.specs.Operands.{values_operands, block_operands}
use Rattle.wy_lower.proofs.EmitOperands.{Mosts}
use Rattle.wy_lower.proofs.operands.+operands.Given as goal

abbrev pub invariant-values_operands-loop-i : goal.invariant-values_operands-loop-i
invariant-values_operands-loop-i l = Mosts l.most (l.i + values_operands (values_of (drop l.i l.values.items))) (values_operands (values_of l.values.items))

abbrev pub invariant-block_operands-loop-i : goal.invariant-block_operands-loop-i
invariant-block_operands-loop-i l =
    Mosts l.most (block_operands (stmts_block (drop l.i l.block.statements.items) (Last (value_of l.block.last.value)))) (block_operands (block_of l.block))
