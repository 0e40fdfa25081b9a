use Rattle.std.proofs.Common.{drop}
use Rattle.wy_types.specs.View.{values_of}
use Rattle.wy_lower.specs.Operands.{fields_operands}
use Rattle.wy_lower.proofs.EmitOperands.{Mosts}
use Rattle.wy_lower.proofs.operands.fields_operands.Given as goal

abbrev pub invariant-loop-i : goal.invariant-loop-i
invariant-loop-i l = Mosts l.most (fields_operands (values_of (drop l.i l.values.items))) (fields_operands (values_of l.values.items))
