use Rattle.std.proofs.Common.{◌≡◌, take, map}
use Rattle.wy_types.specs.PrimitiveRows.{row_method}
use Rattle.wy_types.proofs.primitive.methods_of.Given as goal

abbrev pub invariant-loop-row : goal.invariant-loop-row
invariant-loop-row l = l.methods ≡ map row_method (take l.row-index l.rows)
