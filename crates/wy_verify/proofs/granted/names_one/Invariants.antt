use Rattle.std.proofs.Common.{◌≡◌, drop, map}
use Rattle.wy_code.specs.EachOnce.{is_among}
use Rattle.wy_device.specs.Operation.{method_text}
use Rattle.wy_verify.proofs.granted.names_one.Given as goal

abbrev pub invariant-loop-operation : goal.invariant-loop-operation
invariant-loop-operation l = is_among l.name (map method_text (drop l.operation-index l.operations)) ≡ is_among l.name (map method_text l.operations)
