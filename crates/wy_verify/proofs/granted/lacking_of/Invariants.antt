use Rattle.std.proofs.Common.{◌≡◌, ◌++◌, drop, map}
use Rattle.wy_device.specs.Operation.{method_text}
use Rattle.wy_verified.specs.CodeOf.{without}
use Rattle.wy_verify.proofs.granted.lacking_of.Given as goal

abbrev pub invariant-loop-operation : goal.invariant-loop-operation
invariant-loop-operation l = l.more ++ without l.names (map method_text (drop l.operation-index l.operations)) ≡ without l.names (map method_text l.operations)
