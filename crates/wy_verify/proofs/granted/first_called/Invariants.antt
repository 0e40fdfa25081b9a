use Rattle.std.proofs.Common.{◌≡◌, drop}
use Rattle.wy_device.specs.Requests.{operation_called}
use Rattle.wy_verify.proofs.granted.first_called.Given as goal

abbrev pub invariant-loop-operation : goal.invariant-loop-operation
invariant-loop-operation l = operation_called l.method (drop l.operation-index l.operations) ≡ operation_called l.method l.operations
