use Rattle.std.proofs.Common.{◌≡◌, drop}
use Rattle.wy_device.specs.Requests.{operation_called}
use Rattle.wy_machine.proofs.requests.first_called.Given as goal

abbrev pub invariant-loop-name : goal.invariant-loop-name
invariant-loop-name l = operation_called l.method (drop l.name-index l.names) ≡ operation_called l.method l.names
