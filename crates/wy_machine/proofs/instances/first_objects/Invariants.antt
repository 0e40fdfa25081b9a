use Rattle.std.proofs.Common.{◌≡◌, ◌++◌, drop}
use Rattle.wy_code.specs.Running.{objects_at_first}
use Rattle.wy_machine.proofs.instances.first_objects.Given as goal

abbrev pub invariant-loop-number : goal.invariant-loop-number
invariant-loop-number l = l.objects.items ++ objects_at_first l.code l.number (drop l.number l.code.instances) ≡ objects_at_first l.code 0 l.code.instances
