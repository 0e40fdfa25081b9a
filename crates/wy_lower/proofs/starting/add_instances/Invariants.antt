use Rattle.std.proofs.Common.{◌≡◌, map, take}
use Rattle.wy_meaning.specs.Starts.{started_of}
use Rattle.wy_lower.specs.Lowering.{instance_code}
use Rattle.wy_lower.proofs.starting.add_instances.Given as goal

abbrev pub invariant-loop-instance : goal.invariant-loop-instance
invariant-loop-instance l = l.all ≡ map instance_code (map started_of (take l.instance-index l.instances))
