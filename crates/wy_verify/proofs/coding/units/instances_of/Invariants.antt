use Rattle.std.proofs.Common.{◌≡◌, map, take}
use Rattle.wy_verified.specs.CodeOf.{instance_of}
use Rattle.wy_verify.proofs.coding.units.instances_of.Given as goal

abbrev pub invariant-loop-instance : goal.invariant-loop-instance
invariant-loop-instance l = l.list ≡ map instance_of (take l.instance-index l.instances)
