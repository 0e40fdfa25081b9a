use Rattle.std.proofs.Common.{◌≡◌, ◌++◌, map, take}
use Rattle.wy_verified.specs.CodeOf.{literal_of}
use Rattle.wy_verified.specs.Ranges.{literal_roles}
use Rattle.wy_verify.specs.RangeParts.{role_of}
use Rattle.wy_verify.proofs.ranges.roles.add_literals.Given as goal

abbrev pub invariant-loop-l : goal.invariant-loop-l
invariant-loop-l l = map role_of l.roles.items ≡ map role_of l.fn.roles.items ++ literal_roles 1 (map literal_of (take l.l l.literals))
