use Rattle.std.proofs.Common.{◌≡◌, map, take}
use Rattle.wy_verify.specs.RangeParts.{vals_in}
use Rattle.wy_verify.proofs.ranges.tables.vals_of.Given as goal

abbrev pub invariant-loop-body : goal.invariant-loop-body
invariant-loop-body l = l.vals.items ≡ map vals_in (take l.body-index l.bodies)
