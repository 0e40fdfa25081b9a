use Rattle.std.proofs.Common.{◌≡◌, take}
use Rattle.wy_verify.specs.RangeParts.{needs_of}
use Rattle.wy_verify.proofs.ranges.needs.needs_of.Given as goal

abbrev pub invariant-loop-literal : goal.invariant-loop-literal
invariant-loop-literal l = l.needs.items ≡ needs_of (take l.literal-index l.literals)
