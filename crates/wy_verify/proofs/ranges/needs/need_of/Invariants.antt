use Rattle.std.proofs.Common.{◌≡◌, take}
use Rattle.wy_verify.specs.RangeParts.{slots_needed, values_needed}
use Rattle.wy_verify.proofs.ranges.needs.need_of.Given as goal

abbrev pub invariant-loop-capture : goal.invariant-loop-capture
invariant-loop-capture l = (l.slots ≡ slots_needed (take l.capture-index l.captures)) × (l.values ≡ values_needed (take l.capture-index l.captures))
