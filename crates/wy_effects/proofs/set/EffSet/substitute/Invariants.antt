use Rattle.std.proofs.Common.{◌≡◌, ◌≤◌, ◌-◌}
use Rattle.wy_effects.specs.EffSet.{union, replace}
use Rattle.wy_effects.proofs.Numbers.{from_on}
use Rattle.wy_effects.proofs.set.EffSet.substitute.Given as goal

-- what the atoms below `from` stand for is there
abbrev pub invariant-loop-atom : goal.invariant-loop-atom
invariant-loop-atom l = (union l.set (replace l.by (from_on l.from l.self)) ≡ replace l.by l.self) × (l.from ≤ 512)

abbrev pub decreases-loop-atom : goal.decreases-loop-atom
decreases-loop-atom l = 512 - l.from
