use Rattle.std.proofs.Common.{ℕ, take, nat_eq}
use Rattle.indexmap.specs.IndexMap.{get}
use Rattle.wy_types.specs.Bodies.{StandIn}
use Rattle.wy_types.proofs.bodies.spans_of.Given as goal

abbrev pub invariant-loop-i : goal.invariant-loop-i
invariant-loop-i l = (owner : ℕ) → StandIn (take l.i l.bodies) owner (get nat_eq l.spans owner)
