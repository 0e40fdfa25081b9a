use Rattle.std.proofs.Common.{◌≡◌, ◌++◌, drop, map}
use Rattle.wy_types.specs.Program.{body_of}
use Rattle.wy_types.specs.Reached.{body_types}
use Rattle.wy_types.proofs.reach.add_bodies.Given as goal

abbrev pub invariant-loop-body : goal.invariant-loop-body
invariant-loop-body l = l.out ++ body_types (map body_of (drop l.body-index l.bodies)) ≡ l.initial.out ++ body_types (map body_of l.bodies)
