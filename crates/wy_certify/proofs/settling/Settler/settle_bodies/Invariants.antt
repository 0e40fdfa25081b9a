use Rattle.std.proofs.Common.{◌≡◌, map, drop}
use Rattle.wy_types.specs.Program.{body_of}
use Rattle.wy_certify.specs.Settling.{standing_of, bodies_settled}
use Rattle.wy_certify.proofs.settling.Settler.settle_bodies.Given as goal

abbrev pub invariant-loop-body : goal.invariant-loop-body
invariant-loop-body l = bodies_settled (standing_of l.self) (map body_of (drop l.body-index l.bodies)) l.known.items ≡ bodies_settled (standing_of l.self) (map body_of l.bodies) l.initial.known.items
