use Rattle.std.proofs.Common.{drop, map}
use Rattle.wy_types.specs.Program.{body_of}
use Rattle.wy_types.specs.Vals.{bodies_vals}
use Rattle.wy_recheck.proofs.ValsTaken.{Goes}
use Rattle.wy_recheck.proofs.vals.take_bodies.Given as goal

abbrev pub invariant-loop-body : goal.invariant-loop-body
invariant-loop-body l = Goes l.number (bodies_vals (map body_of l.bodies)) l.rest (bodies_vals (map body_of (drop l.body-index l.bodies)))
