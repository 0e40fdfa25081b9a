use Rattle.std.proofs.Common.{◌≡◌, ◌++◌, drop, map}
use Rattle.wy_types.specs.Program.{body_of}
use Rattle.wy_types.specs.Types.{signature, methods_of_owner}
use Rattle.wy_types.proofs.methods.owned.Given as goal

abbrev pub invariant-loop-body : goal.invariant-loop-body
invariant-loop-body l = map signature l.out.items ++ methods_of_owner l.owner (map body_of (drop l.body-index l.bodies)) ≡ methods_of_owner l.owner (map body_of l.bodies)
