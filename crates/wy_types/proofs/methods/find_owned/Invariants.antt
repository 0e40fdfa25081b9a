use Rattle.std.proofs.Common.{◌≡◌, drop, map}
use Rattle.wy_types.specs.Program.{body_of}
use Rattle.wy_types.specs.Signature.{find_method}
use Rattle.wy_types.specs.Types.{methods_of_owner}
use Rattle.wy_types.proofs.methods.find_owned.Given as goal

abbrev pub invariant-loop-body : goal.invariant-loop-body
invariant-loop-body l =
    find_method l.name (methods_of_owner l.owner (map body_of (drop l.body-index l.bodies))) ≡ find_method l.name (methods_of_owner l.owner (map body_of l.bodies))
