use Rattle.std.proofs.Common.{◌≡◌, ◌++◌, drop}
use Rattle.wy_bodies.specs.InSight.{known_params}
use Rattle.wy_bodies.proofs.statements.push_params.Given as goal

abbrev pub invariant-loop-param : goal.invariant-loop-param
invariant-loop-param l = l.variables ++ known_params l.body l.index (drop l.param-index l.params) ≡ l.initial.variables ++ known_params l.body 0 l.params
