use Rattle.std.proofs.Common.{◌≡◌, take}
use Rattle.wy_verified.specs.Ranges.{scopes_bodies}
use Rattle.wy_verify.proofs.ranges.scopes.bodies_of.Given as goal

abbrev pub invariant-loop-scope : goal.invariant-loop-scope
invariant-loop-scope l = l.bodies.items ≡ scopes_bodies (take l.scope-index l.scopes)
