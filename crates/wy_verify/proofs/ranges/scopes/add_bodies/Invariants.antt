use Rattle.std.proofs.Common.{◌≡◌, ◌++◌, map, take}
use Rattle.wy_verified.specs.Ranges.{Role}
use Rattle.wy_verify.specs.RangeParts.{role_of}
use Rattle.wy_verify.proofs.ranges.scopes.add_bodies.Given as goal

abbrev pub invariant-loop-role : goal.invariant-loop-role
invariant-loop-role l = l.bodies.items ≡ l.fn.bodies.items ++ map (λ (r : Role). r.1) (map role_of (take l.role-index l.roles))
