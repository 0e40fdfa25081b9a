use Rattle.std.proofs.Common.{List, ap, ◌∙◌, map}
use Rattle.std.proofs.Common.{◌++◌}
use Rattle.wy_verified.specs.Ranges.{role_bodies}
use Rattle.wy_verified.specs.Ranges.{Role}
use Rattle.wy_verify.specs.declared.ranges.roles.Role as standing
use Rattle.wy_verify.specs.RangeParts.{role_of}
use Rattle.wy_verify.proofs.RangeRoles.{bodies_more}
use Rattle.wy_verify.proofs.ranges.scopes.bodies_of.Goals as goal

pub loop-scope-preserved : goal.loop-scope-preserved
loop-scope-preserved c =
    bodies_more c.args.scopes.now c.loop-scope.scope-index c.scope-item.result c.loop-scope-test.true c.scope-item.is
    c.loop-scope.bodies.items c.add_bodies.new.bodies.items c.loop-scope.invariant
    (c.in_ok-add_bodies.ensures ∙ ap (λ (rs : List standing.Role). c.loop-scope.bodies.items ++ role_bodies (map role_of rs)) c.as_slice.ensures.value
    ∙ ap (λ (rs : List Role). c.loop-scope.bodies.items ++ role_bodies rs) c.in_ok-roles.ensures)
