use Rattle.std.proofs.Common.{None, true, false}
use Rattle.wy_verify.specs.declared.ranges.roles.Role as standing
use Rattle.wy_verified.specs.Ranges.{Role}
use Rattle.wy_verify.specs.RangeParts.{RoleInRange, role_of}
use Rattle.wy_verify.proofs.RangeTests.{one_fails, one_more, none_fails, on_map, of_map, reworded}
use Rattle.wy_verify.proofs.ranges.scopes.are_roles.Goals as goal

pub returns-then-not-is_role : goal.returns-then-not-is_role
returns-then-not-is_role c =
    let d : standing.Role = record { owner = None; body = 0 } in
    let P = λ (r : standing.Role). RoleInRange c.args.file.now c.args.scope.now (role_of r) in
    let Q = λ (r : Role). RoleInRange c.args.file.now c.args.scope.now r in
    reworded false (one_fails P c.args.roles.now c.loop-role.role-index d c.is_role.result c.loop-role-test.true c.if-not-is_role.true c.is_role.ensures)
    (on_map role_of Q c.args.roles.now) (of_map role_of Q c.args.roles.now)

pub loop-role-preserved : goal.loop-role-preserved
loop-role-preserved c =
    let d : standing.Role = record { owner = None; body = 0 } in
    let P = λ (r : standing.Role). RoleInRange c.args.file.now c.args.scope.now (role_of r) in
    one_more P c.args.roles.now c.loop-role.role-index d c.is_role.result c.loop-role-test.true c.loop-role.invariant c.if-not-is_role.false c.is_role.ensures

pub returns : goal.returns
returns c =
    let P = λ (r : standing.Role). RoleInRange c.args.file.now c.args.scope.now (role_of r) in
    let Q = λ (r : Role). RoleInRange c.args.file.now c.args.scope.now r in
    reworded true (none_fails P c.args.roles.now c.loop-role.role-index c.loop-role-test.false c.loop-role.invariant)
    (on_map role_of Q c.args.roles.now) (of_map role_of Q c.args.roles.now)
