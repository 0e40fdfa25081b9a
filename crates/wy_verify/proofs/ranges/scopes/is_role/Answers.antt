use Rattle.std.proofs.Common.{◌↔◌, IsTrue, List, subst, sym}
use Rattle.wy_text.specs.Members.{In}
use Rattle.wy_image.specs.declared.file.Row.{Row}
use Rattle.wy_verify.specs.RangeParts.{role_of}
use Rattle.wy_verified.specs.Ranges.{RowInRange}
use Rattle.wy_verify.proofs.RangeTests.{reworded}
use Rattle.wy_verify.proofs.RangeWhole.{role_given, given_role}
use Rattle.wy_verify.proofs.ranges.scopes.is_role.Goals as goal

pub returns-in-Some : goal.returns-in-Some
returns-in-Some c =
    let rows = subst (λ (l : List Row). IsTrue c.are_rows.result ↔ ((r : Row) → In r l → RowInRange c.args.file.now c.args.scope.now c.args.role.owner c.in-Some.body.now r)) c.as_slice.ensures c.are_rows.ensures in
    reworded c.are_rows.result rows (role_given c.args.file.now c.args.scope.now (role_of c.args.role) c.in-Some.body.now (sym c.in-Some.ensures))
    (given_role c.args.file.now c.args.scope.now (role_of c.args.role) c.in-Some.body.now (sym c.in-Some.ensures))
