use Rattle.std.proofs.Common.{◌↔◌, IsTrue, List, subst, map}
use Rattle.wy_text.specs.Members.{In}
use Rattle.wy_verify.specs.declared.ranges.roles.Role as standing
use Rattle.wy_verified.specs.Ranges.{Role}
use Rattle.wy_verify.specs.RangeParts.{RoleInRange, role_of}
use Rattle.wy_verify.proofs.ranges.scopes.has_rows.Goals as goal

pub returns : goal.returns
returns c =
    subst (λ (rs : List Role). IsTrue c.are_roles.result ↔ ((r : Role) → In {X = Role} r rs → RoleInRange c.args.file.now c.args.scope.now r)) c.in_ok-roles.ensures
    (subst (λ (rs : List standing.Role). IsTrue c.are_roles.result ↔ ((r : Role) → In {X = Role} r (map role_of rs) → RoleInRange c.args.file.now c.args.scope.now r)) c.as_slice-3.ensures.value c.are_roles.ensures)
