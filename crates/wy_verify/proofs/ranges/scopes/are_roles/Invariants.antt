use Rattle.std.proofs.Common.{take}
use Rattle.wy_text.specs.Members.{In}
use Rattle.wy_verify.specs.declared.ranges.roles.Role as standing
use Rattle.wy_verify.specs.RangeParts.{RoleInRange, role_of}
use Rattle.wy_verify.proofs.ranges.scopes.are_roles.Given as goal

abbrev pub invariant-loop-role : goal.invariant-loop-role
invariant-loop-role l = (r : standing.Role) → In r (take l.role-index l.roles) → RoleInRange l.file l.scope (role_of r)
