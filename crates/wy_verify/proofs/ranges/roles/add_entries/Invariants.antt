use Rattle.std.proofs.Common.{◌≡◌, ◌++◌, map, take}
use Rattle.wy_verified.specs.CodeOf.{method_of}
use Rattle.wy_verified.specs.Ranges.{entry_roles}
use Rattle.wy_verify.specs.RangeParts.{role_of}
use Rattle.wy_verify.proofs.ranges.roles.add_entries.Given as goal

abbrev pub invariant-loop-entry : goal.invariant-loop-entry
invariant-loop-entry l = map role_of l.roles.items ≡ map role_of l.fn.roles.items ++ entry_roles l.literal (map method_of (take l.entry-index l.entries))
