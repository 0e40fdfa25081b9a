use Rattle.std.proofs.Common.{map}
use Rattle.std.proofs.Common.{get_or}
use Rattle.wy_image.specs.declared.file.Entry.{Entry}
use Rattle.wy_verify.specs.RangeParts.{role_of}
use Rattle.wy_verify.proofs.RangeRoles.{entries_more, role_put}
use Rattle.wy_verify.proofs.RangeLists.{read_any}
use Rattle.wy_verify.proofs.ranges.roles.add_entries.Goals as goal

pub loop-entry-preserved : goal.loop-entry-preserved
loop-entry-preserved c =
    let d : Entry = record { method = 0; body = 0 } in
    let xs = c.args.entries.now in
    let i = c.loop-entry.entry-index in
    let lt = c.loop-entry-test.true in
    entries_more c.args.literal xs i (get_or xs i d) lt (read_any xs i d (get_or xs i d) lt)
    (map role_of c.args.roles.now.items) (map role_of c.loop-entry.roles.items) (map role_of c.push.new.self.items) c.loop-entry.invariant
    (role_put c.loop-entry.roles.items _ c.push.new.self.items c.in_ok-push.ensures.items)
