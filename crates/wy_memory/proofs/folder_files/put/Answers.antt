use Rattle.std.proofs.Common.{sym}
use Rattle.wy_memory.proofs.Putting.{puts-set, puts-push}
use Rattle.wy_memory.proofs.folder_files.put.Goals as goal

pub returns-in-Some : goal.returns-in-Some
returns-in-Some c = puts-set c.args.files.now.items c.in-Some.at c.args.file (rw c.as_slice.ensures.value at (sym c.in-Some.ensures))

pub returns-in-Ok : goal.returns-in-Ok
returns-in-Ok c =
    rw c.in-Ok.ensures.items (puts-push c.args.files.now.items c.args.file (rw c.as_slice.ensures.value at (sym c.in-None.ensures)))
