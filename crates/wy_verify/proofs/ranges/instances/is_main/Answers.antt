use Rattle.wy_verify.proofs.RangeTests.{denied}
use Rattle.wy_verify.proofs.RangeWhole.{no_main}
use Rattle.std.proofs.Common.{sym}
use Rattle.wy_verify.proofs.ranges.instances.is_main.Goals as goal

pub returns-in-None : goal.returns-in-None
returns-in-None c =
    denied (no_main c.args.file.now (sym c.in-None.ensures))
