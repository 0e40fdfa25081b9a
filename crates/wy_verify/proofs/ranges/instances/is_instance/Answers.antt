use Rattle.wy_verify.proofs.RangeTests.{denied}
use Rattle.wy_verify.proofs.RangeWhole.{no_instance}
use Rattle.std.proofs.Common.{sym}
use Rattle.wy_verify.proofs.ranges.instances.is_instance.Goals as goal

pub returns-in-None : goal.returns-in-None
returns-in-None c =
    denied (no_instance c.args.file.now c.args.number c.args.instance.now (sym c.in-None.ensures))
