use Rattle.wy_verify.proofs.authority.instance_rows.Goals as goal
use Rattle.wy_verify.proofs.Numbering.{In-item}

pub unit_row-requires : goal.unit_row-requires
unit_row-requires c =
    c.requires c.instance-item.result
    (In-item c.args.instances.now c.loop-instance.instance-index c.instance-item.result c.loop-instance-test.true c.instance-item.is)
