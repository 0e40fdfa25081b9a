use Rattle.std.proofs.Common.{◌≡◌, take, map}
use Rattle.wy_types.specs.Program.{program_of}
use Rattle.wy_authority.specs.Authority.{instance_row}
use Rattle.wy_authority.proofs.body_rows.instance_rows.Given as goal

abbrev pub invariant-loop-instance : goal.invariant-loop-instance
invariant-loop-instance l = l.rows ≡ map (instance_row (program_of l.core)) (take l.instance-index l.instances)
