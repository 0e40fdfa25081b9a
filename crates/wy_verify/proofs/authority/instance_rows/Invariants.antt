use Rattle.std.proofs.Common.{◌≡◌, take, map}
use Rattle.wy_verify.specs.Authority.{instance_row}
use Rattle.wy_verify.proofs.authority.instance_rows.Given as goal

abbrev pub invariant-loop-instance : goal.invariant-loop-instance
invariant-loop-instance l = l.rows ≡ map (instance_row l.firsts) (take l.instance-index l.instances)
