use Rattle.wy_types.specs.Program.{program_of}
use Rattle.wy_recheck.proofs.types.standing_type.Goals as goal

pub returns-in-Own : goal.returns-in-Own
returns-in-Own c = rw c.in-Own.is (c.standing_own.ensures (program_of c.args.core.now))
