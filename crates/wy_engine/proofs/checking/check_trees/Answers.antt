use Rattle.std.proofs.Common.{refl}
use Rattle.wy_types.specs.Program.{program_of}
use Rattle.wy_engine.specs.Answering.{accepted, fails}
use Rattle.wy_engine.proofs.checking.check_trees.Goals as goal

pub returns-in-Ok : goal.returns-in-Ok
returns-in-Ok g c = accepted (program_of c.in-Ok.field-0.core) c.in-Ok.ensures.resolved c.in-Ok.ensures.accepted.accepted c.write_out.ensures

pub returns : goal.returns
returns g c = fails c.in-Err.ensures.fails refl
