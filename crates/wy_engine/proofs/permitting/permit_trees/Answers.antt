use Rattle.std.proofs.Common.{refl}
use Rattle.wy_types.specs.Program.{program_of}
use Rattle.wy_engine.specs.Answering.{judged, unaccepted}
use Rattle.wy_engine.proofs.permitting.permit_trees.Goals as goal

pub returns-in-Ok : goal.returns-in-Ok
returns-in-Ok g c = judged (program_of c.in-Ok.accepted.core) c.in-Ok.ensures.resolved c.in-Ok.ensures.accepted.accepted c.permit_accepted.ensures

pub returns-in-Err : goal.returns-in-Err
returns-in-Err g c = unaccepted c.in-Err.ensures.fails refl
