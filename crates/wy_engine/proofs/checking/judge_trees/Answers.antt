use Rattle.wy_types.specs.Program.{program_of}
use Rattle.wy_engine.specs.Answering.{nameless, not_accepted}
use Rattle.wy_engine.proofs.checking.judge_trees.Goals as goal

pub returns-in-Err-clause-fails : goal.returns-in-Err-clause-fails
returns-in-Err-clause-fails c = nameless c.in-Err.why c.in-Err.ensures.refusal c.names_status.ensures

pub returns-in-Err-check-clause-fails : goal.returns-in-Err-check-clause-fails
returns-in-Err-check-clause-fails c = not_accepted (program_of c.in-Ok.core) c.in-Ok.ensures.core c.in-Err-check.why c.in-Err-check.ensures.refusal c.check_status.ensures
