use Rattle.wy_engine.proofs.RunsTold.{run_told}
use Rattle.wy_engine.proofs.laws.runs_are_told.Goals as goal

pub returns : goal.returns
returns c = run_told c.answers_are_taken_in_order.ensures
