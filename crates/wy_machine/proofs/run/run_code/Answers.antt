use Rattle.wy_machine.proofs.TracedRuns.{silent_runs}
use Rattle.wy_machine.proofs.run.run_code.Goals as goal

pub returns-clause-runs : goal.returns-clause-runs
returns-clause-runs g c = silent_runs _ (λ t a b end h. cc) _ _ _ _ _ _ _ _ c.run_observing.ensures.runs
