use Rattle.wy_machine.proofs.TracedRuns.{kept, traced_runs}
use Rattle.wy_machine.proofs.run.run_tracing.Goals as goal

pub returns-clause-runs : goal.returns-clause-runs
returns-clause-runs g c = traced_runs _ (λ t. g.O.Sink.state t.out.now) (λ t a b r h. h.1) (λ t a b r h. h.2) _ _ _ _ _ _ _ _ c.run_observing.ensures.runs

pub returns-clause-same_reference : goal.returns-clause-same_reference
returns-clause-same_reference g c = kept _ (λ t. t.out.ghost_name) (λ t a b r h. h.0) _ _ _ _ _ _ _ _ c.run_observing.ensures.runs
