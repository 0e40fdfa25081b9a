use Rattle.wy_engine.proofs.running.run_image.Goals as goal

pub returns-in-Observed : goal.returns-in-Observed
returns-in-Observed g c = rw c.in-Observed.is c.observe_image.ensures
