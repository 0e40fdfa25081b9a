use Rattle.std.proofs.Common.{rules}
use Rattle.wy_engine.specs.Running.{summed}
use Rattle.wy_engine.proofs.running.sum_up.Goals as goal

pub returns-in-Ended : goal.returns-in-Ended
returns-in-Ended g c = summed (search rules) c.write_out.ensures
