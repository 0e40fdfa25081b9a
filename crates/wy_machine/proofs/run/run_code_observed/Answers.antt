use Rattle.std.proofs.Common.{◌<◌, ◌^◌, ◌-◌, arith}
use Rattle.wy_machine.proofs.UsedRuns.{observed_runs}
use Rattle.wy_machine.proofs.run.run_code_observed.Goals as goal

pub returns-clause-runs : goal.returns-clause-runs
returns-clause-runs g c =
    let small : c.args.depth < 2 ^ 64 - 1 = omega (arith, c.ranges.depth.fits) in
    observed_runs c.args.code.now c.args.depth small c.args.steps _ _ _ _ _ c.requires.unused c.run_observing.ensures.runs
