use Rattle.std.proofs.Common.{◌≡◌, ◌++◌, map, drop}
use Rattle.wy_proving.specs.Written.{sub_pairs}
use Rattle.wy_certify.specs.Pair.{pair_of}
use Rattle.wy_certify.specs.Step.{step_of}
use Rattle.wy_certify.proofs.asking.Asking.add_subs.Given as goal

abbrev pub invariant-loop-step : goal.invariant-loop-step
invariant-loop-step l = map pair_of l.out ++ sub_pairs (map step_of (drop l.step-index l.steps)) ≡ map pair_of l.initial.out ++ sub_pairs (map step_of l.steps)
