use Rattle.std.proofs.Common.{◌≡◌, drop}
use Rattle.wy_proving.specs.Written.{step_types}
use Rattle.wy_certify.specs.PartTable.{each_once_after}
use Rattle.wy_certify.specs.Step.{steps_of}
use Rattle.wy_certify.proofs.numbering.TypeNumbers.add_steps.Given as goal

abbrev pub invariant-loop-step : goal.invariant-loop-step
invariant-loop-step l = each_once_after l.self (step_types (steps_of (drop l.step-index l.steps))) ≡ each_once_after l.initial.self (step_types (steps_of l.steps))
