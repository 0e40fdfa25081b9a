use Rattle.std.proofs.Common.{◌<◌, ◌≤◌, length, rules}
use Rattle.wy_certify.proofs.Numbers.{step_turn, steps_end}
use Rattle.wy_certify.proofs.numbering.TypeNumbers.add_steps.Goals as goal

pub loop-step-preserved : goal.loop-step-preserved
loop-step-preserved c =
    let xs = c.args.steps.now in
    let lt : c.loop-step.step-index < length xs = search rules in
    step_turn xs c.loop-step.step-index c.step-item.result lt c.step-item.is c.loop-step.self c.add_given.new.self _ c.loop-step.invariant c.in_ok-add_given.ensures

pub returns : goal.returns
returns c =
    let short : length c.args.steps.now ≤ c.loop-step.step-index = search rules in
    steps_end c.args.steps.now c.loop-step.step-index short c.loop-step.self _ c.loop-step.invariant
