use Rattle.std.proofs.Common.{List, ◌++◌, map, drop, ap}
use Rattle.wy_effects.proofs.Walks.{drop_none}
use Rattle.wy_proving.specs.Certified.{Pair}
use Rattle.wy_proving.specs.Written.{sub_pairs}
use Rattle.wy_certify.specs.declared.step.Step.{Step}
use Rattle.wy_certify.specs.Pair.{pair_of}
use Rattle.wy_certify.specs.Step.{step_of, steps_of}
use Rattle.wy_certify.proofs.RulesAsked.{added_all}
use Rattle.wy_certify.proofs.asking.Asking.add_subs.Goals as goal

pub returns : goal.returns
unfolding steps_of
returns c =
    let steps : List Step = c.args.steps.now in
    let left : List Pair = sub_pairs (map step_of (drop c.loop-step.step-index steps)) in
    let none = ap (λ (l : List Step). sub_pairs (map step_of l)) (drop_none steps c.loop-step.step-index c.loop-step-test.false) in
    added_all (map pair_of c.loop-step.out) (map pair_of c.args.out.now ++ sub_pairs (map step_of steps)) left none c.loop-step.invariant
