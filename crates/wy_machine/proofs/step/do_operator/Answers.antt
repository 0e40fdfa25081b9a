use Rattle.std.proofs.Common.{◌≤◌, length, drop, refl, sym, ap, ◌∙◌, subst}
use Rattle.wy_machine.specs.Stacks.{pushed, with_operands}
use Rattle.wy_machine.proofs.OperatorSteps.{given_there, plain_step}
use Rattle.wy_machine.proofs.Quiet.{step_to}
use Rattle.wy_machine.proofs.step.do_operator.Goals as goal

pub computed_plainly-requires : goal.computed_plainly-requires
computed_plainly-requires c = given_there c.args.code.now c.args.place.now c.args.machine.now.stack c.args.machine.now.store c.args.operator c.requires

pub give-requires-clause-there : goal.give-requires-clause-there
give-requires-clause-there c =
    let m = c.args.machine.now in
    subst (λ n. n ≤ length m.stack.running.operands) c.in-Some.ensures.0 (given_there c.args.code.now c.args.place.now m.stack m.store c.args.operator c.requires)

pub returns-in-Some-clause-step : goal.returns-in-Some-clause-step
returns-in-Some-clause-step c = λ d.
    let m = c.args.machine.now in
    step_to c.args.code.now _ _ _ _ _ d d _ (c.give.ensures ∙ ap (λ n. pushed c.in-Some.word (with_operands (drop n m.stack.running.operands) m.stack)) (sym c.in-Some.ensures.0)) refl
    (plain_step c.args.code.now c.args.place.now m.stack m.store c.args.operator c.requires d c.in-Some.word c.in-Some.ensures.1)
