use mir.Val.{SFits}
use Rattle.std.proofs.Common.{◌≡◌, ◌<◌, ◌≤◌, length, drop, Ok, sym, ap, ap₂, ◌∙◌, subst, rules}
use Rattle.std.proofs.lemmas.Int.{to_z-of_z}
use Rattle.std.specs.Int.{w64}
use Rattle.wy_code.specs.Stores.{Int}
use Rattle.wy_machine.specs.Computing.{computed_meant}
use Rattle.wy_machine.specs.Stacks.{pushed, with_operands}
use Rattle.wy_machine.specs.OpenBodies.{StackState}
use Rattle.wy_machine.specs.Steps.{IsStep}
use Rattle.wy_machine.proofs.OperatorSteps.{operating, given_there, number_step, truth_step, trap_step, text_step, crowded_step, no_misfit}
use Rattle.wy_machine.proofs.Acts.{no_tapes}
use Rattle.wy_machine.proofs.Quiet.{step_to, wants_when, wants_taken}
use Rattle.wy_machine.proofs.TextBuilders.{only_builders}
use Rattle.wy_machine.proofs.building.operate.Goals as goal

pub computed-requires : goal.computed-requires
computed-requires c = given_there c.args.code.now c.args.place c.args.machine.now.stack c.args.machine.now.store c.args.operator c.requires

pub give-requires-clause-there : goal.give-requires-clause-there
give-requires-clause-there c =
    let le = given_there c.args.code.now c.args.place c.args.machine.now.stack c.args.machine.now.store c.args.operator c.requires in
    subst (λ n. n ≤ length c.args.machine.now.stack.running.operands) (sym c.operand_count-count.ensures) le

pub give-requires-in-Truth-clause-there : goal.give-requires-in-Truth-clause-there
give-requires-in-Truth-clause-there c =
    let le = given_there c.args.code.now c.args.place c.args.machine.now.stack c.args.machine.now.store c.args.operator c.requires in
    subst (λ n. n ≤ length c.args.machine.now.stack.running.operands) (sym c.operand_count-count.ensures) le

pub give-requires-then-built-lt-MOST_TEXTS-clause-there : goal.give-requires-then-built-lt-MOST_TEXTS-clause-there
give-requires-then-built-lt-MOST_TEXTS-clause-there c =
    let le = given_there c.args.code.now c.args.place c.args.machine.now.stack c.args.machine.now.store c.args.operator c.requires in
    subst (λ n. n ≤ length c.args.machine.now.stack.running.operands) (sym c.operand_count-count.ensures) le

pub returns-in-Number-clause-step : goal.returns-in-Number-clause-step
returns-in-Number-clause-step c = λ d.
    let m = c.args.machine.now in
    let fits : SFits w64 c.in-Number.number = search rules in
    let word : c.new.result ≡ Int c.in-Number.number = c.new.ensures ∙ ap Int (to_z-of_z w64 c.in-Number.number fits) in
    let given = c.give.ensures ∙ ap₂ (λ v n. pushed v (with_operands (drop n m.stack.running.operands) m.stack)) word c.operand_count-count.ensures in
    subst (λ (s : StackState). IsStep c.args.code.now s m.store (operating c.args.code.now c.args.place m.stack m.store c.args.operator) d d (Ok tt)) (sym given)
    (number_step c.args.code.now c.args.place m.stack m.store c.args.operator c.requires d c.in-Number.number (λ t. sym (ap computed_meant c.in-Number.is) ∙ c.in_ok-number.ensures.gives t))

pub returns-in-Truth-clause-step : goal.returns-in-Truth-clause-step
returns-in-Truth-clause-step c = λ d.
    let m = c.args.machine.now in
    let given = c.give-in-Truth.ensures ∙ ap₂ (λ v n. pushed v (with_operands (drop n m.stack.running.operands) m.stack)) c.new-in-Truth.ensures c.operand_count-count.ensures in
    subst (λ (s : StackState). IsStep c.args.code.now s m.store (operating c.args.code.now c.args.place m.stack m.store c.args.operator) d d (Ok tt)) (sym given)
    (truth_step c.args.code.now c.args.place m.stack m.store c.args.operator c.requires d c.in-Truth.truth (λ t. sym (ap computed_meant c.in-Truth.is) ∙ c.in_ok-number.ensures.gives t))

pub returns-in_err-word-in-Text-clause-step : goal.returns-in_err-word-in-Text-clause-step
returns-in_err-word-in-Text-clause-step c = λ d. wants_when c.args.code.now _ _ _ d _ c.from_residual-in_err-word-in-Text.ensures.1

pub returns-in_ok-word-in-Text-clause-step : goal.returns-in_ok-word-in-Text-clause-step
returns-in_ok-word-in-Text-clause-step c = λ d.
    let m = c.args.machine.now in
    let given = c.give-then-built-lt-MOST_TEXTS.ensures ∙ ap₂ (λ v n. pushed v (with_operands (drop n m.stack.running.operands) m.stack)) c.in_ok-word-in-Text.ensures.word c.operand_count-count.ensures in
    let few = subst (λ n. n < 4194304) c.built.ensures c.if-built-lt-MOST_TEXTS.true in
    step_to c.args.code.now _ _ _ _ _ d d _ given c.in_ok-word-in-Text.ensures.added
    (text_step c.args.code.now c.args.place m.stack m.store c.args.operator c.requires d c.in-Text.text (λ t. sym (ap computed_meant c.in-Text.is) ∙ c.in_ok-number.ensures.gives t) few)

pub returns-else-built-lt-MOST_TEXTS-clause-step : goal.returns-else-built-lt-MOST_TEXTS-clause-step
returns-else-built-lt-MOST_TEXTS-clause-step c = λ d.
    let many = subst (λ n. 4194304 ≤ n) c.built.ensures c.if-built-lt-MOST_TEXTS.false in
    crowded_step c.args.code.now c.args.place c.args.machine.now.stack c.args.machine.now.store c.args.operator c.requires d c.in-Text.text (λ t. sym (ap computed_meant c.in-Text.is) ∙ c.in_ok-number.ensures.gives t) many _ _

pub returns-in-Trap-clause-step : goal.returns-in-Trap-clause-step
returns-in-Trap-clause-step c = λ d.
    trap_step c.args.code.now c.args.place c.args.machine.now.stack c.args.machine.now.store c.args.operator c.requires d c.in-Trap.kind (λ t. sym (ap computed_meant c.in-Trap.is) ∙ c.in_ok-number.ensures.gives t) _ _

pub unreachable-requires : goal.unreachable-requires
unreachable-requires c =
    no_misfit c.args.code.now c.args.place c.args.machine.now.stack c.args.machine.now.store c.args.operator c.requires (λ t. sym (ap computed_meant c.in-Misfit.is) ∙ c.in_ok-number.ensures.gives t)

pub returns-in_err-number-clause-wants : goal.returns-in_err-number-clause-wants
returns-in_err-number-clause-wants c = wants_taken _ _ c.in_err-number.ensures.wants

pub returns-in_err-word-in-Text-clause-wants : goal.returns-in_err-word-in-Text-clause-wants
returns-in_err-word-in-Text-clause-wants c =
    let m = c.args.machine.now in
    wants_taken _ _ (only_builders c.args.operator _ c.in-Text.text (sym (ap computed_meant c.in-Text.is) ∙ c.in_ok-number.ensures.gives no_tapes))
