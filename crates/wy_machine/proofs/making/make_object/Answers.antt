use Rattle.std.proofs.Common.{ℕ, ◌+◌, ◌<◌, ◌≤◌, drop, sym, ap, ap₂, ◌∙◌, subst}
use Rattle.wy_code.specs.Stores.{Object, Thing}
use Rattle.wy_machine.specs.Stacks.{words_in, pushed, with_operands}
use Rattle.wy_machine.specs.OpenBodies.{StackState}
use Rattle.wy_machine.specs.StoreStates.{with_object}
use Rattle.wy_machine.specs.StoreState.{StoreState}
use Rattle.wy_machine.proofs.Loads.{room_left}
use Rattle.wy_machine.proofs.ObjectSteps.{captures_there, fields_there, make_step, make_room, crowd_step}
use Rattle.wy_machine.proofs.Quiet.{step_to, wants_when}
use Rattle.wy_machine.proofs.making.make_object.Goals as goal

pub values_of-requires-clause-captures : goal.values_of-requires-clause-captures
values_of-requires-clause-captures c =
    captures_there c.args.code.now c.args.place c.args.machine.now.stack c.args.machine.now.store c.args.literal c.args.kind.now c.requires.here c.requires.sound

pub values_of-requires-clause-fields : goal.values_of-requires-clause-fields
values_of-requires-clause-fields c =
    fields_there c.args.code.now c.args.place c.args.machine.now.stack c.args.machine.now.store c.args.literal c.args.kind.now c.requires.here c.requires.sound

pub drop_operands-requires : goal.drop_operands-requires
drop_operands-requires c =
    fields_there c.args.code.now c.args.place c.args.machine.now.stack c.args.machine.now.store c.args.literal c.args.kind.now c.requires.here c.requires.sound

pub returns-in_err-make_object-clause-step : goal.returns-in_err-make_object-clause-step
returns-in_err-make_object-clause-step c = λ d. wants_when c.args.code.now _ _ _ d _ c.from_residual-in_err-make_object.ensures.1

pub returns-else-made-lt-MOST_OBJECTS-clause-step : goal.returns-else-made-lt-MOST_OBJECTS-clause-step
returns-else-made-lt-MOST_OBJECTS-clause-step c = λ d.
    let m = c.args.machine.now in
    let many = subst (λ n. 4194304 ≤ n) c.made.ensures c.if-made-lt-MOST_OBJECTS.false in
    crowd_step c.args.code.now c.args.place m.stack m.store c.args.literal c.args.kind.now c.requires.here c.requires.sound c.in_ok-values.values.items c.in_ok-values.ensures many _ _ d

pub returns-in_ok-make_object-clause-step : goal.returns-in_ok-make_object-clause-step
returns-in_ok-make_object-clause-step c = λ d.
    let m = c.args.machine.now in
    let few = subst (λ n. n < 4194304) c.made.ensures c.if-made-lt-MOST_OBJECTS.true in
    let stack = c.push.ensures ∙ ap₂ pushed (c.new.ensures ∙ ap Object c.in_ok-number.ensures) c.drop_operands.ensures in
    let with_instance = λ (i : ℕ). let t : Thing = record { instance = i; literal = c.args.literal; values = c.in_ok-values.values.items } in t in
    let store = c.in_ok-make_object.ensures.made
    ∙ ap (λ (o : Thing). let v : StoreState = record (with_object o m.store) { made = m.store.made + 1 } in v) (c.new-object.ensures ∙ ap with_instance c.instance.ensures)
    in
    step_to c.args.code.now _ _ _ _ _ d d _ stack store
    (make_step c.args.code.now c.args.place m.stack m.store c.args.literal c.args.kind.now c.requires.here c.requires.sound c.in_ok-values.values.items c.in_ok-values.ensures few d)

pub push-requires : goal.push-requires
push-requires c =
    let m = c.args.machine.now in
    let few = subst (λ n. n < 4194304) c.made.ensures c.if-made-lt-MOST_OBJECTS.true in
    let after = with_operands (drop c.args.kind.now.fields m.stack.running.operands) m.stack in
    subst (λ (s : StackState). words_in s < s.limits.words) (sym c.drop_operands.ensures)
    (room_left c.args.code.now after m.store.first c.requires.loaded
    (make_room c.args.code.now c.args.place m.stack m.store c.args.literal c.args.kind.now c.requires.here c.requires.sound c.in_ok-values.values.items c.in_ok-values.ensures few))
