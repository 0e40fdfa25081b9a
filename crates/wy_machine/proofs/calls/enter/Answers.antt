use Rattle.std.proofs.Common.{refl, sym, ap, ◌∙◌, arith}
use Rattle.wy_machine.specs.Stacks.{entered}
use Rattle.wy_machine.proofs.CallSteps.{receiver_there, thing_there, method_there, body_there, as_many, enter_step}
use Rattle.wy_machine.proofs.Loads.{room_at_first}
use Rattle.wy_machine.proofs.Quiet.{step_to}
use Rattle.wy_machine.proofs.calls.enter.Goals as goal

pub returns-clause-step : goal.returns-clause-step
returns-clause-step c = λ d.
    let m = c.args.machine.now in
    let thing = c.in-Some.thing.now in
    let number = c.in-Some-method_body.number in
    let body = c.in-Some-get.body.now in
    step_to c.args.code.now _ _ _ _ _ d d _ (c.enter.ensures ∙ ap (λ i. entered i number c.args.count body.vals m.stack) c.instance-instance.ensures) refl
    (enter_step c.args.code.now c.args.depth c.args.place m.stack m.store c.args.method c.args.count c.args.object c.requires.receiver c.requires.few thing (sym c.in-Some.ensures) number (sym c.in-Some-method_body.ensures) body (sym c.in-Some-get.ensures) c.requires.sound d)

pub unreachable-requires : goal.unreachable-requires
unreachable-requires c =
    let m = c.args.machine.now in
    body_there c.args.code.now c.args.depth c.args.place m.stack m.store c.args.method c.args.count c.args.object c.requires.receiver c.requires.few c.in-Some.thing.now (sym c.in-Some.ensures) c.in-Some-method_body.number (sym c.in-Some-method_body.ensures) c.requires.sound (sym c.in-None-get.ensures)

pub unreachable-requires-in-None-method_body : goal.unreachable-requires-in-None-method_body
unreachable-requires-in-None-method_body c =
    let m = c.args.machine.now in
    method_there c.args.code.now c.args.depth c.args.place m.stack m.store c.args.method c.args.count c.args.object c.requires.receiver c.requires.few c.in-Some.thing.now (sym c.in-Some.ensures) c.requires.sound (sym c.in-None-method_body.ensures)

pub unreachable-requires-in-None : goal.unreachable-requires-in-None
unreachable-requires-in-None c =
    let m = c.args.machine.now in
    thing_there c.args.code.now c.args.depth c.args.place m.stack m.store c.args.method c.args.count c.args.object c.requires.receiver c.requires.few c.requires.sound (sym c.in-None.ensures)

pub enter-requires-clause-there : goal.enter-requires-clause-there
enter-requires-clause-there c =
    let m = c.args.machine.now in
    receiver_there c.args.code.now c.args.depth c.args.place m.stack m.store c.args.method c.args.count c.requires.sound

pub enter-requires-clause-room : goal.enter-requires-clause-room
enter-requires-clause-room c =
    let m = c.args.machine.now in
    let body = c.in-Some-get.body.now in
    let here = sym c.in-Some-get.ensures in
    let many = as_many c.args.code.now c.args.depth c.args.place m.stack m.store c.args.method c.args.count c.args.object c.requires.receiver c.requires.few c.in-Some.thing.now (sym c.in-Some.ensures) c.in-Some-method_body.number (sym c.in-Some-method_body.ensures) body here c.requires.sound in
    let room = room_at_first c.args.code.now m.stack.limits m.store.first c.requires.loaded c.in-Some-method_body.number body here in
    omega (arith, many, room)
