use Rattle.std.proofs.Common.{[], Some, length, refl, sym, ap, ◌∙◌}
use Rattle.std.specs.Prelude.{reverse, take}
use Rattle.wy_machine.specs.Devices.{states}
use Rattle.wy_machine.specs.Requesting.{first_text, refused}
use Rattle.wy_machine.specs.States.{store_of}
use Rattle.wy_machine.proofs.Acts.{no_tapes}
use Rattle.wy_machine.proofs.DeedSteps.{asked_of, no_such_texts, refused_at, no_trap}
use Rattle.wy_machine.proofs.Quiet.{no_events, same_devices, did_quietly, traps_none}
use Rattle.wy_machine.proofs.Telling.{told_wanting, told_trap}
use Rattle.wy_machine.proofs.Refusals.{free_is_good, free_has_room}
use Rattle.wy_machine.proofs.performing.request.Goals as goal

pub returns-in_err-op-in-None-clause-step : goal.returns-in_err-op-in-None-clause-step
returns-in_err-op-in-None-clause-step g c = told_wanting g.W.Observer.hears c.args.code.now c.args.machine.now.stack.running.instance _ _ _ _ _ _ c.args.observer.now _ refl c.from_residual.ensures.1 (did_quietly (states g.D.Device.state c.args.devices.now) [] no_events) (same_devices (states g.D.Device.state c.args.devices.now))

pub returns-in_err-op-in-None-clause-traps : goal.returns-in_err-op-in-None-clause-traps
returns-in_err-op-in-None-clause-traps g c =
    let m = c.args.machine.now in
    let r = c.requires.asking in
    traps_none _
    (no_trap c.args.code.now c.args.depth c.args.place m.stack m.store c.args.method c.args.count r.number r.receiver c.args.grant.now r.granted r.method r.named c.args.operation r.called
    (λ t. ap (λ vs. refused c.args.operation (first_text (store_of c.args.code.now m.store t) vs) (length m.store.texts)) (sym c.arguments.ensures) ∙ sym (c.refusal.ensures t) ∙ c.in-None.is) c.requires.sound)
    c.from_residual.result

pub ask-asked-requires-clause-request : goal.ask-asked-requires-clause-request
ask-asked-requires-clause-request g c =
    let m = c.args.machine.now in
    let r = c.requires.asking in
    record {
      number = r.number;
      receiver = r.receiver;
      granted = r.granted;
      method = r.method;
      named = r.named;
      asked = asked_of c.args.code.now c.args.depth c.args.place m.stack m.store c.args.method c.args.count r.number r.receiver c.args.grant.now r.granted r.method r.named c.args.operation r.called (Some c.in-Some-2.op)
          (λ t. sym c.in-Some-2.is ∙ c.in_ok-op-in-None.ensures t);
    }

pub ask-asked-requires-clause-good : goal.ask-asked-requires-clause-good
ask-asked-requires-clause-good g c =
    let m = c.args.machine.now in
    free_is_good c.args.operation (store_of c.args.code.now m.store no_tapes) (reverse (take c.args.count m.stack.running.operands)) c.in-Some-2.op (sym c.in-Some-2.is ∙ c.in_ok-op-in-None.ensures no_tapes)
    (ap (λ vs. refused c.args.operation (first_text (store_of c.args.code.now m.store no_tapes) vs) (length m.store.texts)) (sym c.arguments.ensures) ∙ sym (c.refusal.ensures no_tapes) ∙ c.in-None.is)

pub ask-asked-requires-clause-room : goal.ask-asked-requires-clause-room
ask-asked-requires-clause-room g c =
    let m = c.args.machine.now in
    free_has_room c.args.operation (store_of c.args.code.now m.store no_tapes) (reverse (take c.args.count m.stack.running.operands)) c.in-Some-2.op (sym c.in-Some-2.is ∙ c.in_ok-op-in-None.ensures no_tapes)
    (ap (λ vs. refused c.args.operation (first_text (store_of c.args.code.now m.store no_tapes) vs) (length m.store.texts)) (sym c.arguments.ensures) ∙ sym (c.refusal.ensures no_tapes) ∙ c.in-None.is)

pub unreachable-requires : goal.unreachable-requires
unreachable-requires g c =
    let m = c.args.machine.now in
    let r = c.requires.asking in
    no_such_texts c.args.code.now c.args.depth c.args.place m.stack m.store c.args.method c.args.count r.number r.receiver c.args.grant.now r.granted r.method r.named c.args.operation r.called c.requires.sound
    (λ t. sym c.in-None-2.is ∙ c.in_ok-op-in-None.ensures t)

pub returns-in-Some-clause-step : goal.returns-in-Some-clause-step
returns-in-Some-clause-step g c =
    let m = c.args.machine.now in
    let r = c.requires.asking in
    told_trap g.W.Observer.hears c.args.code.now m.stack.running.instance _ _ _ _ _ _ c.args.observer.now c.in-Some.kind c.args.place
    (refused_at c.args.code.now c.args.depth c.args.place m.stack m.store c.args.method c.args.count r.number r.receiver c.args.grant.now r.granted r.method r.named c.args.operation r.called c.requires.sound c.in-Some.kind
    (λ t. ap (λ vs. refused c.args.operation (first_text (store_of c.args.code.now m.store t) vs) (length m.store.texts)) (sym c.arguments.ensures) ∙ sym (c.refusal.ensures t) ∙ c.in-Some.is))
    (did_quietly (states g.D.Device.state c.args.devices.now) [] no_events) (same_devices (states g.D.Device.state c.args.devices.now))

pub returns-in-Some-2-clause-traps : goal.returns-in-Some-2-clause-traps
returns-in-Some-2-clause-traps g c =
    let m = c.args.machine.now in
    let r = c.requires.asking in
    traps_none _
    (no_trap c.args.code.now c.args.depth c.args.place m.stack m.store c.args.method c.args.count r.number r.receiver c.args.grant.now r.granted r.method r.named c.args.operation r.called
    (λ t. ap (λ vs. refused c.args.operation (first_text (store_of c.args.code.now m.store t) vs) (length m.store.texts)) (sym c.arguments.ensures) ∙ sym (c.refusal.ensures t) ∙ c.in-None.is) c.requires.sound)
    c.ask-asked.result
