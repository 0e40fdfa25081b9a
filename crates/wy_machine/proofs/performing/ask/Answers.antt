use Rattle.std.proofs.Common.{ℕ, List, [], true, Option, Err, Some, None, refl, ap, sym, ◌∙◌, subst}
use Rattle.std.proofs.lemmas.Option.{slice_get_within}
use Rattle.wy_code.specs.Operations.{deed_event}
use Rattle.wy_code.specs.Stores.{Grant}
use Rattle.wy_device.specs.declared.deed.Deed.{Deed as DeedRecord}
use Rattle.wy_device.specs.declared.operation.Answer.{Answer}
use Rattle.wy_device.specs.declared.operation.Op.{Op}
use Rattle.wy_device.specs.Device.{IsAnswerNamed}
use Rattle.wy_machine.specs.declared.run_end.RunEnd.TheVariants.{Memory}
use Rattle.wy_machine.specs.Devices.{states}
use Rattle.wy_machine.specs.Observing.{EndsByFailure}
use Rattle.wy_machine.proofs.DeedSteps.{room_there, failed_step, reply_step, received_is, place_there, answer_received}
use Rattle.wy_machine.proofs.Quiet.{no_events, same_devices, did_quietly}
use Rattle.wy_machine.proofs.Telling.{told_wanting, told_deed, told_ending, observed_to}
use Rattle.wy_machine.proofs.performing.ask.Goals as goal

abbrev deed : List ℕ → Op → Option Answer → DeedRecord
deed grant op answer = record { grant = grant; op = op; answer = answer }

pub returns-in_err-text-clause-step : goal.returns-in_err-text-clause-step
returns-in_err-text-clause-step g c = told_wanting g.W.Observer.hears c.args.code.now c.args.machine.now.stack.running.instance _ _ _ _ _ _ c.args.observer.now _ refl c.from_residual.ensures.1 (did_quietly (states g.D.Device.state c.args.devices.now) [] no_events) (same_devices (states g.D.Device.state c.args.devices.now))

pub returns-in_err-name-clause-step : goal.returns-in_err-name-clause-step
returns-in_err-name-clause-step g c = told_wanting g.W.Observer.hears c.args.code.now c.args.machine.now.stack.running.instance _ _ _ _ _ _ c.args.observer.now _ refl c.from_residual-in_err-name.ensures.1 (did_quietly (states g.D.Device.state c.args.devices.now) [] no_events) (same_devices (states g.D.Device.state c.args.devices.now))

pub tell_and_receive-requires-clause-place : goal.tell_and_receive-requires-clause-place
tell_and_receive-requires-clause-place g c = place_there c.args.code.now c.args.machine.now.store _ _ _ c.in_ok-text.ensures.made

pub tell_and_receive-requires-clause-there : goal.tell_and_receive-requires-clause-there
tell_and_receive-requires-clause-there g c =
    let r = c.requires.request in
    slice_get_within c.args.machine.now.stack.running.operands c.args.count (Grant r.number) r.receiver

pub tell_and_receive-requires-clause-fits : goal.tell_and_receive-requires-clause-fits
tell_and_receive-requires-clause-fits g c =
    answer_received c.args.code.now c.args.machine.now.store _ c.name.result _ c.in_ok-text.ensures.made c.in-Ok.answer
    (subst (λ o. IsAnswerNamed o c.in-Ok.answer) (sym c.name.ensures) c.in-Ok.ensures.answer)

pub returns-in-Ok-clause-step : goal.returns-in-Ok-clause-step
returns-in-Ok-clause-step g c =
    let m = c.args.machine.now in
    let r = c.requires.request in
    let old = states g.D.Device.state c.args.devices.now in
    let new = states g.D.Device.state c.ask.new.self in
    let got = c.tell_and_receive.ensures.received in
    let h = reply_step c.args.code.now c.args.depth c.args.place m.stack m.store c.args.method c.args.count r.number r.receiver c.args.grant.now r.granted r.method r.named c.args.op.now r.asked c.requires.good (room_there c.args.code.now c.args.depth c.args.place m.stack m.store c.args.method c.args.count r.number r.receiver c.args.grant.now r.granted r.method r.named c.args.op.now r.asked c.requires.good c.requires.room) old new c.ask.ensures.same c.requires.sound c.in-Ok.answer c.in-Ok.ensures.answer c.in-Ok.ensures.done got.word _
    (λ more. received_is c.args.code.now m.store _ _ _ c.in_ok-text.ensures.made c.in-Ok.answer got.word got.given (deed_event c.args.grant.now.name c.args.op.now (Some c.in-Ok.answer)) more)
    in
    observed_to g.W.Observer.hears c.args.code.now m.stack.running.instance _ _ _ _ _ _ old new _ _ _ got.stack got.store
    (told_deed g.W.Observer.hears c.args.code.now m.stack.running.instance _ _ _ _ old new (deed c.args.grant.now.name c.args.op.now (Some c.in-Ok.answer)) h refl _ _ _ c.tell_and_receive.ensures.told)

pub returns-in-Err-Failed-clause-step : goal.returns-in-Err-Failed-clause-step
returns-in-Err-Failed-clause-step g c =
    let m = c.args.machine.now in
    let r = c.requires.request in
    let old = states g.D.Device.state c.args.devices.now in
    let new = states g.D.Device.state c.ask.new.self in
    let failed = c.in-Err-Failed.is ∙ ap Err c.in-Err-Failed.field-0-is in
    let h = failed_step c.args.code.now c.args.depth c.args.place m.stack m.store c.args.method c.args.count r.number r.receiver c.args.grant.now r.granted r.method r.named c.args.op.now r.asked c.requires.good (room_there c.args.code.now c.args.depth c.args.place m.stack m.store c.args.method c.args.count r.number r.receiver c.args.grant.now r.granted r.method r.named c.args.op.now r.asked c.requires.good c.requires.room) old new c.ask.ensures.same (c.ask.ensures.bad failed) (c.ask.ensures.failed failed) _ _ in
    let end = subst (λ name. EndsByFailure g.W.Observer.hears (deed name c.args.op.now None) c.args.observer.now c.tell_and_fail.new.observer c.tell_and_fail.result) c.in_ok-name.ensures c.tell_and_fail.ensures in
    told_ending g.W.Observer.hears c.args.code.now m.stack.running.instance _ _ _ true old new (deed c.args.grant.now.name c.args.op.now None) _ h refl tt c.args.observer.now _ end.own end.heard _ end.ends

pub returns-in-Err-Memory-clause-step : goal.returns-in-Err-Memory-clause-step
returns-in-Err-Memory-clause-step g c =
    told_wanting g.W.Observer.hears c.args.code.now c.args.machine.now.stack.running.instance _ _ _ true _ _ c.args.observer.now (Err Memory) refl refl (c.ask.ensures.none (c.in-Err-Memory.is ∙ ap Err c.in-Err-Memory.field-0-is)) c.ask.ensures.same
