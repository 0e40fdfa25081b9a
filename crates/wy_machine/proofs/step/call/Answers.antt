use Rattle.std.proofs.Common.{◌≤◌, Option, Some, Err, sym, ap, ap₂, ◌∙◌, subst}
use Rattle.wy_code.specs.declared.instruction.Instruction.TheVariants.{Call}
use Rattle.wy_code.specs.Stores.{Word}
use Rattle.wy_machine.specs.declared.run_end.RunEnd.TheVariants.{TooDeep}
use Rattle.wy_machine.specs.Devices.{states}
use Rattle.wy_machine.specs.Observing.{IsObserved}
use Rattle.wy_machine.specs.Steps.{acting, outcome}
use Rattle.wy_machine.specs.Wanting.{is_grant}
use Rattle.wy_machine.proofs.CallSteps.{IsUncalled, receiver_there, not_called, too_deep_step}
use Rattle.wy_machine.proofs.Showings.{Enter, shows_call, events_are}
use Rattle.wy_machine.proofs.Telling.{told_none, told_entry, observed_so}
use Rattle.wy_machine.proofs.step.call.Goals as goal

pub operand-requires : goal.operand-requires
operand-requires g c = receiver_there c.args.code.now c.args.depth c.args.place.now c.args.machine.now.stack c.args.machine.now.store c.args.method c.args.count c.requires.sound

pub unreachable-requires : goal.unreachable-requires
unreachable-requires g c = not_called c.args.code.now c.args.depth c.args.place.now c.args.machine.now.stack c.args.machine.now.store c.args.method c.args.count c.operand.result (subst (IsUncalled c.args.code.now c.args.depth c.args.place.now c.args.machine.now.stack c.args.machine.now.store c.args.method c.args.count) (sym c.in-Int.ensures) tt) c.operand.ensures c.requires.sound

pub unreachable-requires-in-Truth : goal.unreachable-requires-in-Truth
unreachable-requires-in-Truth g c = not_called c.args.code.now c.args.depth c.args.place.now c.args.machine.now.stack c.args.machine.now.store c.args.method c.args.count c.operand.result (subst (IsUncalled c.args.code.now c.args.depth c.args.place.now c.args.machine.now.stack c.args.machine.now.store c.args.method c.args.count) (sym c.in-Truth.ensures) tt) c.operand.ensures c.requires.sound

pub unreachable-requires-in-Unit : goal.unreachable-requires-in-Unit
unreachable-requires-in-Unit g c = not_called c.args.code.now c.args.depth c.args.place.now c.args.machine.now.stack c.args.machine.now.store c.args.method c.args.count c.operand.result (subst (IsUncalled c.args.code.now c.args.depth c.args.place.now c.args.machine.now.stack c.args.machine.now.store c.args.method c.args.count) (sym c.in-Unit.ensures) tt) c.operand.ensures c.requires.sound

pub unreachable-requires-in-Text : goal.unreachable-requires-in-Text
unreachable-requires-in-Text g c = not_called c.args.code.now c.args.depth c.args.place.now c.args.machine.now.stack c.args.machine.now.store c.args.method c.args.count c.operand.result (subst (IsUncalled c.args.code.now c.args.depth c.args.place.now c.args.machine.now.stack c.args.machine.now.store c.args.method c.args.count) (sym c.in-Text.ensures) tt) c.operand.ensures c.requires.sound

pub returns-then-waiting-depth-clause-step : goal.returns-then-waiting-depth-clause-step
returns-then-waiting-depth-clause-step g c =
    told_entry g.W.Observer.hears c.args.code.now c.args.machine.now.stack.running.instance _ _ _ _ _ _
    (shows_call c.args.code.now c.args.depth c.args.place.now c.args.machine.now.stack c.args.machine.now.store c.args.method c.args.count c.in-Object.object (c.operand.ensures ∙ ap Some c.in-Object.ensures))
    (c.enter.ensures.step (states g.D.Device.state c.args.devices.now)) c.instance.result c.body.result c.instance.ensures c.body.ensures _ _ _ c.entered.ensures

pub returns-else-waiting-depth-clause-step : goal.returns-else-waiting-depth-clause-step
returns-else-waiting-depth-clause-step g c =
    let m = c.args.machine.now in
    let many = subst (λ n. c.args.depth ≤ n) c.waiting.ensures c.if-waiting-depth.false in
    let d = states g.D.Device.state c.args.devices.now in
    let receiver = c.operand.ensures ∙ ap Some c.in-Object.ensures in
    let h = too_deep_step c.args.code.now c.args.depth c.args.place.now m.stack m.store c.args.method c.args.count c.in-Object.object receiver many m.stack m.store d in
    observed_so g.W.Observer.hears c.args.code.now m.stack.running.instance _ _ _ _ _ _ _ _ _ _ (ap₂ outcome c.end_too_deep.ensures.stops c.end_too_deep.ensures.deep)
    (told_none g.W.Observer.hears c.args.code.now m.stack.running.instance _ _ _ _ _ _ c.args.observer.now (Err TooDeep) h
    (events_are c.args.code.now m.stack m.store _ d d Enter (shows_call c.args.code.now c.args.depth c.args.place.now m.stack m.store c.args.method c.args.count c.in-Object.object receiver) (Err TooDeep) h) tt)

pub returns-in-Grant-clause-step : goal.returns-in-Grant-clause-step
returns-in-Grant-clause-step g c =
    let m = c.args.machine.now in
    subst (λ (o : Option Word). IsObserved g.W.Observer.hears c.args.code.now m.stack.running.instance c.perform_or_end.new.machine.stack c.perform_or_end.new.machine.store (acting c.args.code.now c.args.depth c.args.place.now m.stack m.store (Call c.args.method c.args.count)) (is_grant o)
    (states g.D.Device.state c.args.devices.now) (states g.D.Device.state c.perform_or_end.new.devices) c.args.observer.now c.perform_or_end.new.observer (outcome c.perform_or_end.result c.perform_or_end.new.end)) (sym (c.operand.ensures ∙ ap Some c.in-Grant.ensures))
    c.perform_or_end.ensures.step
