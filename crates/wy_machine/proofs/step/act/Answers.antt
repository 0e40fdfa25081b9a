use Rattle.std.proofs.Common.{◌<◌, length, refl, sym, ap, ap₂, ◌∙◌, subst, unwrap_or, arith}
use Rattle.std.specs.Prelude.{slice_get}
use Rattle.wy_machine.specs.Devices.{states}
use Rattle.wy_code.specs.Stores.{Nothing}
use Rattle.wy_code.specs.Machine.{first_of}
use Rattle.wy_machine.specs.Stacks.{pushed, left_to}
use Rattle.wy_machine.specs.OpenBodies.{StackState}
use Rattle.wy_machine.specs.Steps.{acting, outcome, IsNotStuck}
use Rattle.wy_machine.specs.StoreStates.{value_of}
use Rattle.wy_machine.specs.Wanting.{takes_memory, WantsOnly}
use Rattle.wy_machine.proofs.Acts.{some_is, some_within, step_of, push_step, slot_there, load_step, store_operand, store_slot_there, store_step, value_there, get_step, drop_operand, drop_step, jump_step, jump_operand, truth_there, jump_false_step, return_operand, caller_there, return_step, push_room, load_room, get_room, set_operand, set_value_there, set_step}
use Rattle.wy_machine.proofs.Loads.{room_left}
use Rattle.wy_machine.proofs.Quiet.{step_to, wants_any}
use Rattle.wy_machine.proofs.Showings.{shows_return}
use Rattle.wy_machine.proofs.Telling.{told_leave, silently, instruction_observed}
use Rattle.wy_machine.proofs.step.act.Goals as goal

pub load-requires-clause-slot : goal.load-requires-clause-slot
load-requires-clause-slot g c = slot_there c.args.code.now c.args.depth c.args.placed.now.place c.args.machine.now.stack c.args.machine.now.store c.in-Load.slot (subst (λ i. IsNotStuck (acting c.args.code.now c.args.depth c.args.placed.now.place c.args.machine.now.stack c.args.machine.now.store i)) c.in-Load.is c.requires.sound)

pub store-requires-clause-operand : goal.store-requires-clause-operand
store-requires-clause-operand g c = store_operand c.args.code.now c.args.depth c.args.placed.now.place c.args.machine.now.stack c.args.machine.now.store c.in-Store.slot (subst (λ i. IsNotStuck (acting c.args.code.now c.args.depth c.args.placed.now.place c.args.machine.now.stack c.args.machine.now.store i)) c.in-Store.is c.requires.sound)

pub store-requires-clause-slot : goal.store-requires-clause-slot
store-requires-clause-slot g c = store_slot_there c.args.code.now c.args.depth c.args.placed.now.place c.args.machine.now.stack c.args.machine.now.store c.in-Store.slot (subst (λ i. IsNotStuck (acting c.args.code.now c.args.depth c.args.placed.now.place c.args.machine.now.stack c.args.machine.now.store i)) c.in-Store.is c.requires.sound)

pub get-requires-clause-value : goal.get-requires-clause-value
get-requires-clause-value g c = value_there c.args.code.now c.args.depth c.args.placed.now.place c.args.machine.now.stack c.args.machine.now.store c.in-Get.at (subst (λ i. IsNotStuck (acting c.args.code.now c.args.depth c.args.placed.now.place c.args.machine.now.stack c.args.machine.now.store i)) c.in-Get.is c.requires.sound)

pub set-requires-clause-operand : goal.set-requires-clause-operand
set-requires-clause-operand g c = set_operand c.args.code.now c.args.depth c.args.placed.now.place c.args.machine.now.stack c.args.machine.now.store c.in-Set.at (subst (λ i. IsNotStuck (acting c.args.code.now c.args.depth c.args.placed.now.place c.args.machine.now.stack c.args.machine.now.store i)) c.in-Set.is c.requires.sound)

pub set-requires-clause-value : goal.set-requires-clause-value
set-requires-clause-value g c = set_value_there c.args.code.now c.args.depth c.args.placed.now.place c.args.machine.now.stack c.args.machine.now.store c.in-Set.at (subst (λ i. IsNotStuck (acting c.args.code.now c.args.depth c.args.placed.now.place c.args.machine.now.stack c.args.machine.now.store i)) c.in-Set.is c.requires.sound)

pub drop_operands-requires : goal.drop_operands-requires
drop_operands-requires g c = let some = drop_operand c.args.code.now c.args.depth c.args.placed.now.place c.args.machine.now.stack c.args.machine.now.store (subst (λ i. IsNotStuck (acting c.args.code.now c.args.depth c.args.placed.now.place c.args.machine.now.stack c.args.machine.now.store i)) c.in-Drop.is c.requires.sound) in omega arith

pub do_operator-requires : goal.do_operator-requires
do_operator-requires g c = (subst (λ i. IsNotStuck (acting c.args.code.now c.args.depth c.args.placed.now.place c.args.machine.now.stack c.args.machine.now.store i)) c.in-Op.is c.requires.sound)

pub jump_false-requires-clause-operand : goal.jump_false-requires-clause-operand
jump_false-requires-clause-operand g c = jump_operand c.args.code.now c.args.depth c.args.placed.now.place c.args.machine.now.stack c.args.machine.now.store c.in-JumpFalse.to (subst (λ i. IsNotStuck (acting c.args.code.now c.args.depth c.args.placed.now.place c.args.machine.now.stack c.args.machine.now.store i)) c.in-JumpFalse.is c.requires.sound)

pub jump_false-requires-clause-truth : goal.jump_false-requires-clause-truth
jump_false-requires-clause-truth g c = truth_there c.args.code.now c.args.depth c.args.placed.now.place c.args.machine.now.stack c.args.machine.now.store c.in-JumpFalse.to (subst (λ i. IsNotStuck (acting c.args.code.now c.args.depth c.args.placed.now.place c.args.machine.now.stack c.args.machine.now.store i)) c.in-JumpFalse.is c.requires.sound)

pub make_or_end-requires-clause-sound : goal.make_or_end-requires-clause-sound
make_or_end-requires-clause-sound g c = (subst (λ i. IsNotStuck (acting c.args.code.now c.args.depth c.args.placed.now.place c.args.machine.now.stack c.args.machine.now.store i)) c.in-New.is c.requires.sound)

pub pop-word-requires : goal.pop-word-requires
pop-word-requires g c = return_operand c.args.code.now c.args.depth c.args.placed.now.place c.args.machine.now.stack c.args.machine.now.store (subst (λ i. IsNotStuck (acting c.args.code.now c.args.depth c.args.placed.now.place c.args.machine.now.stack c.args.machine.now.store i)) c.in-Return.is c.requires.sound)

pub leave-requires : goal.leave-requires
leave-requires g c = subst (λ (s : StackState). 0 < length s.callers) (sym c.pop-word.ensures.rest) (caller_there c.args.code.now c.args.depth c.args.placed.now.place c.args.machine.now.stack c.args.machine.now.store (subst (λ i. IsNotStuck (acting c.args.code.now c.args.depth c.args.placed.now.place c.args.machine.now.stack c.args.machine.now.store i)) c.in-Return.is c.requires.sound))

pub finish_or_end-requires-clause-sound : goal.finish_or_end-requires-clause-sound
finish_or_end-requires-clause-sound g c = (subst (λ i. IsNotStuck (acting c.args.code.now c.args.depth c.args.placed.now.place c.args.machine.now.stack c.args.machine.now.store i)) c.in-Finish.is c.requires.sound)

pub returns-in-Push-clause-step : goal.returns-in-Push-clause-step
returns-in-Push-clause-step g c = silently g.W.Observer.hears c.args.code.now c.args.machine.now.stack.running.instance c.args.depth c.args.placed.now.place c.args.machine.now.stack _ c.args.machine.now.store _ _ _ c.in-Push.is tt _ _ _ _
    (step_of c.args.code.now c.args.depth c.args.placed.now.place c.args.machine.now.stack _ c.args.machine.now.store _ _ _ _ _ _ c.in-Push.is
    (step_to c.args.code.now _ _ _ _ _ _ _ _ (c.push.ensures ∙ ap (λ v. pushed v c.args.machine.now.stack) c.constant_word.ensures) refl
    (push_step c.args.code.now c.args.depth c.args.placed.now.place c.args.machine.now.stack c.args.machine.now.store c.in-Push.constant (subst (λ i. IsNotStuck (acting c.args.code.now c.args.depth c.args.placed.now.place c.args.machine.now.stack c.args.machine.now.store i)) c.in-Push.is c.requires.sound) (states g.D.Device.state c.args.devices.now))))
    tt c.args.observer.now

pub returns-in-Load-clause-step : goal.returns-in-Load-clause-step
returns-in-Load-clause-step g c = silently g.W.Observer.hears c.args.code.now c.args.machine.now.stack.running.instance c.args.depth c.args.placed.now.place c.args.machine.now.stack _ c.args.machine.now.store _ _ _ c.in-Load.is tt _ _ _ _
    (step_of c.args.code.now c.args.depth c.args.placed.now.place c.args.machine.now.stack _ c.args.machine.now.store _ _ _ _ _ _ c.in-Load.is
    (step_to c.args.code.now _ _ _ _ _ _ _ _ c.load.ensures refl
    (load_step c.args.code.now c.args.depth c.args.placed.now.place c.args.machine.now.stack c.args.machine.now.store c.in-Load.slot (unwrap_or (slice_get c.args.machine.now.stack.running.slots c.in-Load.slot) Nothing) (some_is (slice_get c.args.machine.now.stack.running.slots c.in-Load.slot) Nothing (some_within c.args.machine.now.stack.running.slots c.in-Load.slot (slot_there c.args.code.now c.args.depth c.args.placed.now.place c.args.machine.now.stack c.args.machine.now.store c.in-Load.slot (subst (λ i. IsNotStuck (acting c.args.code.now c.args.depth c.args.placed.now.place c.args.machine.now.stack c.args.machine.now.store i)) c.in-Load.is c.requires.sound)))) (subst (λ i. IsNotStuck (acting c.args.code.now c.args.depth c.args.placed.now.place c.args.machine.now.stack c.args.machine.now.store i)) c.in-Load.is c.requires.sound) (states g.D.Device.state c.args.devices.now))))
    tt c.args.observer.now

pub returns-in-Store-clause-step : goal.returns-in-Store-clause-step
returns-in-Store-clause-step g c = silently g.W.Observer.hears c.args.code.now c.args.machine.now.stack.running.instance c.args.depth c.args.placed.now.place c.args.machine.now.stack _ c.args.machine.now.store _ _ _ c.in-Store.is tt _ _ _ _
    (step_of c.args.code.now c.args.depth c.args.placed.now.place c.args.machine.now.stack _ c.args.machine.now.store _ _ _ _ _ _ c.in-Store.is
    (step_to c.args.code.now _ _ _ _ _ _ _ _ c.store.ensures refl
    (store_step c.args.code.now c.args.depth c.args.placed.now.place c.args.machine.now.stack c.args.machine.now.store c.in-Store.slot (subst (λ i. IsNotStuck (acting c.args.code.now c.args.depth c.args.placed.now.place c.args.machine.now.stack c.args.machine.now.store i)) c.in-Store.is c.requires.sound) (states g.D.Device.state c.args.devices.now))))
    tt c.args.observer.now

pub returns-in-Get-clause-step : goal.returns-in-Get-clause-step
returns-in-Get-clause-step g c = silently g.W.Observer.hears c.args.code.now c.args.machine.now.stack.running.instance c.args.depth c.args.placed.now.place c.args.machine.now.stack _ c.args.machine.now.store _ _ _ c.in-Get.is tt _ _ _ _
    (step_of c.args.code.now c.args.depth c.args.placed.now.place c.args.machine.now.stack _ c.args.machine.now.store _ _ _ _ _ _ c.in-Get.is
    (step_to c.args.code.now _ _ _ _ _ _ _ _ c.get.ensures.pushed c.get.ensures.same
    (get_step c.args.code.now c.args.depth c.args.placed.now.place c.args.machine.now.stack c.args.machine.now.store c.in-Get.at (unwrap_or (value_of c.args.machine.now.store (first_of c.args.machine.now.stack.running.slots) c.in-Get.at) Nothing) (some_is (value_of c.args.machine.now.store (first_of c.args.machine.now.stack.running.slots) c.in-Get.at) Nothing (value_there c.args.code.now c.args.depth c.args.placed.now.place c.args.machine.now.stack c.args.machine.now.store c.in-Get.at (subst (λ i. IsNotStuck (acting c.args.code.now c.args.depth c.args.placed.now.place c.args.machine.now.stack c.args.machine.now.store i)) c.in-Get.is c.requires.sound))) (subst (λ i. IsNotStuck (acting c.args.code.now c.args.depth c.args.placed.now.place c.args.machine.now.stack c.args.machine.now.store i)) c.in-Get.is c.requires.sound) (states g.D.Device.state c.args.devices.now))))
    tt c.args.observer.now

pub returns-in-Set-clause-step : goal.returns-in-Set-clause-step
returns-in-Set-clause-step g c = silently g.W.Observer.hears c.args.code.now c.args.machine.now.stack.running.instance c.args.depth c.args.placed.now.place c.args.machine.now.stack _ c.args.machine.now.store _ _ _ c.in-Set.is tt _ _ _ _
    (step_of c.args.code.now c.args.depth c.args.placed.now.place c.args.machine.now.stack _ c.args.machine.now.store _ _ _ _ _ _ c.in-Set.is
    (step_to c.args.code.now _ _ _ _ _ _ _ _ c.set.ensures.popped refl
    (set_step c.args.code.now c.args.depth c.args.placed.now.place c.args.machine.now.stack c.args.machine.now.store c.in-Set.at c.set.new.self.store c.set.ensures.written (subst (λ i. IsNotStuck (acting c.args.code.now c.args.depth c.args.placed.now.place c.args.machine.now.stack c.args.machine.now.store i)) c.in-Set.is c.requires.sound) (states g.D.Device.state c.args.devices.now))))
    tt c.args.observer.now

pub returns-in-Drop-clause-step : goal.returns-in-Drop-clause-step
returns-in-Drop-clause-step g c = silently g.W.Observer.hears c.args.code.now c.args.machine.now.stack.running.instance c.args.depth c.args.placed.now.place c.args.machine.now.stack _ c.args.machine.now.store _ _ _ c.in-Drop.is tt _ _ _ _
    (step_of c.args.code.now c.args.depth c.args.placed.now.place c.args.machine.now.stack _ c.args.machine.now.store _ _ _ _ _ _ c.in-Drop.is
    (step_to c.args.code.now _ _ _ _ _ _ _ _ c.drop_operands.ensures refl
    (drop_step c.args.code.now c.args.depth c.args.placed.now.place c.args.machine.now.stack c.args.machine.now.store (subst (λ i. IsNotStuck (acting c.args.code.now c.args.depth c.args.placed.now.place c.args.machine.now.stack c.args.machine.now.store i)) c.in-Drop.is c.requires.sound) (states g.D.Device.state c.args.devices.now))))
    tt c.args.observer.now

pub returns-in-Op-clause-step : goal.returns-in-Op-clause-step
returns-in-Op-clause-step g c = silently g.W.Observer.hears c.args.code.now c.args.machine.now.stack.running.instance c.args.depth c.args.placed.now.place c.args.machine.now.stack _ c.args.machine.now.store _ _ _ c.in-Op.is tt _ _ _ _
    (step_of c.args.code.now c.args.depth c.args.placed.now.place c.args.machine.now.stack _ c.args.machine.now.store _ _ _ _ _ _ c.in-Op.is
    (c.do_operator.ensures.step (states g.D.Device.state c.args.devices.now)))
    (subst (λ i. WantsOnly (takes_memory i c.args.machine.now.stack.running.operands) (outcome c.do_operator.result c.do_operator.new.end)) (sym c.in-Op.is) c.do_operator.ensures.wants) c.args.observer.now

pub returns-in-Jump-clause-step : goal.returns-in-Jump-clause-step
returns-in-Jump-clause-step g c = silently g.W.Observer.hears c.args.code.now c.args.machine.now.stack.running.instance c.args.depth c.args.placed.now.place c.args.machine.now.stack _ c.args.machine.now.store _ _ _ c.in-Jump.is tt _ _ _ _
    (step_of c.args.code.now c.args.depth c.args.placed.now.place c.args.machine.now.stack _ c.args.machine.now.store _ _ _ _ _ _ c.in-Jump.is
    (step_to c.args.code.now _ _ _ _ _ _ _ _ c.jump.ensures refl
    (jump_step c.args.code.now c.args.depth c.args.placed.now.place c.args.machine.now.stack c.args.machine.now.store c.in-Jump.to (states g.D.Device.state c.args.devices.now))))
    tt c.args.observer.now

pub returns-in-JumpFalse-clause-step : goal.returns-in-JumpFalse-clause-step
returns-in-JumpFalse-clause-step g c = silently g.W.Observer.hears c.args.code.now c.args.machine.now.stack.running.instance c.args.depth c.args.placed.now.place c.args.machine.now.stack _ c.args.machine.now.store _ _ _ c.in-JumpFalse.is tt _ _ _ _
    (step_of c.args.code.now c.args.depth c.args.placed.now.place c.args.machine.now.stack _ c.args.machine.now.store _ _ _ _ _ _ c.in-JumpFalse.is
    (step_to c.args.code.now _ _ _ _ _ _ _ _ c.jump_false.ensures refl
    (jump_false_step c.args.code.now c.args.depth c.args.placed.now.place c.args.machine.now.stack c.args.machine.now.store c.in-JumpFalse.to (subst (λ i. IsNotStuck (acting c.args.code.now c.args.depth c.args.placed.now.place c.args.machine.now.stack c.args.machine.now.store i)) c.in-JumpFalse.is c.requires.sound) (states g.D.Device.state c.args.devices.now))))
    tt c.args.observer.now

pub returns-in-New-clause-step : goal.returns-in-New-clause-step
returns-in-New-clause-step g c = silently g.W.Observer.hears c.args.code.now c.args.machine.now.stack.running.instance c.args.depth c.args.placed.now.place c.args.machine.now.stack _ c.args.machine.now.store _ _ _ c.in-New.is tt _ _ _ _
    (step_of c.args.code.now c.args.depth c.args.placed.now.place c.args.machine.now.stack _ c.args.machine.now.store _ _ _ _ _ _ c.in-New.is
    (c.make_or_end.ensures.step (states g.D.Device.state c.args.devices.now)))
    (subst (λ i. WantsOnly (takes_memory i c.args.machine.now.stack.running.operands) (outcome c.make_or_end.result c.make_or_end.new.end)) (sym c.in-New.is) (wants_any (outcome c.make_or_end.result c.make_or_end.new.end))) c.args.observer.now

pub returns-in-Return-clause-step : goal.returns-in-Return-clause-step
returns-in-Return-clause-step g c = told_leave g.W.Observer.hears c.args.code.now c.args.machine.now.stack.running.instance _ _ _ _ _ _ (shows_return c.args.code.now c.args.depth c.args.placed.now.place c.args.machine.now.stack c.args.machine.now.store _ c.in-Return.is)
    (step_of c.args.code.now c.args.depth c.args.placed.now.place c.args.machine.now.stack _ c.args.machine.now.store _ _ _ _ _ _ c.in-Return.is
    (return_step c.args.code.now c.args.depth c.args.placed.now.place c.args.machine.now.stack c.args.machine.now.store c.leave.new.self (sym (ap₂ (λ v (s : StackState). left_to v s.limits s.callers) c.pop-word.ensures.word c.pop-word.ensures.rest) ∙ c.leave.ensures) (subst (λ i. IsNotStuck (acting c.args.code.now c.args.depth c.args.placed.now.place c.args.machine.now.stack c.args.machine.now.store i)) c.in-Return.is c.requires.sound) (states g.D.Device.state c.args.devices.now)))
    c.instance-instance.result c.instance-instance.ensures _ _ _ c.left.ensures

pub returns-in-Finish-clause-step : goal.returns-in-Finish-clause-step
returns-in-Finish-clause-step g c = instruction_observed g.W.Observer.hears c.args.code.now 0 c.args.depth c.args.placed.now.place c.args.machine.now.stack _ c.args.machine.now.store _ _ _ c.in-Finish.is _ _ _ _ _ (c.finish_or_end.ensures.step (states g.D.Device.state c.args.devices.now))

pub returns-in-Call-clause-step : goal.returns-in-Call-clause-step
returns-in-Call-clause-step g c = instruction_observed g.W.Observer.hears c.args.code.now 0 c.args.depth c.args.placed.now.place c.args.machine.now.stack _ c.args.machine.now.store _ _ _ c.in-Call.is _ _ _ _ _ c.call.ensures.step

pub push-requires : goal.push-requires
push-requires g c = room_left c.args.code.now c.args.machine.now.stack c.args.machine.now.store.first c.requires.loaded (push_room c.args.code.now c.args.depth c.args.placed.now.place c.args.machine.now.stack c.args.machine.now.store c.in-Push.constant (subst (λ i. IsNotStuck (acting c.args.code.now c.args.depth c.args.placed.now.place c.args.machine.now.stack c.args.machine.now.store i)) c.in-Push.is c.requires.sound))

pub load-requires-clause-room : goal.load-requires-clause-room
load-requires-clause-room g c =
    let sound = (subst (λ i. IsNotStuck (acting c.args.code.now c.args.depth c.args.placed.now.place c.args.machine.now.stack c.args.machine.now.store i)) c.in-Load.is c.requires.sound) in
    let there = some_is (slice_get c.args.machine.now.stack.running.slots c.in-Load.slot) Nothing (some_within c.args.machine.now.stack.running.slots c.in-Load.slot (slot_there c.args.code.now c.args.depth c.args.placed.now.place c.args.machine.now.stack c.args.machine.now.store c.in-Load.slot sound)) in
    room_left c.args.code.now c.args.machine.now.stack c.args.machine.now.store.first c.requires.loaded (load_room c.args.code.now c.args.depth c.args.placed.now.place c.args.machine.now.stack c.args.machine.now.store c.in-Load.slot (unwrap_or (slice_get c.args.machine.now.stack.running.slots c.in-Load.slot) Nothing) there sound)

pub get-requires-clause-room : goal.get-requires-clause-room
get-requires-clause-room g c =
    let sound = (subst (λ i. IsNotStuck (acting c.args.code.now c.args.depth c.args.placed.now.place c.args.machine.now.stack c.args.machine.now.store i)) c.in-Get.is c.requires.sound) in
    let there = some_is (value_of c.args.machine.now.store (first_of c.args.machine.now.stack.running.slots) c.in-Get.at) Nothing (value_there c.args.code.now c.args.depth c.args.placed.now.place c.args.machine.now.stack c.args.machine.now.store c.in-Get.at sound) in
    room_left c.args.code.now c.args.machine.now.stack c.args.machine.now.store.first c.requires.loaded (get_room c.args.code.now c.args.depth c.args.placed.now.place c.args.machine.now.stack c.args.machine.now.store c.in-Get.at (unwrap_or (value_of c.args.machine.now.store (first_of c.args.machine.now.stack.running.slots) c.in-Get.at) Nothing) there sound)
