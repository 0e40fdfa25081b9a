use Rattle.std.proofs.Common.{sym, ap, ap₂, ◌∙◌, arith}
use Rattle.std.specs.Prelude.{slice_get}
use Rattle.std.proofs.lemmas.List.{length_push}
use Rattle.std.proofs.lemmas.Option.{slice_get_within}
use Rattle.wy_code.specs.Machine.{all_instances, this_at_start}
use Rattle.wy_machine.specs.Stacks.{begun}
use Rattle.wy_machine.proofs.Loads.{room_at_first}
use Rattle.wy_machine.proofs.StartSteps.{scope_there, start_there, begin_step, end_step}
use Rattle.wy_machine.proofs.Quiet.{step_to}
use Rattle.wy_machine.proofs.starting.begin.Goals as goal

pub unreachable-requires : goal.unreachable-requires
unreachable-requires c =
    let code = c.args.code.now in
    let here = ap (slice_get (all_instances code)) (sym c.next-next.ensures) ∙ sym c.in-Some.ensures in
    start_there code c.args.machine.now.store c.in-Some.instance.now here c.in-Some-get.scope.now (sym c.in-Some-get.ensures) c.requires.sound (sym c.in-None-start_of.ensures)

pub unreachable-requires-in-None-get : goal.unreachable-requires-in-None-get
unreachable-requires-in-None-get c =
    let code = c.args.code.now in
    let here = ap (slice_get (all_instances code)) (sym c.next-next.ensures) ∙ sym c.in-Some.ensures in
    scope_there code c.args.machine.now.store c.in-Some.instance.now here c.requires.sound (sym c.in-None-get.ensures)

pub returns-in-Some-start_of-clause-step : goal.returns-in-Some-start_of-clause-step
returns-in-Some-start_of-clause-step c = λ es q d.
    let code = c.args.code.now in
    let w = c.args.machine.now.store in
    let scope = c.in-Some-get.scope.now in
    let body = c.in-Some-start_of.body.now in
    let here = ap (slice_get (all_instances code)) (sym c.next-next.ensures) ∙ sym c.in-Some.ensures in
    let stack = c.begin.ensures ∙ ap₂ (λ n v. begun c.args.machine.now.stack.limits n scope.start v body.vals) c.next-next.ensures (c.this_at_start-this.ensures ∙ ap (this_at_start code) c.next-next.ensures) in
    step_to code _ _ _ _ _ d d _ stack c.count_next.ensures
    (begin_step code w c.in-Some.instance.now here scope (sym c.in-Some-get.ensures) body (sym c.in-Some-start_of.ensures) es q d c.args.machine.now.stack.limits)

pub returns-in-None-clause-step : goal.returns-in-None-clause-step
returns-in-None-clause-step c = λ es q d.
    end_step c.args.code.now c.args.machine.now.store (ap (slice_get (all_instances c.args.code.now)) (sym c.next-next.ensures) ∙ sym c.in-None.ensures) es q _ _ d

pub begin-requires : goal.begin-requires
begin-requires c =
    let m = c.args.machine.now in
    let room = room_at_first c.args.code.now m.stack.limits m.store.first c.requires.loaded c.in-Some-get.scope.now.start c.in-Some-start_of.body.now (sym c.in-Some-start_of.ensures) in
    omega (arith, room)

pub count_next-requires : goal.count_next-requires
count_next-requires c =
    let code = c.args.code.now in
    let here = ap (slice_get (all_instances code)) (sym c.next-next.ensures) ∙ sym c.in-Some.ensures in
    let within = slice_get_within (all_instances code) c.args.machine.now.store.next c.in-Some.instance.now here in
    omega (arith, within, length_push code.instances code.main, c.requires.loaded.few)
