use Rattle.std.proofs.Common.{ap, sym, ◌∙◌}
use Rattle.wy_device.specs.Requests.{operation_called}
use Rattle.wy_device.specs.Primitives.{operations_of}
use Rattle.wy_machine.proofs.DeedSteps.{grant_there, method_named, operation_there}
use Rattle.wy_machine.proofs.Refusals.{asked_by_none}
use Rattle.wy_machine.proofs.performing.perform.Goals as goal

pub unreachable-requires : goal.unreachable-requires
unreachable-requires g c =
    let m = c.args.machine.now in
    let grant = c.in-Some.grant.now in
    operation_there c.args.code.now c.args.depth c.args.place m.stack m.store c.args.method c.args.count c.args.number c.requires.receiver grant (sym c.in-Some.ensures) c.in-Some-get.name.now (sym c.in-Some-get.ensures) c.requires.sound
    (λ t. asked_by_none grant.primitive c.in-Some-get.name.now (ap (λ name. operation_called name (operations_of grant.primitive)) (sym c.as_bytes.ensures) ∙ sym c.operation_called.ensures ∙ c.in-None-operation_called.is) _)

pub unreachable-requires-in-None-get : goal.unreachable-requires-in-None-get
unreachable-requires-in-None-get g c =
    let m = c.args.machine.now in
    method_named c.args.code.now c.args.depth c.args.place m.stack m.store c.args.method c.args.count c.args.number c.requires.receiver c.in-Some.grant.now (sym c.in-Some.ensures) c.requires.sound (sym c.in-None-get.ensures)

pub unreachable-requires-in-None : goal.unreachable-requires-in-None
unreachable-requires-in-None g c =
    let m = c.args.machine.now in
    grant_there c.args.code.now c.args.depth c.args.place m.stack m.store c.args.method c.args.count c.args.number c.requires.receiver c.requires.sound (sym c.in-None.ensures)
