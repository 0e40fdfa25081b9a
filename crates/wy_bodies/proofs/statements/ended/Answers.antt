use Rattle.std.proofs.Common.{ap}
use Rattle.wy_types.specs.View.{value_of}
use Rattle.wy_bodies.proofs.Blocks.{ended_do, ended_val}
use Rattle.wy_bodies.proofs.statements.ended.Goals as goal

pub returns-in_ok-last-in-Some-Do : goal.returns-in_ok-last-in-Some-Do
returns-in_ok-last-in-Some-Do c =
    let items = rw c.in-Some-Do.field-0-is at c.in-Some-Do.ensures.items in
    ended_do c.args.place c.pop.new.self.items c.args.statements.items c.in-Some-Do.value c.in_ok-last-in-Some-Do.last.value items c.in_ok-last-in-Some-Do.ensures

pub returns-in_ok-last-in-Some-Val : goal.returns-in_ok-last-in-Some-Val
returns-in_ok-last-in-Some-Val c =
    let items = rw c.in-Some-Val.field-0-is at c.in-Some-Val.ensures.items in
    ended_val c.args.place c.in-Some-Val.place_of c.in-Some-Val.number c.in-Some-Val.typ c.pop.new.self.items c.add.new.list.items c.args.statements.items c.in-Some-Val.value c.in_ok-last-in-Some-Val.last.value
    items c.in_ok-add-in-Some-Val.ensures (ap value_of c.in_ok-last-in-Some-Val.ensures)
