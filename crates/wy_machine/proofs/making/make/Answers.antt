use Rattle.std.proofs.Common.{sym, ap, ◌∙◌}
use Rattle.wy_code.specs.Machine.{literal_of}
use Rattle.wy_machine.proofs.ObjectSteps.{literal_there}
use Rattle.wy_machine.proofs.making.make.Goals as goal

pub unreachable-requires : goal.unreachable-requires
unreachable-requires c =
    let m = c.args.machine.now in
    literal_there c.args.code.now c.args.place m.stack m.store c.args.literal c.requires.sound (ap (λ i. literal_of c.args.code.now i c.args.literal) (sym c.instance.ensures) ∙ sym c.in-None.ensures)
