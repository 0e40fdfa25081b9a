use Rattle.std.proofs.Common.{Err, sym, ap, ◌∙◌}
use Rattle.wy_device.specs.Operation.{name_of}
use Rattle.wy_machine.specs.declared.run_end.RunEnd.TheVariants.{DeviceFailed}
use Rattle.wy_machine.specs.Observing.{ended_by}
use Rattle.wy_machine.specs.Steps.{outcome}
use Rattle.wy_machine.proofs.performing.tell_and_fail.Goals as goal

pub returns-then-performed : goal.returns-then-performed
returns-then-performed g c = record {
  own = outcome c.performed.result c.performed.new.end;
  heard = c.performed.ensures;
  ends = ap (λ o. Err (DeviceFailed c.args.grant o)) c.name.ensures
      ∙ sym (ap (λ went. ended_by (DeviceFailed c.args.grant (name_of c.args.op.now)) (outcome went c.performed.new.end)) c.if-performed.true);
}

pub returns-else-performed : goal.returns-else-performed
returns-else-performed g c = record {
  own = outcome c.performed.result c.performed.new.end;
  heard = c.performed.ensures;
  ends = sym (ap (λ went. ended_by (DeviceFailed c.args.grant (name_of c.args.op.now)) (outcome went c.performed.new.end)) c.if-performed.false);
}
