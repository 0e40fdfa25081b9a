use Rattle.std.proofs.Common.{◌≡◌}
use Rattle.wy_machine.specs.Devices.{states}
use Rattle.wy_machine.proofs.ObservedRuns.{LeadsHeard}
use Rattle.wy_machine.proofs.observed_run.run_observing.Given as goal

abbrev pub invariant-loop-done : goal.invariant-loop-done
invariant-loop-done g l = record {
  leads : LeadsHeard g.W.Observer.hears l.code l.depth l.done l.machine.stack l.machine.store (states g.D.Device.state l.fn.devices) (states g.D.Device.state l.devices) l.fn.observer l.observer;
  limits : l.machine.stack.limits ≡ l.fn.machine.stack.limits;
  first : l.machine.store.first ≡ l.fn.machine.store.first;
}
