use Rattle.wy_machine.proofs.Refilling.{AreRefilled}
use Rattle.wy_machine.proofs.store.refill.Given as goal

abbrev pub invariant-loop-at : goal.invariant-loop-at
invariant-loop-at l = AreRefilled l.at l.first l.objects.items
