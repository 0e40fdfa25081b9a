use Rattle.std.proofs.Common.{sym, subst}
use Rattle.wy_machine.specs.StoreStates.{AreKept}
use Rattle.wy_machine.proofs.Refilling.{kept_all_same}
use Rattle.wy_machine.proofs.store.Store.new.Goals as goal

pub invariant_of-result : goal.invariant_of-result
invariant_of-result c = subst (AreKept c.args.first.items) (sym c.requires) (kept_all_same c.args.first.items)
