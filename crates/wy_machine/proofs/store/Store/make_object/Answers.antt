use Rattle.std.proofs.Common.{[], ◌∷◌, sym, subst}
use Rattle.wy_machine.specs.StoreStates.{AreKept}
use Rattle.wy_machine.proofs.Refilling.{kept_before}
use Rattle.wy_machine.proofs.store.Store.make_object.Goals as goal

pub invariant_of-self-2 : goal.invariant_of-self-2
invariant_of-self-2 c =
    let s = c.self.inside in
    subst (AreKept s.first.items) (sym c.in_ok-push.ensures.items) (kept_before s.first.items s.objects.items (c.args.object ∷ []) c.self.invariant)
