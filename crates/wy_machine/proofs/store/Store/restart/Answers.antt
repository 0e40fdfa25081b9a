use Rattle.std.proofs.Common.{◌≤◌, length, sym, ◌∙◌, subst, arith}
use Rattle.wy_machine.specs.StoreStates.{AreKept}
use Rattle.wy_machine.proofs.Refilling.{kept_all_same, kept_taken}
use Rattle.wy_machine.proofs.store.Store.restart.Goals as goal

pub refill-requires-clause-kept : goal.refill-requires-clause-kept
refill-requires-clause-kept c =
    let s = c.self.inside in
    let all : length s.first.items ≤ c.len.result = omega (arith, c.len.ensures, s.first.ok.0) in
    subst (λ xs. AreKept xs c.truncate.new.self.items) (sym c.as_slice.ensures.value)
    (subst (AreKept s.first.items) (sym c.truncate.ensures.items) (kept_taken s.first.items s.objects.items c.len.result all c.self.invariant))

pub invariant_of-self : goal.invariant_of-self
invariant_of-self c =
    let s = c.self.inside in
    subst (AreKept s.first.items) (sym (c.refill.ensures ∙ c.as_slice.ensures.value)) (kept_all_same s.first.items)
