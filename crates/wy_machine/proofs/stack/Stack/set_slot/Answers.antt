use Rattle.std.proofs.Common.{◌<◌, ◌≤◌, length, set, reverse, sym, ap, ◌∙◌, subst, arith}
use Rattle.wy_machine.specs.OpenBodies.{StackState}
use Rattle.wy_machine.proofs.Cuts.{slot_set}
use Rattle.wy_machine.proofs.stack.Stack.set_slot.Goals as goal

pub returns : goal.returns
returns c =
    let s = c.self.inside in
    let le : s.running.base ≤ s.running.top = omega (arith, c.self.invariant.0) in
    let within = subst (λ (s : StackState). c.args.slot < length s.running.slots) (sym c.self.view_is) c.requires in
    slot_set s.limits s.running (reverse s.callers.items) s.words.items c.args.slot c.args.word le c.self.invariant.1 within
    ∙ ap (λ (s : StackState). let t : StackState = record s { running = record (s.running) { slots = set s.running.slots c.args.slot c.args.word } } in t) c.self.view_is
