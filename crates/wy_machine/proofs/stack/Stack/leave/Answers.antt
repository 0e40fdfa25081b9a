use Rattle.std.proofs.Common.{◌≡◌, ◌<◌, ◌≤◌, [], ◌∷◌, length, take, set, reverse, Some, sym, ap, ◌∙◌, subst, arith}
use Rattle.std.proofs.lemmas.List.{length-take, reverse-append}
use Rattle.wy_machine.specs.Stacks.{AreWaiting, open_bodies, left_to}
use Rattle.wy_machine.specs.OpenBodies.{StackState}
use Rattle.wy_machine.proofs.Cuts.{stack_of, left_is, cut_back}
use Rattle.wy_machine.proofs.stack.Stack.leave.Goals as goal

pub returns : goal.returns
returns c =
    let s = c.self.inside in
    let f = c.in-Some.caller in
    let below = take s.running.base s.words.items in
    let fs = reverse c.pop.new.self.items in
    let back : reverse s.callers.items ≡ f ∷ fs = ap reverse c.in-Some.ensures.items ∙ reverse-append c.pop.new.self.items (f ∷ []) in
    let stacked = subst (λ fs. AreWaiting s.limits.words fs s.running.base) back c.self.invariant.2 in
    let le : f.base ≤ f.top = omega (arith, stacked.0) in
    let top : f.top ≤ length below = omega (arith, stacked.1, c.self.invariant.0, c.self.invariant.1, length-take s.running.base s.words.items) in
    let lt : s.running.base < length s.words.items = omega (arith, c.self.invariant.0, c.self.invariant.1) in
    sym (ap (λ (s : StackState). left_to c.args.word s.limits s.callers) c.self.view_is)
    ∙ ap (λ fs. left_to c.args.word s.limits (open_bodies fs below)) back
    ∙ left_is s.limits f fs below c.args.word le top
    ∙ ap (λ words. Some (stack_of s.limits f fs words)) (sym (ap (λ words. set words s.running.base c.args.word) c.truncate.ensures.items ∙ cut_back s.running.base s.words.items c.args.word lt))
