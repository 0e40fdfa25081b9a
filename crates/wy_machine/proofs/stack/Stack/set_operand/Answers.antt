use Rattle.std.proofs.Common.{◌≡◌, ◌-◌, ◌<◌, ◌≤◌, ◌∷◌, length, drop, reverse, sym, ap, ◌∙◌, subst, arith}
use Rattle.wy_machine.specs.Stacks.{with_operands}
use Rattle.wy_machine.specs.OpenBodies.{StackState}
use Rattle.wy_machine.proofs.Cuts.{replaced}
use Rattle.wy_machine.proofs.stack.Stack.set_operand.Goals as goal

pub returns : goal.returns
returns c =
    let s = c.self.inside in
    let le : s.running.base ≤ s.running.top = omega (arith, c.self.invariant.0) in
    let some = subst (λ (s : StackState). 0 < length s.running.operands) (sym c.self.view_is) c.requires in
    let n : c.len-at.result - 1 ≡ length s.words.items - 1 = ap (λ n. n - 1) (c.len-at.ensures ∙ s.words.ok.0) in
    replaced s.limits s.running (reverse s.callers.items) s.words.items c.args.word (c.len-at.result - 1) le c.self.invariant.1 some n
    ∙ ap (λ (s : StackState). with_operands (c.args.word ∷ drop 1 s.running.operands) s) c.self.view_is
