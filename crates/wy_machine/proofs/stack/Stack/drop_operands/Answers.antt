use Rattle.std.proofs.Common.{◌≡◌, ◌-◌, ◌≤◌, length, drop, reverse, sym, ap, ◌∙◌, subst, arith}
use Rattle.wy_machine.specs.Stacks.{with_operands}
use Rattle.wy_machine.specs.OpenBodies.{StackState}
use Rattle.wy_machine.proofs.Cuts.{stack_of, dropped}
use Rattle.wy_machine.proofs.stack.Stack.drop_operands.Goals as goal

pub returns : goal.returns
returns c =
    let s = c.self.inside in
    let le : s.running.base ≤ s.running.top = omega (arith, c.self.invariant.0) in
    let few = subst (λ (s : StackState). c.args.count ≤ length s.running.operands) (sym c.self.view_is) c.requires in
    let n : c.len.result - c.args.count ≡ length s.words.items - c.args.count = ap (λ n. n - c.args.count) (c.len.ensures ∙ s.words.ok.0) in
    ap (stack_of s.limits s.running (reverse s.callers.items)) c.truncate.ensures.items
    ∙ dropped s.limits s.running (reverse s.callers.items) c.args.count (c.len.result - c.args.count) s.words.items le c.self.invariant.1 few n
    ∙ ap (λ (s : StackState). with_operands (drop c.args.count s.running.operands) s) c.self.view_is
