use Rattle.std.proofs.Common.{◌≡◌, ◌-◌, ◌≤◌, length, take, drop, reverse, sym, ap, ◌∙◌, subst}
use Rattle.std.proofs.lemmas.List.{take_rest}
use Rattle.wy_machine.specs.OpenBodies.{StackState}
use Rattle.wy_machine.proofs.Cuts.{arguments_are}
use Rattle.wy_machine.proofs.stack.Stack.arguments.Goals as goal

pub returns : goal.returns
returns c =
    let s = c.self.inside in
    let few = subst (λ (s : StackState). c.args.count ≤ length s.running.operands) (sym c.self.view_is) c.requires in
    let n : c.len.result - c.args.count ≡ length s.words.items - c.args.count = ap (λ n. n - c.args.count) (c.len.ensures ∙ s.words.ok.0) in
    take_rest c.as_slice.result.now (c.len.result - c.args.count)
    ∙ ap (drop (c.len.result - c.args.count)) c.as_slice.ensures.value
    ∙ arguments_are s.running.top c.args.count (c.len.result - c.args.count) s.words.items c.self.invariant.1 few n
    ∙ ap (λ (s : StackState). reverse (take c.args.count s.running.operands)) c.self.view_is
