use Rattle.std.proofs.Common.{◌≡◌, ◌+◌, ◌-◌, ◌∷◌, drop, ap, ◌∙◌, arith}
use Rattle.std.proofs.lemmas.List.{drop-drop}
use Rattle.wy_machine.specs.Stacks.{with_operands}
use Rattle.wy_machine.specs.OpenBodies.{StackState}
use Rattle.wy_machine.proofs.stack.Stack.give.Goals as goal

pub returns : goal.returns
returns c =
    let ops = c.args.self.now.running.operands in
    let count : c.args.count - 1 + 1 ≡ c.args.count = omega arith in
    c.set_operand.ensures
    ∙ ap (λ (s : StackState). with_operands (c.args.word ∷ drop 1 s.running.operands) s) c.drop_operands.ensures
    ∙ ap (λ ops. with_operands (c.args.word ∷ ops) c.args.self.now) (drop-drop 1 (c.args.count - 1) ops ∙ ap (λ n. drop n ops) count)
