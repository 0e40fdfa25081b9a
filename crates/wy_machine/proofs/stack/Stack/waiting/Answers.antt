use Rattle.std.proofs.Common.{length, take, reverse, sym, ap, ◌∙◌}
use Rattle.std.proofs.lemmas.List.{length-reverse}
use Rattle.wy_machine.specs.OpenBodies.{StackState}
use Rattle.wy_machine.proofs.Cuts.{length-open_bodies}
use Rattle.wy_machine.proofs.stack.Stack.waiting.Goals as goal

pub returns : goal.returns
returns c =
    let s = c.self.inside in
    c.len.ensures ∙ s.callers.ok.0
    ∙ sym (length-open_bodies (reverse s.callers.items) (take s.running.base s.words.items) ∙ length-reverse s.callers.items)
    ∙ ap (λ (s : StackState). length s.callers) c.self.view_is
