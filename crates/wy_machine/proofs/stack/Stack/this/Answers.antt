use Rattle.std.proofs.Common.{◌<◌, ◌-◌, length, sym, ap, ◌∙◌, arith}
use Rattle.wy_code.specs.Machine.{first_of}
use Rattle.wy_machine.specs.OpenBodies.{StackState}
use Rattle.wy_machine.proofs.Cuts.{first_at}
use Rattle.wy_machine.proofs.stack.Stack.this.Goals as goal

pub returns : goal.returns
returns c =
    let s = c.self.inside in
    let some : 0 < s.running.top - s.running.base = omega (arith, c.self.invariant.0) in
    let within : s.running.base < length s.words.items = omega (arith, c.self.invariant.0, c.self.invariant.1) in
    c.index.ensures
    ∙ sym (first_at s.running.base (s.running.top - s.running.base) s.words.items c.index.result.now some within)
    ∙ ap (λ (s : StackState). first_of s.running.slots) c.self.view_is
