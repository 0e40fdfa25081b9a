use Rattle.std.proofs.Common.{◌<◌, reverse, sym, subst, arith}
use Rattle.wy_machine.specs.Stacks.{words_in}
use Rattle.wy_machine.specs.OpenBodies.{StackState}
use Rattle.wy_machine.proofs.Rooms.{words_above, room_above}
use Rattle.wy_machine.proofs.stack.Stack.push.Goals as goal

pub push_reserved-requires : goal.push_reserved-requires
push_reserved-requires c =
    let s = c.self.inside in
    let few = subst (λ (s : StackState). words_in s < s.limits.words) (sym c.self.view_is) c.requires in
    let above = words_above s.running s.words.items c.self.invariant.0 c.self.invariant.1 in
    let room = room_above s.limits.words s.limits.depth s.running.base (reverse s.callers.items) c.self.invariant.2 c.self.invariant.4 in
    omega (arith, few, above, room, c.self.invariant.0, c.self.invariant.1, c.self.invariant.5, s.words.ok.0)
