use Rattle.std.proofs.Common.{◌<◌, ◌+◌, ap, rules, drop, length}
use Rattle.wy_symbols.specs.Atoms.{set_refusals}
use Rattle.wy_symbols.specs.TypeUses.{sets_refusals}
use Rattle.wy_symbols.proofs.Turns.{next_of}
use Rattle.wy_symbols.proofs.Leasts.{noted_turn}
use Rattle.wy_symbols.proofs.type_uses.note_sets.Goals as goal

pub loop-set-preserved : goal.loop-set-preserved
loop-set-preserved c =
    let lt : c.loop-set.set-index < length c.args.sets.now = search rules in
    noted_turn c.loop-set.least c.note_set.new.least c.args.least.now (set_refusals c.args.scope.now c.set-item.result.effect)
    (sets_refusals c.args.scope.now (drop (c.loop-set.set-index + 1) c.args.sets.now)) (sets_refusals c.args.scope.now (drop c.loop-set.set-index c.args.sets.now))
    (sets_refusals c.args.scope.now c.args.sets.now) (search rules)
    (ap (sets_refusals c.args.scope.now) (next_of c.args.sets.now c.loop-set.set-index c.set-item.result lt c.set-item.is)) c.loop-set.invariant
