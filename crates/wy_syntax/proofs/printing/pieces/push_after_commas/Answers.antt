use Rattle.std.proofs.Common.{◌<◌, length, refl, rules}
use Rattle.wy_syntax.specs.Canonical.{after_commas}
use Rattle.wy_syntax.proofs.Gathered.{all_through, before, turn}
use Rattle.wy_syntax.proofs.printing.pieces.push_after_commas.Goals as goal

pub loop-item-preserved : goal.loop-item-preserved
loop-item-preserved t c =
    let lt : c.loop-item.item-index < length c.args.items.now = search rules in
    turn c.args.items.now c.loop-item.item-index c.item-item.result (after_commas t.X.Printed.text) _ lt c.item-item.is refl (before c.push.ensures c.push_to.ensures) c.loop-item.invariant

pub returns : goal.returns
returns t c = all_through c.args.items.now c.loop-item.item-index (after_commas t.X.Printed.text) c.loop-item-test.false refl c.loop-item.invariant
