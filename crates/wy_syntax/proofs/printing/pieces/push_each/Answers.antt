use Rattle.std.proofs.Common.{◌<◌, length, refl, rules}
use Rattle.wy_syntax.specs.Canonical.{in_order}
use Rattle.wy_syntax.proofs.Gathered.{all_through, turn}
use Rattle.wy_syntax.proofs.printing.pieces.push_each.Goals as goal

pub loop-item-preserved : goal.loop-item-preserved
loop-item-preserved t c =
    let lt : c.loop-item.item-index < length c.args.items.now = search rules in
    turn c.args.items.now c.loop-item.item-index c.item-item.result (in_order t.X.Printed.text) (t.X.Printed.text c.item-item.result) lt c.item-item.is refl c.push_to.ensures c.loop-item.invariant

pub returns : goal.returns
returns t c = all_through c.args.items.now c.loop-item.item-index (in_order t.X.Printed.text) c.loop-item-test.false refl c.loop-item.invariant
