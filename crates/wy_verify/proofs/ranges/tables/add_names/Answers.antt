use Rattle.std.proofs.Common.{nat_eq}
use Rattle.indexmap.specs.IndexMap.{get}
use Rattle.wy_verify.proofs.RangeNames.{stated_more}
use Rattle.wy_verify.proofs.ranges.tables.add_names.Goals as goal

pub loop-bounds-preserved : goal.loop-bounds-preserved
loop-bounds-preserved c =
    λ b. stated_more b c.args.bodies.now c.loop-bounds.bounds-index c.bounds-item.result c.loop-bounds-test.true c.bounds-item.is
    (get nat_eq c.args.names.now b) (get nat_eq c.loop-bounds.names b) (get nat_eq c.add_name.new.names b) (c.loop-bounds.invariant b) (c.in_ok-add_name.ensures b)
