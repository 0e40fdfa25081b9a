use Rattle.std.proofs.Common.{List, ap, ◌∙◌}
use Rattle.std.proofs.Common.{nat_eq}
use Rattle.wy_image.specs.declared.typing.Bounds.{Bounds}
use Rattle.indexmap.specs.IndexMap.{get}
use Rattle.wy_verified.specs.Kinds.{stated_in}
use Rattle.wy_verify.specs.RangeParts.{or_other, stated_name}
use Rattle.wy_verify.proofs.RangeNames.{first_more}
use Rattle.wy_verify.proofs.ranges.tables.add_instances.Goals as goal

pub loop-instance-preserved : goal.loop-instance-preserved
loop-instance-preserved c =
    λ b. first_more b c.args.instances.now c.loop-instance.instance-index c.instance-item.result c.loop-instance-test.true c.instance-item.is
    (get nat_eq c.args.names.now b) (get nat_eq c.loop-instance.names b) (get nat_eq c.add_names.new.names b) (c.loop-instance.invariant b)
    (c.in_ok-add_names.ensures b ∙ ap (λ (l : List Bounds). or_other (get nat_eq c.loop-instance.names b) (stated_name (stated_in b l))) c.as_slice.ensures)
