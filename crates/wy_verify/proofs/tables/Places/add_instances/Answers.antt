use Rattle.wy_text.proofs.Lists.{In-slice_get}
use Rattle.wy_verify.specs.Tables.{typing_items, bounds_key, bounds_effect, typings_in}
use Rattle.wy_verify.proofs.Walks.{rows_step, typing_read}
use Rattle.wy_verify.proofs.tables.Places.add_instances.Goals as goal

pub add_bodies-requires : goal.add_bodies-requires
add_bodies-requires c =
    c.requires c.item_at-instance.result.now.typing (In-slice_get (typings_in c.args.instances.now) c.loop-at.at c.item_at-instance.result.now.typing
    (typing_read c.args.instances.now c.loop-at.at c.item_at-instance.result.now c.item_at-instance.ensures))

pub loop-at-preserved : goal.loop-at-preserved
loop-at-preserved c =
    rows_step typing_items bounds_key bounds_effect c.args.self.now.entries c.loop-at.self.entries c.add_bodies.new.self.entries c.loop-at.at c.in_ok-word.field-0
    (typings_in c.args.instances.now) c.item_at-instance.result.now.typing
    (typing_read c.args.instances.now c.loop-at.at c.item_at-instance.result.now c.item_at-instance.ensures) c.in_ok-word.ensures c.loop-at.invariant c.in_ok-add_bodies.ensures
