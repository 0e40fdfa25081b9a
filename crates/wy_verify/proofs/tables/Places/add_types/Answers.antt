use Rattle.wy_text.proofs.Lists.{In-slice_get}
use Rattle.wy_verify.specs.Tables.{listed_items, method_key, method_effect}
use Rattle.wy_verify.proofs.Walks.{rows_step}
use Rattle.wy_verify.proofs.tables.Places.add_types.Goals as goal

pub add_type-requires : goal.add_type-requires
add_type-requires c = c.requires c.item_at.result.now (In-slice_get c.args.types.now c.loop-at.at c.item_at.result.now c.item_at.ensures)

pub loop-at-preserved : goal.loop-at-preserved
loop-at-preserved c =
    rows_step listed_items method_key method_effect c.args.self.now.entries c.loop-at.self.entries c.add_type.new.self.entries c.loop-at.at c.in_ok-word.field-0 c.args.types.now c.item_at.result.now
    c.item_at.ensures c.in_ok-word.ensures c.loop-at.invariant c.in_ok-add_type.ensures
