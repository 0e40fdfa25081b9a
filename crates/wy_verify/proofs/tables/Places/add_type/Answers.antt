use Rattle.std.proofs.Common.{◌≤◌, length, arith}
use Rattle.wy_text.proofs.Lists.{In-slice_get}
use Rattle.wy_verify.specs.Tables.{same_pair, listed_items, method_key, method_effect, signatures_notes}
use Rattle.wy_verify.proofs.Noting.{adding_none}
use Rattle.wy_verify.proofs.Walks.{items_step, items_end}
use Rattle.wy_verify.proofs.tables.Places.add_type.Goals as goal

pub loop-at-init : goal.loop-at-init
loop-at-init c = adding_none same_pair c.args.self.now.entries (signatures_notes c.args.row 0 c.args.methods.now)

pub note-requires : goal.note-requires
note-requires c = c.requires c.item_at-method.result.now (In-slice_get c.args.methods.now c.loop-at.at c.item_at-method.result.now c.item_at-method.ensures)

pub loop-at-preserved : goal.loop-at-preserved
loop-at-preserved c =
    items_step listed_items method_key method_effect c.args.self.now.entries c.loop-at.self.entries c.note.new.self.entries c.args.row c.loop-at.at c.in_ok-word.field-0 c.args.methods.now c.item_at-method.result.now
    c.item_at-method.ensures c.in_ok-word.ensures c.loop-at.invariant c.in_ok-note.ensures

pub returns : goal.returns
returns c = items_end listed_items method_key method_effect c.args.self.now.entries c.args.self.now.entries c.loop-at.self.entries c.args.row c.loop-at.at c.args.methods.now (let le : length c.args.methods.now ≤ c.loop-at.at = omega arith in le) c.loop-at.invariant
