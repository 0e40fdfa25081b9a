use Rattle.std.proofs.Common.{rules, ◌<◌, ◌≤◌, length, refl}
use Rattle.std.proofs.lemmas.Option.{slice_get_read}
use Rattle.wy_lower.proofs.EmitLists.{read_item}
use Rattle.wy_lower.proofs.EmitForms.{fields_more, fields_end}
use Rattle.wy_lower.proofs.expressions.emit_fields.Goals as goal

pub loop-i-preserved : goal.loop-i-preserved
loop-i-preserved c =
    let xs = c.args.values.now.items in
    let i = c.loop-i.i in
    let x = c.index-value.result.now in
    let lt : i < length xs = search rules in
    fields_more _ _ _ _ _ _ xs i x _ _ _ lt (read_item xs i x (slice_get_read xs _ i x refl lt c.index-value.ensures)) c.value_mark.ensures c.loop-i.invariant c.emit_value.ensures (c.number-field.ensures.summed _ c.field_value.ensures) c.put.ensures

pub returns : goal.returns
returns c =
    let xs = c.args.values.now.items in
    let le : length xs ≤ c.loop-i.i = search rules in
    fields_end _ _ _ xs c.loop-i.i _ le c.loop-i.invariant
