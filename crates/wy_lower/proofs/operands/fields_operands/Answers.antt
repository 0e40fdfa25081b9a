use Rattle.std.proofs.Common.{rules, ◌<◌, ◌≤◌, length, refl}
use Rattle.std.proofs.lemmas.Option.{slice_get_read}
use Rattle.wy_lower.proofs.EmitLists.{read_item}
use Rattle.wy_lower.proofs.EmitOperands.{mosts_none, fields_more, fields_end}
use Rattle.wy_lower.proofs.operands.fields_operands.Goals as goal

pub loop-i-init : goal.loop-i-init
loop-i-init c = mosts_none _ _ refl

pub loop-i-preserved : goal.loop-i-preserved
loop-i-preserved c =
    let xs = c.args.values.now.items in
    let i = c.loop-i.i in
    let x = c.index.result.now in
    let lt : i < length xs = search rules in
    fields_more _ c.loop-i.most _ _ i xs x lt (read_item xs i x (slice_get_read xs _ i x refl lt c.index.ensures)) c.value_operands-here.ensures c.greater-most.ensures c.loop-i.invariant

pub returns : goal.returns
returns c =
    let xs = c.args.values.now.items in
    let le : length xs ≤ c.loop-i.i = search rules in
    fields_end _ c.loop-i.most c.loop-i.i xs le c.loop-i.invariant
