use Rattle.std.proofs.Common.{get_or, refl, ap, ◌∙◌}
use Rattle.std.proofs.lemmas.Result.{IfOk-weaker}
use Rattle.wy_types.specs.Program.{body_of, scope_of}
use Rattle.wy_lower.specs.EmitBodies.{whole_program, whole_starts}
use Rattle.wy_lower.proofs.EmitLists.{mapped_item}
use Rattle.wy_lower.proofs.EmitBodies.{body_is}
use Rattle.wy_lower.proofs.emitting.body_code.Goals as goal

pub returns : goal.returns
returns c =
    let s = c.args.scope.now in
    let k = c.args.number in
    let x = c.index-as_slice-number.result in
    let at = c.index-as_slice-number.is ∙ ap (λ l. get_or l k x) c.as_slice.ensures in
    IfOk-weaker c.body_with.result _ _ (λ y h b e.
    body_is (whole_program c.args.whole.now) (whole_starts c.args.whole.now) (scope_of s) k y _ b (body_of x) _ _ _ _ _ h.1 h.0 (c.inside_body-inside.ensures b e) (mapped_item body_of s.bodies k x b e c.requires.there at)
    c.in_ok-name.ensures refl (ap (λ o. o.list) c.new-out.ensures) c.emit_block.ensures c.put.ensures) (c.body_with.ensures _ c.block_operands.ensures)
