use Rattle.std.proofs.Common.{List, ap, ◌∙◌}
use Rattle.wy_image.specs.declared.file.Row.{Row}
use Rattle.wy_code.specs.EachOnce.{each_once_after}
use Rattle.wy_verified.specs.CodeOf.{rows_texts}
use Rattle.wy_verify.proofs.CodingLists.{texts_more}
use Rattle.wy_verify.proofs.coding.texts.put_bodies.Goals as goal

pub loop-body-preserved : goal.loop-body-preserved
loop-body-preserved c =
    texts_more c.args.bodies.now c.loop-body.body-index c.body-item.result c.loop-body-test.true c.body-item.is
    c.args.table.now.keys c.loop-body.table.keys c.put_rows.new.table.keys c.loop-body.invariant
    (c.in_ok-put_rows.ensures ∙ ap (λ (l : List Row). each_once_after c.loop-body.table.keys (rows_texts l)) c.as_slice.ensures)
