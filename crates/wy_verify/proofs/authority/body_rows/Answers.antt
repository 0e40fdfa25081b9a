use Rattle.std.proofs.Common.{List, subst}
use Rattle.wy_text.specs.Members.{In}
use Rattle.wy_image.specs.declared.typing.Bounds.{Bounds}
use Rattle.wy_verify.proofs.authority.body_rows.Goals as goal
use Rattle.wy_verify.proofs.Numbering.{In-item}

pub body_row-requires : goal.body_row-requires
body_row-requires c =
    let b = c.bounds-item.result in
    let P : List Bounds → Type 0 = λ l. In b l in
    c.requires b (subst P c.as_slice-bounds-items.ensures
    (In-item c.as_slice-bounds-items.result.now c.loop-bounds.bounds-index b c.loop-bounds-test.true c.bounds-item.is))
