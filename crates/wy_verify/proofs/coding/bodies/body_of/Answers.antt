use Rattle.std.proofs.Common.{List, map, ap, ◌∙◌}
use Rattle.std.specs.Prelude.{slice_get}
use Rattle.wy_image.specs.declared.file.Row.{Row}
use Rattle.wy_verified.specs.CodeOf.{name_by, placed_of, typings_of}
use Rattle.wy_verify.proofs.CodingLists.{body_made}
use Rattle.wy_verify.proofs.coding.bodies.body_of.Goals as goal

pub returns : goal.returns
returns c = λ file t e.
    body_made c.args.texts.now.keys (typings_of file) c.args.number c.args.body.now _ _ _
    (c.in_ok-name.ensures file t ∙ ap (name_by (typings_of file)) c.in-Ok.ensures.1)
    (c.vals-vals.ensures file c.args.body.now t (ap (slice_get file.bodies) c.in-Ok.ensures.1 ∙ e))
    (c.in_ok-instructions.ensures ∙ ap (λ (l : List Row). map (placed_of c.args.texts.now.keys) l) c.as_slice.ensures)
