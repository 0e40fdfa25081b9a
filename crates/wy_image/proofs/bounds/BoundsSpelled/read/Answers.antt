use Rattle.std.proofs.Common.{sym, subst}
use Rattle.std.proofs.lemmas.Result.{err_from_is_err_and}
use Rattle.wy_spelling.specs.Spelling.{SpellsFront}
use Rattle.wy_spelling.proofs.Shapes.{found_in, refused_in}
use Rattle.wy_image.specs.BoundsLaws.{bounds_shape}
use Rattle.wy_image.specs.Spelled.{IsBoundsSpelled, bounds_bytes}
use Rattle.wy_image.specs.declared.typing.Bounds.{Bounds}
use Rattle.wy_image.proofs.bounds.BoundsSpelled.read.Goals as goal

pub returns-in_err-parts-clause-bad : goal.returns-in_err-parts-clause-bad
returns-in_err-parts-clause-bad c =
    let p = err_from_is_err_and c.from_residual.result c.from_residual.ensures.1 in
    rw (p.1, p.2) (refused_in bounds_shape c.args.bytes.now c.in_err-parts.field-0.0 c.in_err-parts.ensures.bad)

pub returns-clause-found : goal.returns-clause-found
returns-clause-found c =
    let bytes = c.args.bytes.now in
    let rest = c.in_ok-parts.rest.now in
    let found = found_in bounds_shape bytes rest c.in_ok-parts.parts c.in_ok-parts.ensures.found in
    subst (λ (s : Bounds). SpellsFront IsBoundsSpelled bounds_bytes bytes s rest) (sym c.bounds_of.ensures) found
