use Rattle.std.proofs.lemmas.Result.{err_from_is_err_and}
use Rattle.wy_spelling.specs.Kinds.{text_kind}
use Rattle.wy_spelling.proofs.Shapes.{refused_first, refused_in, refused_second}
use Rattle.wy_image.specs.GrantLaws.{grant_shape}
use Rattle.wy_image.specs.PrimitiveLaws.{primitive_kind}
use Rattle.wy_image.proofs.grants.GrantSpelled.read.Goals as goal

pub returns-in_err-name-clause-bad : goal.returns-in_err-name-clause-bad
returns-in_err-name-clause-bad c =
    let p = err_from_is_err_and c.from_residual.result c.from_residual.ensures.1 in
    let error = c.in_err-name.field-0.0 in
    rw (p.1, p.2) (refused_in grant_shape c.args.bytes.now error
    (refused_first text_kind primitive_kind c.args.bytes.now error c.in_err-name.ensures.bad))

pub returns-in_err-primitive-clause-bad : goal.returns-in_err-primitive-clause-bad
returns-in_err-primitive-clause-bad c =
    let residual = c.from_residual-in_err-primitive in
    let p = err_from_is_err_and residual.result residual.ensures.1 in
    let error = c.in_err-primitive.field-0.0 in
    let name = c.in_ok-name.ensures.found in
    let rest = c.in_ok-name.rest.now in
    rw (p.1, p.2, name.1) (refused_in grant_shape _ error
    (refused_second text_kind primitive_kind c.in_ok-name.name rest error name.0 c.in_err-primitive.ensures.bad))
