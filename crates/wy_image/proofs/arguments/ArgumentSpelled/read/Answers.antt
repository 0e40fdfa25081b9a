use Rattle.std.proofs.Common.{ℕ, ◌<◌, length, get_or, refl, arith}
use Rattle.std.proofs.lemmas.Result.{err_from_is_err_and}
use Rattle.wy_image.specs.ArgumentLaws.{argument_kind}
use Rattle.wy_spelling.specs.Kinds.{number_kind}
use Rattle.wy_spelling.proofs.Forms.{no_byte, no_form, refused_behind_form}
use Rattle.wy_image.proofs.ArgumentForms.{number_form, other_form}
use Rattle.wy_image.proofs.arguments.ArgumentSpelled.read.Goals as goal

pub returns-in_default-clause-bad : goal.returns-in_default-clause-bad
returns-in_default-clause-bad c = no_byte argument_kind c.args.bytes.now c.in_default.len_below

pub returns-in_default-form-clause-bad : goal.returns-in_default-form-clause-bad
returns-in_default-form-clause-bad c =
    no_form argument_kind c.args.bytes.now (other_form c.args.bytes.now (omega (arith, c.in_default-form)))

pub returns-in_err-number-in-0-to-1-clause-bad : goal.returns-in_err-number-in-0-to-1-clause-bad
returns-in_err-number-in-0-to-1-clause-bad c =
    let residual = c.from_residual in
    let p = err_from_is_err_and residual.result residual.ensures.1 in
    let bytes = c.args.bytes.now in
    let error = c.in_err-number-in-0-to-1.field-0.0 in
    let some : 0 < length bytes = omega (arith, c.in-len1-up.len_at_least) in
    let form : ℕ = get_or bytes 0 0 in
    rw (p.1, p.2) (refused_behind_form number_kind argument_kind bytes form error some refl
    (number_form form (omega (arith, c.in-0-to-1)) (omega (arith, c.in-0-to-1))) c.in_err-number-in-0-to-1.ensures.bad)
