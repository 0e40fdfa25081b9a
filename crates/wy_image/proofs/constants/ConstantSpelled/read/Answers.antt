use Rattle.std.proofs.Common.{ℕ, ◌<◌, length, get_or, refl, arith}
use Rattle.std.proofs.lemmas.Result.{err_from_is_err_and}
use Rattle.wy_image.specs.ConstantLaws.{constant_kind}
use Rattle.wy_spelling.specs.Kinds.{int_kind, number_kind, text_kind, truth_kind}
use Rattle.wy_spelling.proofs.Forms.{no_byte, no_form, refused_behind_form}
use Rattle.wy_image.proofs.ConstantForms.{int_form, number_form, other_form, text_form, truth_form}
use Rattle.wy_image.proofs.constants.ConstantSpelled.read.Goals as goal

pub returns-in_default-clause-bad : goal.returns-in_default-clause-bad
returns-in_default-clause-bad c = no_byte constant_kind c.args.bytes.now c.in_default.len_below

pub returns-in_default-form-clause-bad : goal.returns-in_default-form-clause-bad
returns-in_default-form-clause-bad c =
    no_form constant_kind c.args.bytes.now (other_form c.args.bytes.now (omega (arith, c.in_default-form)))

pub returns-in_err-int-in-0-clause-bad : goal.returns-in_err-int-in-0-clause-bad
returns-in_err-int-in-0-clause-bad c =
    let residual = c.from_residual in
    let p = err_from_is_err_and residual.result residual.ensures.1 in
    let bytes = c.args.bytes.now in
    let error = c.in_err-int-in-0.field-0.0 in
    let some : 0 < length bytes = omega (arith, c.in-len1-up.len_at_least) in
    rw (p.1, p.2) (refused_behind_form int_kind constant_kind bytes 0 error some c.in-0.is
    int_form c.in_err-int-in-0.ensures.bad)

pub returns-in_err-truth-in-1-clause-bad : goal.returns-in_err-truth-in-1-clause-bad
returns-in_err-truth-in-1-clause-bad c =
    let residual = c.from_residual-in_err-truth-in-1 in
    let p = err_from_is_err_and residual.result residual.ensures.1 in
    let bytes = c.args.bytes.now in
    let error = c.in_err-truth-in-1.field-0.0 in
    let some : 0 < length bytes = omega (arith, c.in-len1-up.len_at_least) in
    rw (p.1, p.2) (refused_behind_form truth_kind constant_kind bytes 1 error some c.in-1.is
    truth_form c.in_err-truth-in-1.ensures.bad)

pub returns-in_err-text-in-3-clause-bad : goal.returns-in_err-text-in-3-clause-bad
returns-in_err-text-in-3-clause-bad c =
    let residual = c.from_residual-in_err-text-in-3 in
    let p = err_from_is_err_and residual.result residual.ensures.1 in
    let bytes = c.args.bytes.now in
    let error = c.in_err-text-in-3.field-0.0 in
    let some : 0 < length bytes = omega (arith, c.in-len1-up.len_at_least) in
    rw (p.1, p.2) (refused_behind_form text_kind constant_kind bytes 3 error some c.in-3.is
    text_form c.in_err-text-in-3.ensures.bad)

pub returns-in_err-number-in-4-to-5-clause-bad : goal.returns-in_err-number-in-4-to-5-clause-bad
returns-in_err-number-in-4-to-5-clause-bad c =
    let residual = c.from_residual-in_err-number-in-4-to-5 in
    let p = err_from_is_err_and residual.result residual.ensures.1 in
    let bytes = c.args.bytes.now in
    let error = c.in_err-number-in-4-to-5.field-0.0 in
    let some : 0 < length bytes = omega (arith, c.in-len1-up.len_at_least) in
    let form : ℕ = get_or bytes 0 0 in
    rw (p.1, p.2) (refused_behind_form number_kind constant_kind bytes form error some refl
    (number_form form (omega (arith, c.in-4-to-5)) (omega (arith, c.in-4-to-5))) c.in_err-number-in-4-to-5.ensures.bad)
