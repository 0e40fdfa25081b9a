use Rattle.std.proofs.Common.{ℕ, ◌<◌, length, get_or, refl, arith}
use Rattle.std.proofs.lemmas.Result.{err_from_is_err_and}
use Rattle.wy_image.specs.ConstantLaws.{constant_kind}
use Rattle.wy_image.specs.InstructionLaws.{instruction_kind}
use Rattle.wy_image.specs.OperatorLaws.{operator_kind}
use Rattle.wy_spelling.specs.Kinds.{number_kind, pair_of}
use Rattle.wy_spelling.proofs.Forms.{no_byte, no_form, refused_behind_form}
use Rattle.wy_image.proofs.InstructionForms.{call_form, constant_form, high_form, low_form, operator_form, other_form}
use Rattle.wy_image.proofs.instructions.InstructionSpelled.read.Goals as goal

pub returns-in_default-clause-bad : goal.returns-in_default-clause-bad
returns-in_default-clause-bad c = no_byte instruction_kind c.args.bytes.now c.in_default.len_below

pub returns-in_default-form-clause-bad : goal.returns-in_default-form-clause-bad
returns-in_default-form-clause-bad c =
    let bytes = c.args.bytes.now in
    no_form instruction_kind bytes (other_form bytes (λ l h. grind (arith, c.in_default-form, l, h)))

pub returns-in_err-constant-in-1-clause-bad : goal.returns-in_err-constant-in-1-clause-bad
returns-in_err-constant-in-1-clause-bad c =
    let residual = c.from_residual in
    let p = err_from_is_err_and residual.result residual.ensures.1 in
    let bytes = c.args.bytes.now in
    let error = c.in_err-constant-in-1.field-0.0 in
    let some : 0 < length bytes = omega (arith, c.in-len1-up.len_at_least) in
    rw (p.1, p.2) (refused_behind_form constant_kind instruction_kind bytes 1 error some c.in-1.is
    constant_form c.in_err-constant-in-1.ensures.bad)

pub returns-in_err-number-in-2-to-5-clause-bad : goal.returns-in_err-number-in-2-to-5-clause-bad
returns-in_err-number-in-2-to-5-clause-bad c =
    let residual = c.from_residual-in_err-number-in-2-to-5 in
    let p = err_from_is_err_and residual.result residual.ensures.1 in
    let bytes = c.args.bytes.now in
    let error = c.in_err-number-in-2-to-5.field-0.0 in
    let some : 0 < length bytes = omega (arith, c.in-len1-up.len_at_least) in
    let form : ℕ = get_or bytes 0 0 in
    rw (p.1, p.2) (refused_behind_form number_kind instruction_kind bytes form error some refl
    (low_form form (omega (arith, c.in-2-to-5)) (omega (arith, c.in-2-to-5))) c.in_err-number-in-2-to-5.ensures.bad)

pub returns-in_err-operator-in-7-clause-bad : goal.returns-in_err-operator-in-7-clause-bad
returns-in_err-operator-in-7-clause-bad c =
    let residual = c.from_residual-in_err-operator-in-7 in
    let p = err_from_is_err_and residual.result residual.ensures.1 in
    let bytes = c.args.bytes.now in
    let error = c.in_err-operator-in-7.field-0.0 in
    let some : 0 < length bytes = omega (arith, c.in-len1-up.len_at_least) in
    rw (p.1, p.2) (refused_behind_form operator_kind instruction_kind bytes 7 error some c.in-7.is
    operator_form c.in_err-operator-in-7.ensures.bad)

pub returns-in_err-number-in-8-to-10-clause-bad : goal.returns-in_err-number-in-8-to-10-clause-bad
returns-in_err-number-in-8-to-10-clause-bad c =
    let residual = c.from_residual-in_err-number-in-8-to-10 in
    let p = err_from_is_err_and residual.result residual.ensures.1 in
    let bytes = c.args.bytes.now in
    let error = c.in_err-number-in-8-to-10.field-0.0 in
    let some : 0 < length bytes = omega (arith, c.in-len1-up.len_at_least) in
    let form : ℕ = get_or bytes 0 0 in
    rw (p.1, p.2) (refused_behind_form number_kind instruction_kind bytes form error some refl
    (high_form form (omega (arith, c.in-8-to-10)) (omega (arith, c.in-8-to-10))) c.in_err-number-in-8-to-10.ensures.bad)

pub returns-in_err-method-in-11-clause-bad : goal.returns-in_err-method-in-11-clause-bad
returns-in_err-method-in-11-clause-bad c =
    let residual = c.from_residual-in_err-method-in-11 in
    let p = err_from_is_err_and residual.result residual.ensures.1 in
    let bytes = c.args.bytes.now in
    let error = c.in_err-method-in-11.field-0.0 in
    let some : 0 < length bytes = omega (arith, c.in-len1-up.len_at_least) in
    rw (p.1, p.2) (refused_behind_form (pair_of number_kind number_kind) instruction_kind bytes 11 error some c.in-11.is
    call_form c.in_err-method-in-11.ensures.bad)
