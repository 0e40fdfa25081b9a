use Rattle.std.proofs.Common.{ℕ, List, [], ◌∷◌, ◌∙◌, ap, sym, subst, arith}
use Rattle.std.proofs.lemmas.Result.{err_from_is_err_and}
use Rattle.wy_spelling.specs.NumberLaws.{numbers_apart}
use Rattle.wy_spelling.specs.Reading.{IsRefused}
use Rattle.wy_spelling.specs.Spelling.{AreBoth, AreSpelled, IsNumber, both_bytes, list_bytes, number_bytes}
use Rattle.wy_spelling.proofs.Fronts.{refused_behind}
use Rattle.wy_cert.specs.Spelled.{IsSetSpelled, IsTypeSpelled, set_bytes, type_bytes}
use Rattle.wy_cert.specs.TypeLaws.{at_apart, named_apart}
use Rattle.wy_cert.proofs.TypeFronts.{at_goes, named_goes, no_byte, no_form, own_goes}
use Rattle.wy_cert.proofs.Written.{behind_first, first_is}
use Rattle.wy_cert.proofs.types.CertTypeSpelled.read.Goals as goal

pub returns-in_default-clause-bad : goal.returns-in_default-clause-bad
returns-in_default-clause-bad c = no_byte c.args.bytes.now c.in_default.len_below

pub returns-in_default-form-clause-bad : goal.returns-in_default-form-clause-bad
returns-in_default-form-clause-bad c = no_form c.args.bytes.now (omega (arith, c.in_default-form))

pub returns-in_err-decl-in-4-clause-bad : goal.returns-in_err-decl-in-4-clause-bad
returns-in_err-decl-in-4-clause-bad c =
    let p = err_from_is_err_and c.from_residual.result c.from_residual.ensures.1 in
    let bytes = c.args.bytes.now in
    let error = c.in_err-decl-in-4.field-0.0 in
    let first = first_is bytes 4 (omega (arith, c.in-len1-up.len_at_least)) c.in-4.is in
    rw (p.1, p.2) (subst (λ (b : List ℕ). IsRefused IsTypeSpelled type_bytes b error) (sym first) (refused_behind (AreBoth IsNumber (AreSpelled IsSetSpelled)) (both_bytes number_bytes (list_bytes set_bytes)) IsTypeSpelled type_bytes (4 ∷ []) (behind_first bytes) error named_apart named_goes c.in_err-decl-in-4.ensures.bad))

pub returns-in_err-decl-in-5-clause-bad : goal.returns-in_err-decl-in-5-clause-bad
returns-in_err-decl-in-5-clause-bad c =
    let p = err_from_is_err_and c.from_residual-in_err-decl-in-5.result c.from_residual-in_err-decl-in-5.ensures.1 in
    let bytes = c.args.bytes.now in
    let error = c.in_err-decl-in-5.field-0.0 in
    let first = first_is bytes 5 (omega (arith, c.in-len1-up.len_at_least)) c.in-5.is in
    rw (p.1, p.2) (subst (λ (b : List ℕ). IsRefused IsTypeSpelled type_bytes b error) (sym first) (refused_behind (AreBoth IsNumber IsSetSpelled) (both_bytes number_bytes set_bytes) IsTypeSpelled type_bytes (5 ∷ []) (behind_first bytes) error at_apart at_goes c.in_err-decl-in-5.ensures.bad))

pub returns-in_err-literal-in-6-clause-bad : goal.returns-in_err-literal-in-6-clause-bad
returns-in_err-literal-in-6-clause-bad c =
    let p = err_from_is_err_and c.from_residual-in_err-literal-in-6.result c.from_residual-in_err-literal-in-6.ensures.1 in
    let bytes = c.args.bytes.now in
    let error = c.in_err-literal-in-6.field-0.0 in
    let first = first_is bytes 6 (omega (arith, c.in-len1-up.len_at_least)) c.in-6.is in
    rw (p.1, p.2) (subst (λ (b : List ℕ). IsRefused IsTypeSpelled type_bytes b error) (sym first) (refused_behind IsNumber number_bytes IsTypeSpelled type_bytes (6 ∷ []) (behind_first bytes) error numbers_apart own_goes c.in_err-literal-in-6.ensures.bad))

pub returns-in-0-clause-found : goal.returns-in-0-clause-found
returns-in-0-clause-found c = (tt, first_is c.args.bytes.now 0 (omega (arith, c.in-len1-up.len_at_least)) c.in-0.is)

pub returns-in-1-clause-found : goal.returns-in-1-clause-found
returns-in-1-clause-found c = (tt, first_is c.args.bytes.now 1 (omega (arith, c.in-len1-up.len_at_least)) c.in-1.is)

pub returns-in-2-clause-found : goal.returns-in-2-clause-found
returns-in-2-clause-found c = (tt, first_is c.args.bytes.now 2 (omega (arith, c.in-len1-up.len_at_least)) c.in-2.is)

pub returns-in-3-clause-found : goal.returns-in-3-clause-found
returns-in-3-clause-found c = (tt, first_is c.args.bytes.now 3 (omega (arith, c.in-len1-up.len_at_least)) c.in-3.is)

pub returns-in_ok-decl-in-4-clause-found : goal.returns-in_ok-decl-in-4-clause-found
returns-in_ok-decl-in-4-clause-found c =
    let found = c.in_ok-decl-in-4.ensures.found in
    (found.0, first_is c.args.bytes.now 4 (omega (arith, c.in-len1-up.len_at_least)) c.in-4.is ∙ ap (λ (b : List ℕ). 4 ∷ b) found.1)

pub returns-in_ok-decl-in-5-clause-found : goal.returns-in_ok-decl-in-5-clause-found
returns-in_ok-decl-in-5-clause-found c =
    let found = c.in_ok-decl-in-5.ensures.found in
    (found.0, first_is c.args.bytes.now 5 (omega (arith, c.in-len1-up.len_at_least)) c.in-5.is ∙ ap (λ (b : List ℕ). 5 ∷ b) found.1)

pub returns-in_ok-literal-in-6-clause-found : goal.returns-in_ok-literal-in-6-clause-found
returns-in_ok-literal-in-6-clause-found c =
    let found = c.in_ok-literal-in-6.ensures.found in
    (found.0, first_is c.args.bytes.now 6 (omega (arith, c.in-len1-up.len_at_least)) c.in-6.is ∙ ap (λ (b : List ℕ). 6 ∷ b) found.1)
