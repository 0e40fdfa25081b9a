use Rattle.std.proofs.Common.{sym, subst}
use Rattle.std.proofs.lemmas.Result.{err_from_is_err_and}
use Rattle.wy_spelling.specs.Spelling.{SpellsFront}
use Rattle.wy_spelling.proofs.Shapes.{found_in_shape, refused_in_shape}
use Rattle.wy_cert.specs.ScopeLaws.{AreScopeParts, scope_of, scope_parts, scope_parts_apart, scope_parts_bytes, scope_shape}
use Rattle.wy_cert.specs.Spelled.{IsScopeSpelled, scope_bytes}
use Rattle.wy_cert.specs.declared.certificate.CertScope.{CertScope}
use Rattle.wy_cert.proofs.scopes.CertScopeSpelled.read.Goals as goal

pub returns-in_err-parts-clause-bad : goal.returns-in_err-parts-clause-bad
returns-in_err-parts-clause-bad c =
    let p = err_from_is_err_and c.from_residual.result c.from_residual.ensures.1 in
    rw (p.1, p.2) (refused_in_shape AreScopeParts scope_parts_bytes IsScopeSpelled scope_bytes scope_of scope_parts scope_shape c.args.bytes.now c.in_err-parts.field-0.0 scope_parts_apart c.in_err-parts.ensures.bad)

pub returns-clause-found : goal.returns-clause-found
returns-clause-found c =
    let rest = c.in_ok-parts.rest.now in
    let found = found_in_shape AreScopeParts scope_parts_bytes IsScopeSpelled scope_bytes scope_of scope_parts scope_shape c.args.bytes.now rest c.in_ok-parts.parts c.in_ok-parts.ensures.found in
    subst (λ (scope : CertScope). SpellsFront IsScopeSpelled scope_bytes c.args.bytes.now scope rest) (sym c.scope_of.ensures) found
