use Rattle.std.proofs.Common.{◌≡◌, Some}
use Rattle.std.specs.Prelude.{slice_get, Err}
use Rattle.wy_types.specs.Program.{Scope, program_of}
use Rattle.wy_types.proofs.Arities.{core_in_range}
use Rattle.wy_cert.specs.declared.certificate.CertScope.{CertScope}
use Rattle.wy_proving.specs.declared.proof.CertTest.TheVariants.{Types, Pairs, Plain}
use Rattle.wy_proving.specs.Proving.{TypesHold, PairsHold, PlainPairsHold}
use Rattle.wy_proving.specs.Unproved.{FailsAt}
use Rattle.wy_recheck.specs.Standing.{FailsFirst}
use Rattle.wy_recheck.specs.Rechecked.{StopsIn}
use Rattle.wy_recheck.proofs.Told.{given_has, given_holds, given_fails}
use Rattle.wy_recheck.proofs.ScopesTold.{stops}
use Rattle.wy_recheck.proofs.NodesFailing.{handed_on}
use Rattle.wy_recheck.proofs.rechecking.prove_scope.Goals as goal

pub closed_pairs-requires-clause-core : goal.closed_pairs-requires-clause-core
closed_pairs-requires-clause-core g c = core_in_range (program_of c.args.core.now) c.requires.core

pub returns-in_err-pairs-clause-stopped : goal.returns-in_err-pairs-clause-stopped
returns-in_err-pairs-clause-stopped g c =
    let p = program_of c.args.core.now in
    let k = c.args.number in
    let part : CertScope = c.args.part.now in
    let e : c.from_residual-in_err-pairs.result ≡ Err c.in_err-pairs.field-0.0 = handed_on c.from_residual-in_err-pairs.result c.in_err-pairs.field-0.0 c.from_residual-in_err-pairs.ensures.1 in
    rw e (λ s at.
    let types = given_has Types c.standing_types.result c.told.result c.in_ok-types.types (λ ts. (v : Scope) → slice_get p.scopes k ≡ Some v → TypesHold p k v part) c.told.ensures c.in_ok-types.was c.standing_types.ensures.stand s at in
    given_fails Pairs c.closed_pairs.result c.told-2.result c.in_err-pairs.field-0.0 (λ f. (v : Scope) → FailsFirst (FailsAt p k v part Pairs) f) (StopsIn p k s part) c.told-2.ensures c.in_err-pairs.was c.closed_pairs.ensures.first
    (λ f h. stops p k s part Pairs types f (h s)))

pub closed_plain_pairs-requires-clause-core : goal.closed_plain_pairs-requires-clause-core
closed_plain_pairs-requires-clause-core g c = core_in_range (program_of c.args.core.now) c.requires.core

pub returns-in_err-plain-clause-stopped : goal.returns-in_err-plain-clause-stopped
returns-in_err-plain-clause-stopped g c =
    let p = program_of c.args.core.now in
    let k = c.args.number in
    let part : CertScope = c.args.part.now in
    let e : c.from_residual-in_err-plain.result ≡ Err c.in_err-plain.field-0.0 = handed_on c.from_residual-in_err-plain.result c.in_err-plain.field-0.0 c.from_residual-in_err-plain.ensures.1 in
    rw e (λ s at.
    let types = given_has Types c.standing_types.result c.told.result c.in_ok-types.types (λ ts. (v : Scope) → slice_get p.scopes k ≡ Some v → TypesHold p k v part) c.told.ensures c.in_ok-types.was c.standing_types.ensures.stand s at in
    let pairs = given_holds Pairs c.closed_pairs.result c.told-2.result c.in_ok-pairs.pairs ((v : Scope) → PairsHold p k v part) c.told-2.ensures c.in_ok-pairs.was c.closed_pairs.ensures.hold s in
    given_fails Plain c.closed_plain_pairs.result c.told-3.result c.in_err-plain.field-0.0 (λ f. (v : Scope) → FailsFirst (FailsAt p k v part Plain) f) (StopsIn p k s part) c.told-3.ensures c.in_err-plain.was c.closed_plain_pairs.ensures.first
    (λ f h. stops p k s part Plain (types, pairs) f (h s)))

pub prove_rules-requires-clause-before : goal.prove_rules-requires-clause-before
prove_rules-requires-clause-before g c = λ s at. (
    let p = program_of c.args.core.now in
    let k = c.args.number in
    let part : CertScope = c.args.part.now in
    let types = given_has Types c.standing_types.result c.told.result c.in_ok-types.types (λ ts. (v : Scope) → slice_get p.scopes k ≡ Some v → TypesHold p k v part) c.told.ensures c.in_ok-types.was c.standing_types.ensures.stand s at in
    let pairs = given_holds Pairs c.closed_pairs.result c.told-2.result c.in_ok-pairs.pairs ((v : Scope) → PairsHold p k v part) c.told-2.ensures c.in_ok-pairs.was c.closed_pairs.ensures.hold s in
    let plain = given_holds Plain c.closed_plain_pairs.result c.told-3.result c.in_ok-plain.plain ((v : Scope) → PlainPairsHold p k v part) c.told-3.ensures c.in_ok-plain.was c.closed_plain_pairs.ensures.hold s in
    (types, pairs, plain))
