use Rattle.std.proofs.Common.{◌≡◌, ℕ, Some, []}
use Rattle.std.specs.Prelude.{slice_get, Err}
use Rattle.wy_types.specs.Program.{Scope, program_of}
use Rattle.wy_cert.specs.declared.certificate.CertScope.{CertScope}
use Rattle.wy_proving.specs.declared.proof.CertTest.TheVariants.{Lines, Nodes}
use Rattle.wy_proving.specs.Proving.{LinesHold, ScopeProof, nodes_read}
use Rattle.wy_proving.specs.Reading.{bodies_stand}
use Rattle.wy_proving.specs.Unproved.{FailsAt}
use Rattle.wy_proving.proofs.CertifiedNodes.{nodes_are_read}
use Rattle.wy_recheck.specs.Standing.{FailsFirst}
use Rattle.wy_recheck.specs.Rechecked.{StopsIn}
use Rattle.wy_recheck.proofs.Told.{given_holds, given_fails, told_holds, told_fails}
use Rattle.wy_recheck.proofs.ScopesTold.{stops}
use Rattle.wy_recheck.proofs.NodesFailing.{handed_on}
use Rattle.wy_recheck.proofs.rechecking.prove_rules.Goals as goal

pub returns-in_err-told-clause-stopped : goal.returns-in_err-told-clause-stopped
returns-in_err-told-clause-stopped c =
    let p = program_of c.args.core.now in
    let k = c.args.number in
    let part : CertScope = c.args.part.now in
    let e : c.from_residual.result ≡ Err c.in_err-told.field-0.0 = handed_on c.from_residual.result c.in_err-told.field-0.0 c.from_residual.ensures.1 in
    rw e (λ s at.
    given_fails Lines c.standing_lines.result c.told.result c.in_err-told.field-0.0 (λ f. (v : Scope) → slice_get p.scopes k ≡ Some v → FailsFirst (FailsAt p k v part Lines) f) (StopsIn p k s part) c.told.ensures c.in_err-told.was c.standing_lines.ensures.first
    (λ f h. stops p k s part Lines (c.requires.before s at) f (h s at)))

pub returns-clause-proved : goal.returns-clause-proved
returns-clause-proved c =
    let p = program_of c.args.core.now in
    let k = c.args.number in
    let part : CertScope = c.args.part.now in
    let Q : Type 0 = (s : Scope) → slice_get p.scopes k ≡ Some s → ScopeProof p k s part in
    told_holds Nodes c.read_nodes.result c.told-2.result ((s : Scope) → slice_get p.scopes k ≡ Some s → (at : ℕ) × (nodes_read p k s part ≡ bodies_stand at [])) Q c.told-2.ensures c.read_nodes.ensures.hold
    (λ h s at.
    let before = c.requires.before s at in
    let lines = given_holds Lines c.standing_lines.result c.told.result c.in_ok-told.field-0 ((v : Scope) → slice_get p.scopes k ≡ Some v → LinesHold p k v part) c.told.ensures c.in_ok-told.was c.standing_lines.ensures.hold s at in
    record { types = before.0; pairs = before.1; plain = before.2; lines = lines; nodes = (nodes_are_read p k s part c.requires.core at before.1 before.2).0 (h s at) })

pub returns-clause-stopped : goal.returns-clause-stopped
returns-clause-stopped c =
    let p = program_of c.args.core.now in
    let k = c.args.number in
    let part : CertScope = c.args.part.now in
    told_fails Nodes c.read_nodes.result c.told-2.result (λ f. (v : Scope) → slice_get p.scopes k ≡ Some v → FailsFirst (FailsAt p k v part Nodes) f) (λ stop. (s : Scope) → slice_get p.scopes k ≡ Some s → StopsIn p k s part stop) c.told-2.ensures c.read_nodes.ensures.first
    (λ f h s at.
    let before = c.requires.before s at in
    let lines = given_holds Lines c.standing_lines.result c.told.result c.in_ok-told.field-0 ((v : Scope) → slice_get p.scopes k ≡ Some v → LinesHold p k v part) c.told.ensures c.in_ok-told.was c.standing_lines.ensures.hold s at in
    stops p k s part Nodes (before.0, before.1, before.2, lines) f (h s at))
