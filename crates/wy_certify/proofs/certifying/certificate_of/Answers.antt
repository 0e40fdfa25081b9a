use Rattle.std.proofs.Common.{◌≡◌, List, Err, sym, subst, rules}
use Rattle.wy_types.specs.Program.{program_of}
use Rattle.wy_cert.specs.declared.certificate.CertScope.{CertScope}
use Rattle.wy_certify.specs.declared.finding.ScopePart.{ScopePart}
use Rattle.wy_certify.specs.Certificates.{IsCertificateOf}
use Rattle.wy_certify.specs.NotCertified.{refusal_of}
use Rattle.wy_certify.specs.Parts.{AreFoundParts}
use Rattle.wy_certify.proofs.Certificates.{parts_said, refused_by}
use Rattle.wy_certify.proofs.certifying.certificate_of.Goals as goal

pub returns-in_err-numbered-clause-refused : goal.returns-in_err-numbered-clause-refused
returns-in_err-numbered-clause-refused c =
    let p = program_of c.args.core.now in
    let r = c.in_err-numbered.field-0.0 in
    let slice : List ScopePart = c.as_slice.result.now in
    let found : AreFoundParts p slice = subst (λ (l : List ScopePart). AreFoundParts p l) (sym c.as_slice.ensures) c.in_ok-parts.ensures in
    let e : c.from_residual-in_err-numbered.result ≡ Err (refusal_of r) = search rules in
    rw e (refused_by p c.requires.core c.requires.accepted slice found r c.in_err-numbered.ensures.limit)

pub returns-clause-written : goal.returns-clause-written
returns-clause-written c =
    let p = program_of c.args.core.now in
    let slice : List ScopePart = c.as_slice.result.now in
    let found : AreFoundParts p slice = subst (λ (l : List ScopePart). AreFoundParts p l) (sym c.as_slice.ensures) c.in_ok-parts.ensures in
    subst (λ (l : List CertScope). IsCertificateOf p l) (sym c.in_ok-numbered.ensures.written) (parts_said p slice found)
