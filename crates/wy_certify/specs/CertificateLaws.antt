-- Laws of the certificates of a program: each proves it, and all have the same size.
use Rattle.std.specs.Prelude.{◌≡◌, List, length}
use Rattle.wy_types.specs.Program.{Program}
use Rattle.wy_types.specs.Core.{IsCore}
use Rattle.wy_rules.specs.Acceptance.{Accepted}
use Rattle.wy_cert.specs.declared.certificate.CertScope.{CertScope}
use Rattle.wy_cert.specs.Spelled.{certificate_bytes}
use Rattle.wy_proving.specs.Proving.{IsProof}
use Rattle.wy_certify.specs.Certificates.{IsCertificateOf}

-- a certificate of an accepted program proves it
abbrev pub CertificatesProve : Type 0
CertificatesProve =
    (p : Program) → IsCore p → Accepted p → (cert : List CertScope) → IsCertificateOf p cert → IsProof p cert

-- certificates of a program have as many bytes: they differ in the order of their types and pairs alone
abbrev pub OneSize : Type 0
OneSize =
    (p : Program) (one other : List CertScope) → IsCertificateOf p one → IsCertificateOf p other →
    length (certificate_bytes one) ≡ length (certificate_bytes other)
