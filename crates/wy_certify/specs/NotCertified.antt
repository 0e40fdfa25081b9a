-- Why no certificate of a program is given (docs/LANGUAGE.md, "Certificates").
use Rattle.std.specs.Prelude.{◌≡◌, ◌<◌, List, length}
use Rattle.wy_text.specs.declared.limit.LimitName.TheVariants as limit
use Rattle.wy_types.specs.Program.{Program}
use Rattle.wy_cert.specs.declared.certificate.CertScope.{CertScope}
use Rattle.wy_cert.specs.Spelled.{certificate_bytes}
use Rattle.wy_certify.specs.declared.certifying.CertifyRefusal.{CertifyRefusal}
use Rattle.wy_certify.specs.declared.certifying.CertifyRefusal.TheVariants as refusal
use Rattle.wy_certify.specs.declared.listing.PartRefusal.{PartRefusal}
use Rattle.wy_certify.specs.declared.listing.PartRefusal.TheVariants as part
use Rattle.wy_certify.specs.Certificates.{most_bytes, IsTooLong}

-- why no certificate is given; of want of memory nothing is said
abbrev pub IsRefusedBy : Program → CertifyRefusal → Type 0
IsRefusedBy p (refusal.Limit name) = (name ≡ limit.CertificateBytes) × IsTooLong p
IsRefusedBy p refusal.Memory = Unit {0}

-- a refusal of a part, by numbers
abbrev pub refusal_of : PartRefusal → CertifyRefusal
refusal_of part.Limit = refusal.Limit limit.CertificateBytes
refusal_of part.Memory = refusal.Memory

-- why a certificate is not spelled
abbrev pub IsUnspelled : List CertScope → CertifyRefusal → Type 0
IsUnspelled cert (refusal.Limit name) = (name ≡ limit.CertificateBytes) × (most_bytes < length (certificate_bytes cert))
IsUnspelled cert refusal.Memory = Unit {0}
