-- What bytes prove of a program, and why they do not.
use Rattle.std.specs.Prelude.{ℕ, List}
use Rattle.wy_types.specs.Program.{Program}
use Rattle.wy_spelling.specs.Spelling.{IsBadAt, Spells}
use Rattle.wy_cert.specs.declared.certificate.CertScope.{CertScope}
use Rattle.wy_cert.specs.Spelled.{IsCertificateSpelled, certificate_bytes}
use Rattle.wy_proving.specs.Proving.{IsProof}
use Rattle.wy_proving.specs.Unproved.{IsFirstUnproved}
use Rattle.wy_recheck.specs.declared.rechecking.CertRefusal.{CertRefusal}
use Rattle.wy_recheck.specs.declared.rechecking.CertRefusal.TheVariants as refusal

-- the bytes are a certificate that proves the program
abbrev pub IsProvedBy : Program → List ℕ → Type 0
IsProvedBy p bytes = (cert : List CertScope) × Spells IsCertificateSpelled certificate_bytes bytes cert × IsProof p cert

-- they are none, and so many of them can stand; or they are one of which this test fails first
abbrev pub IsRefusedBy : Program → List ℕ → CertRefusal → Type 0
IsRefusedBy p bytes (refusal.BadCert at) = IsBadAt IsCertificateSpelled certificate_bytes bytes at
IsRefusedBy p bytes (refusal.Unproved scope test index) = (cert : List CertScope) × Spells IsCertificateSpelled certificate_bytes bytes cert × IsFirstUnproved p cert scope test index
IsRefusedBy p bytes refusal.Memory = Unit {0}
