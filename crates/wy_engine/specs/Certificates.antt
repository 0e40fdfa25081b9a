-- What bytes prove of a program whose names resolve.
use Rattle.std.specs.Prelude.{codes, ◌≡◌, ◌<◌, ◌≤◌, ℕ, List, ◌∷◌, length, ⊤}
use Rattle.wy_text.specs.LimitName.{limit_number}
use Rattle.wy_text.specs.declared.limit.LimitName.TheVariants as limit
use Rattle.wy_types.specs.Program.{Program}
use Rattle.wy_recheck.specs.ProvedBy.{IsProvedBy, IsRefusedBy}
use Rattle.wy_recheck.specs.declared.rechecking.CertRefusal.TheVariants as refusal
use Rattle.wy_engine.specs.NameFaults.{ResolveTo}
use Rattle.wy_engine.specs.declared.status.Status.{Status}
use Rattle.wy_engine.specs.declared.status.Status.TheVariants as status
use Rattle.wy_settings.specs.declared.command_line.Command.{Command}
use Rattle.wy_settings.specs.declared.command_line.Command.TheVariants as command

-- the most bytes of a certificate
abbrev pub most_certificate : ℕ
most_certificate = limit_number limit.CertificateBytes

-- what is written where a certificate proves the program of texts
abbrev pub proved_text : List ℕ
proved_text = codes "proved\n"

-- the first of these files is there for a certificate, and the others are texts
pub record UnderCertificate (files : List (List ℕ)) : Type 0 where
  pub bytes : List ℕ
  pub texts : List (List ℕ)
  pub split : files ≡ bytes ∷ texts

-- .. and has more bytes than the limit
pub record HasLargeCertificate (files : List (List ℕ)) : Type 0 where
  pub under : UnderCertificate files
  pub large : most_certificate < length under.bytes

-- .. and is within the limit; other commands than `recheck` have no certificate among their files
abbrev pub HasNoLargeCertificate : Command → List (List ℕ) → Type 0
HasNoLargeCertificate command.Recheck (bytes ∷ texts) = length bytes ≤ most_certificate
HasNoLargeCertificate asked files = ⊤

-- the first of these files is within the limit, and the others have trees whose names resolve to this program
pub record ResolveBehind (files : List (List ℕ)) (program : Program) : Type 0 where
  pub under : UnderCertificate files
  pub within : length under.bytes ≤ most_certificate
  pub read : ResolveTo under.texts program

-- the status that bytes give which do not prove the program: they are no certificate's; or they are one of which a test fails
abbrev pub Disproves : List ℕ → Program → Status → Type 0
Disproves bytes program (status.BadCert at) = IsRefusedBy program bytes (refusal.BadCert at)
Disproves bytes program (status.Unproved scope test index) = IsRefusedBy program bytes (refusal.Unproved scope test index)
Disproves bytes program other = ⊥

-- .. and this is the status that the first gives
pub record StopsByCertificate (files : List (List ℕ)) (end : Status) : Type 0 where
  pub program : Program
  pub resolve : ResolveBehind files program
  pub disproves : Disproves resolve.under.bytes program end

-- .. and the first proves the program
pub record ProvesTexts (files : List (List ℕ)) (program : Program) : Type 0 where
  pub resolve : ResolveBehind files program
  pub proves : IsProvedBy program resolve.under.bytes
