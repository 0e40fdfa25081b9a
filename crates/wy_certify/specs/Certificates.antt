-- The certificate of an accepted program: of each scope its canonical derivation, the least lists of pairs that this and the rules for
-- the scope ask, and the types of these (docs/LANGUAGE.md, "Certificates").
use Rattle.std.specs.Prelude.{◌≡◌, ◌<◌, ◌≤◌, ℕ, List, Some, length, slice_get}
use Rattle.wy_text.specs.LimitName.{limit_number}
use Rattle.wy_text.specs.declared.limit.LimitName.TheVariants as limit
use Rattle.wy_types.specs.declared.types.TypeRef.{TypeRef}
use Rattle.wy_types.specs.Program.{Program, Scope}
use Rattle.wy_subtype.specs.declared.verdict.Mode.TheVariants.{Annotated, Plain}
use Rattle.wy_spelling.specs.Spelling.{Spells}
use Rattle.wy_cert.specs.declared.certificate.CertScope.{CertScope}
use Rattle.wy_cert.specs.Spelled.{IsCertificateSpelled, certificate_bytes}
use Rattle.wy_proving.specs.Certified.{Pair}
use Rattle.wy_proving.specs.Written.{asks, plain_asks, written_out, written_steps}
use Rattle.wy_certify.specs.Closed.{IsClosedList}
use Rattle.wy_certify.specs.Numbering.{IsEachOnce, part_types}
use Rattle.wy_certify.specs.LocalsAt.{locals_at}

-- the most bytes of a certificate
abbrev pub most_bytes : ℕ
most_bytes = limit_number limit.CertificateBytes

-- what is said of a scope: over the types of its `val`s that are found one after the other, the steps of its canonical derivation;
-- the pairs that these and its rules ask, with all that these pairs ask, in both modes; and all types of these, each once
pub record IsPart (p : Program) (k : ℕ) (s : Scope) (c : CertScope) : Type 0 where
  pub pairs : List Pair
  pub bares : List Pair
  pub types : List TypeRef
  pub closed : IsClosedList p k s Annotated (asks p k s (locals_at p k s)) pairs
  pub closed_plainly : IsClosedList p k s Plain (plain_asks p k s (locals_at p k s)) bares
  pub once : IsEachOnce (part_types pairs bares (locals_at p k s) (written_steps p k s (locals_at p k s))) types
  pub is : c ≡ written_out types pairs bares (locals_at p k s) (written_steps p k s (locals_at p k s))

-- what is said of each scope, in the order of the scopes
pub record IsCertificateOf (p : Program) (cert : List CertScope) : Type 0 where
  pub number : length cert ≡ length p.scopes
  pub parts : (k : ℕ) (s : Scope) (c : CertScope) → slice_get p.scopes k ≡ Some s → slice_get cert k ≡ Some c → IsPart p k s c

-- the bytes are those of a certificate of the program, and within the limit
abbrev pub IsCertified : Program → List ℕ → Type 0
IsCertified p bytes = (cert : List CertScope) × IsCertificateOf p cert × Spells IsCertificateSpelled certificate_bytes bytes cert × (length bytes ≤ most_bytes)

-- a certificate of the program has more bytes than the limit, four being counted for each number
abbrev pub IsTooLong : Program → Type 0
IsTooLong p = (cert : List CertScope) × IsCertificateOf p cert × (most_bytes < length (certificate_bytes cert))
