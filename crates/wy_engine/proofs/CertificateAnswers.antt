-- What bytes say of a program is one thing: they are no certificate's, or a certificate's of which one test fails first, or they prove it.
use Rattle.std.proofs.Common.{◌≡◌, ◌<◌, ◌≤◌, ℕ, List, refl, sym, ◌∙◌, ap, subst, arith, length}
use Rattle.wy_types.specs.Core.{IsCore}
use Rattle.wy_types.specs.Program.{Program}
use Rattle.wy_spelling.specs.Spelling.{IsBadAt, Spells}
use Rattle.wy_spelling.proofs.Wholes.{one_bad_place, one_spelling}
use Rattle.wy_cert.specs.Spelled.{IsCertificateSpelled, certificate_bytes}
use Rattle.wy_cert.specs.declared.certificate.CertScope.{CertScope}
use Rattle.wy_cert.proofs.Certificates.{certificates_apart}
use Rattle.wy_proving.specs.declared.proof.CertTest.{CertTest}
use Rattle.wy_proving.specs.Proving.{IsProof}
use Rattle.wy_proving.specs.Unproved.{IsFirstUnproved}
use Rattle.wy_proving.proofs.FirstFailures.{one_unproved, unproved_is_no_proof}
use Rattle.wy_recheck.specs.ProvedBy.{IsProvedBy}
use Rattle.wy_certify.specs.Certificates.{IsCertified, IsTooLong, most_bytes}
use Rattle.wy_certify.specs.CertificateLaws.{OneSize}
use Rattle.wy_engine.specs.Certificates.{Disproves}
use Rattle.wy_engine.specs.declared.status.Status.{Status}
use Rattle.wy_engine.specs.declared.status.Status.TheVariants as status

same_certificate : (bytes : List ℕ) (a b : List CertScope) → Spells IsCertificateSpelled certificate_bytes bytes a → Spells IsCertificateSpelled certificate_bytes bytes b → a ≡ b
same_certificate bytes a b h k = one_spelling IsCertificateSpelled certificate_bytes certificates_apart bytes a b h k

-- why bytes do not prove a program
data DisprovesBy (bytes : List ℕ) (p : Program) (end : Status) : Type 0 where
  bad : (at : ℕ) → IsBadAt IsCertificateSpelled certificate_bytes bytes at → end ≡ status.BadCert at → DisprovesBy bytes p end
  unproved : (cert : List CertScope) (scope : ℕ) (test : CertTest) (index : ℕ) → Spells IsCertificateSpelled certificate_bytes bytes cert → IsFirstUnproved p cert scope test index → end ≡ status.Unproved scope test index
      → DisprovesBy bytes p end

disproves_by : (bytes : List ℕ) (p : Program) (end : Status) → Disproves bytes p end → DisprovesBy bytes p end
disproves_by bytes p (status.BadCert at) is = bad at is refl
disproves_by bytes p (status.Unproved scope test index) is = unproved is.0 scope test index is.1 is.2 refl
disproves_by bytes p other is = absurd is

same_failure : (p : Program) → IsCore p → (a b : List CertScope) (k k' : ℕ) (t t' : CertTest) (i i' : ℕ) → a ≡ b → IsFirstUnproved p a k t i → IsFirstUnproved p b k' t' i' → status.Unproved k t i ≡ status.Unproved k' t' i'
same_failure p core a b k k' t t' i i' same h h' =
    let one = one_unproved p b core k k' t t' i i' (subst (λ (c : List CertScope). IsFirstUnproved p c k t i) same h) h' in
    ap (λ (n : ℕ). status.Unproved n t i) one.0 ∙ ap (λ (u : CertTest). status.Unproved k' u i) one.1 ∙ ap (λ (n : ℕ). status.Unproved k' t' n) one.2

module _ (p : Program) (core : IsCore p) (bytes : List ℕ) where
  by_one : (end other : Status) → DisprovesBy bytes p end → DisprovesBy bytes p other → end ≡ other
  by_one end other (bad at is named) (bad at' is' named') = named ∙ ap status.BadCert (one_bad_place IsCertificateSpelled certificate_bytes bytes at at' is is') ∙ sym named'
  by_one end other (bad at is named) (unproved cert k t i spells h named') = absurd (is.none cert spells)
  by_one end other (unproved cert k t i spells h named) (bad at is named') = absurd (is.none cert spells)
  by_one end other (unproved cert k t i spells h named) (unproved cert' k' t' i' spells' h' named') =
      named ∙ same_failure p core cert cert' k k' t t' i i' (same_certificate bytes cert cert' spells spells') h h' ∙ sym named'

  pub one_disproof : (end other : Status) → Disproves bytes p end → Disproves bytes p other → end ≡ other
  one_disproof end other h k = by_one end other (disproves_by bytes p end h) (disproves_by bytes p other k)

  by_none : (end : Status) → IsProvedBy p bytes → DisprovesBy bytes p end → ⊥
  by_none end h (bad at is named) = is.none h.0 h.1
  by_none end h (unproved cert k t i spells first named) =
      unproved_is_no_proof p cert core k t i first (subst (λ (c : List CertScope). IsProof p c) (same_certificate bytes h.0 cert h.1 spells) h.2)

  pub proved_or_disproved : (end : Status) → IsProvedBy p bytes → Disproves bytes p end → ⊥
  proved_or_disproved end h k = by_none end h (disproves_by bytes p end k)

-- a program's certificate is within the limit, or is not
pub certified_or_long : OneSize → (p : Program) (bytes : List ℕ) → IsCertified p bytes → IsTooLong p → ⊥
certified_or_long size p bytes a b =
    let same : length bytes ≡ length (certificate_bytes b.0) = sym (ap (λ (l : List ℕ). length l) a.2.1) ∙ size p a.0 b.0 a.1 b.1 in
    let within : length bytes ≤ most_bytes = a.3 in
    let long : most_bytes < length (certificate_bytes b.0) = b.2 in
    omega (arith, same, within, long)
