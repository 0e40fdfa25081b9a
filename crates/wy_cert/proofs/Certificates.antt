-- No certificate's bytes begin another's.
use Rattle.std.proofs.Common.{codes}
use Rattle.wy_spelling.specs.ListLaws.{lists_apart}
use Rattle.wy_spelling.specs.Spelling.{AreApart, AreSpelled, list_bytes}
use Rattle.wy_spelling.proofs.Wholes.{files_apart}
use Rattle.wy_cert.specs.ScopeLaws.{scopes_apart}
use Rattle.wy_cert.specs.Spelled.{IsCertificateSpelled, IsScopeSpelled, certificate_bytes, scope_bytes}

pub certificates_apart : AreApart IsCertificateSpelled certificate_bytes
certificates_apart = files_apart (AreSpelled IsScopeSpelled) (list_bytes scope_bytes) (codes "WYCERT01") (lists_apart IsScopeSpelled scope_bytes scopes_apart)
