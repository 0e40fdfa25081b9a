use Rattle.std.proofs.Common.{List, subst}
use Rattle.std.proofs.lemmas.Result.{on_ok_weaker}
use Rattle.wy_types.specs.Program.{program_of}
use Rattle.wy_cert.specs.declared.certificate.CertScope.{CertScope}
use Rattle.wy_proving.specs.Proving.{IsProof}
use Rattle.wy_recheck.proofs.rechecking.recheck_from.Goals as goal

pub returns-clause-proved : goal.returns-clause-proved
returns-clause-proved g c =
    let P : List CertScope → Type 0 = IsProof (program_of c.args.core.now) in
    on_ok_weaker c.prove_scopes.result (λ h. (c.in_ok-certificate.certificate, c.in_ok-certificate.ensures.found, subst P c.as_slice.ensures h)) c.prove_scopes.ensures.proved
