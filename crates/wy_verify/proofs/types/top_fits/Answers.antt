use Rattle.std.proofs.Common.{subst}
use Rattle.std.specs.Prelude.{◌↔◌, IfOk, IsTrue}
use Rattle.wy_verified.specs.declared.known.Kind.{Kind}
use Rattle.wy_verified.specs.Kinds.{Fits}
use Rattle.wy_verify.proofs.types.top_fits.Goals as goal

pub returns-clause-decided : goal.returns-clause-decided
returns-clause-decided c =
    subst (λ (k : Kind). IfOk c.fits.result (λ b. IsTrue b ↔ Fits c.args.site.now.image k c.args.kind))
    c.operand.ensures c.fits.ensures.decided

pub returns-clause-kept : goal.returns-clause-kept
returns-clause-kept c = c.fits.ensures.kept
