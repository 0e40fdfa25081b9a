use Rattle.std.proofs.Common.{sym, subst}
use Rattle.std.specs.Prelude.{◌↔◌, IfOk, OnOk, IsTrue}
use Rattle.wy_verified.specs.Images.{Image}
use Rattle.wy_verified.specs.Kinds.{Fits}
use Rattle.wy_verify.specs.Closing.{AreClosed}
use Rattle.wy_verify.proofs.types.fits.Goals as goal

pub fits-requires : goal.fits-requires
fits-requires c = subst (λ (i : Image). AreClosed i c.args.pairs.now) (sym c.judged.ensures) c.requires

pub returns-clause-decided : goal.returns-clause-decided
returns-clause-decided c =
    subst (λ (i : Image). IfOk c.fits.result (λ b. IsTrue b ↔ Fits i c.args.left c.args.right)) c.judged.ensures
    c.fits.ensures.decided

pub returns-clause-kept : goal.returns-clause-kept
returns-clause-kept c =
    subst (λ (i : Image). OnOk c.fits.result (AreClosed i c.fits.new.self)) c.judged.ensures c.fits.ensures.kept
