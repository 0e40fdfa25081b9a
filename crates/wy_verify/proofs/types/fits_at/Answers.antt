use Rattle.std.proofs.Common.{◌≡◌, Some, get_or, subst}
use Rattle.std.specs.Prelude.{slice_get}
use Rattle.wy_verified.specs.declared.known.Kind.TheVariants.{Ints}
use Rattle.wy_verified.specs.Kinds.{Fits, kinds_in}
use Rattle.wy_verify.specs.Turns.{FitsAt}
use Rattle.wy_verify.proofs.Fitting.{decides, fits_there}
use Rattle.wy_verify.proofs.Reading.{read_default}
use Rattle.wy_verify.proofs.types.fits_at.Goals as goal

pub returns-clause-decided : goal.returns-clause-decided
returns-clause-decided c =
    let k = get_or c.args.kinds.now c.args.at Ints in
    decides c.fits.result (Fits c.args.site.now.image k c.kind_there.result)
    (FitsAt c.args.site.now.image c.args.kinds.now (kinds_in c.args.site.now.x c.args.references.now) c.args.at)
    (fits_there c.args.site.now.image c.args.kinds.now (kinds_in c.args.site.now.x c.args.references.now) c.args.at k c.kind_there.result
    (read_default c.args.kinds.now c.args.at Ints c.requires.left) (subst (λ n. slice_get (kinds_in n c.args.references.now) c.args.at ≡ Some c.kind_there.result) c.x.ensures c.kind_there.ensures)) c.fits.ensures.decided
