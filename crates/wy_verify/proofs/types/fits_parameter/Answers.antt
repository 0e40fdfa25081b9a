use Rattle.std.proofs.Common.{get_or}
use Rattle.wy_verified.specs.declared.known.Kind.TheVariants.{Ints}
use Rattle.wy_verified.specs.Kinds.{Fits}
use Rattle.wy_verify.specs.Turns.{FitsAt}
use Rattle.wy_verify.proofs.Fitting.{decides, fits_there}
use Rattle.wy_verify.proofs.Reading.{read_default}
use Rattle.wy_verify.proofs.types.fits_parameter.Goals as goal

pub returns-clause-decided : goal.returns-clause-decided
returns-clause-decided c =
    let k = get_or c.args.kinds.now c.args.at Ints in
    decides c.fits.result (Fits c.args.site.now.image k c.parameter.result)
    (FitsAt c.args.site.now.image c.args.kinds.now c.args.method.now.params c.args.at)
    (fits_there c.args.site.now.image c.args.kinds.now c.args.method.now.params c.args.at k c.parameter.result
    (read_default c.args.kinds.now c.args.at Ints c.requires.left) c.parameter.ensures) c.fits.ensures.decided
