use Rattle.wy_lanes.proofs.NumbersOf.{each_fits, numbers_of-difference_of}
use Rattle.wy_lanes.proofs.number_set.bits_without.Goals as goal

pub returns : goal.returns
returns c = numbers_of-difference_of c.args.words c.args.others c.fits-words.0 c.fits-others.0 (each_fits c.args.others c.fits-others.1)
