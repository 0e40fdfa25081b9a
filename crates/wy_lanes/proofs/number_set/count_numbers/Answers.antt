use Rattle.std.proofs.Common.{◌∙◌, sym}
use Rattle.wy_lanes.proofs.NumbersOf.{length-numbers_of}
use Rattle.wy_lanes.proofs.number_set.count_numbers.Goals as goal

pub returns : goal.returns
returns c = c.count_bits.ensures ∙ sym (length-numbers_of c.args.words c.fits-words.1)
