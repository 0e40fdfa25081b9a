use Rattle.std.proofs.Common.{arith}
use Rattle.wy_lanes.proofs.NumbersOf.{lowest_from-is, no_bit_from}
use Rattle.wy_lanes.proofs.number_set.lowest_bit.Goals as goal

pub returns-then-left-eq0-clause-none : goal.returns-then-left-eq0-clause-none
returns-then-left-eq0-clause-none c = no_bit_from c.args.word c.args.low c.if-left-eq0.true

pub returns-clause-there : goal.returns-clause-there
returns-clause-there c = let is = lowest_from-is c.args.word c.args.low c.ranges.word.fits (omega (arith, c.if-left-eq0.false)) in (is.0, is.1, is.2)

pub returns-clause-lowest : goal.returns-clause-lowest
returns-clause-lowest c = let is = lowest_from-is c.args.word c.args.low c.ranges.word.fits (omega (arith, c.if-left-eq0.false)) in is.3
