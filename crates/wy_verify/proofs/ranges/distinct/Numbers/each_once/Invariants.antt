use Rattle.std.proofs.Common.{take}
use Rattle.wy_verify.proofs.RangeLists.{AreIn}
use Rattle.wy_verify.proofs.ranges.distinct.Numbers.each_once.Given as goal

abbrev pub invariant-loop-number : goal.invariant-loop-number
invariant-loop-number l = AreIn (take l.number-index l.numbers) l.seen.keys
