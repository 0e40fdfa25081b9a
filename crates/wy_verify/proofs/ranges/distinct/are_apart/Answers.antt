use Rattle.wy_verify.proofs.RangeLists.{given_apart}
use Rattle.wy_verify.proofs.ranges.distinct.are_apart.Goals as goal

pub returns : goal.returns
returns c =
    given_apart c.in_ok-seen.seen c.args.numbers.now c.is_some.result c.is_some.ensures c.in_ok-seen.ensures
