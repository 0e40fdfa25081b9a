use Rattle.wy_verify.proofs.RangeWhole.{whole_of, whole_lists, whole_units}
use Rattle.wy_verify.proofs.RangeTests.{refuted}
use Rattle.wy_verify.proofs.RangeJoins.{ok_reworded}
use Rattle.wy_verify.proofs.ranges.is_in_range.Goals as goal

pub returns-then-not-lists : goal.returns-then-not-lists
returns-then-not-lists c =
    refuted c.in_ok-lists.lists c.if-not-lists.true
    (c.in_ok-lists.ensures)
    (whole_lists c.args.file.now)

pub returns : goal.returns
returns c =
    ok_reworded c.are_units_in_range.result
    (c.are_units_in_range.ensures)
    (λ p. whole_of c.args.file.now ((c.in_ok-lists.ensures).0 c.if-not-lists.false) p)
    (whole_units c.args.file.now)

pub are_units_in_range-requires : goal.are_units_in_range-requires
are_units_in_range-requires c =
    (c.in_ok-lists.ensures.0 c.if-not-lists.false).parts.bodies
