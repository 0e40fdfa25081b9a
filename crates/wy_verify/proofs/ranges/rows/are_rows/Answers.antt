use Rattle.wy_verified.specs.Ranges.{RowInRange}
use Rattle.wy_verify.proofs.RangeTests.{item_fails, item_more, none_fails}
use Rattle.wy_verify.proofs.ranges.rows.are_rows.Goals as goal

pub returns-then-not-is_row : goal.returns-then-not-is_row
returns-then-not-is_row c =
    item_fails (RowInRange c.args.standing.now.file.now c.args.standing.now.scope.now c.args.standing.now.owner c.args.standing.now.body.now) c.args.rows.now c.loop-row.row-index c.row-item.result c.is_row.result c.loop-row-test.true c.row-item.is c.if-not-is_row.true
    c.is_row.ensures

pub loop-row-preserved : goal.loop-row-preserved
loop-row-preserved c =
    item_more (RowInRange c.args.standing.now.file.now c.args.standing.now.scope.now c.args.standing.now.owner c.args.standing.now.body.now) c.args.rows.now c.loop-row.row-index c.row-item.result c.is_row.result c.loop-row-test.true c.row-item.is c.loop-row.invariant
    c.if-not-is_row.false c.is_row.ensures

pub returns : goal.returns
returns c = none_fails (RowInRange c.args.standing.now.file.now c.args.standing.now.scope.now c.args.standing.now.owner c.args.standing.now.body.now) c.args.rows.now c.loop-row.row-index c.loop-row-test.false c.loop-row.invariant
