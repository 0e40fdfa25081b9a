use Rattle.wy_verified.specs.Ranges.{ScopeInRange}
use Rattle.wy_verify.proofs.RangeTests.{item_fails, item_more, none_fails}
use Rattle.wy_verify.proofs.ranges.scopes.are_scopes.Goals as goal

pub returns-then-not-fits : goal.returns-then-not-fits
returns-then-not-fits c =
    item_fails (ScopeInRange c.args.file.now) c.args.scopes.now c.loop-scope.scope-index c.scope-item.result _ c.loop-scope-test.true c.scope-item.is c.if-not-fits.true
    (c.in_ok-fits.ensures)

pub loop-scope-preserved : goal.loop-scope-preserved
loop-scope-preserved c =
    item_more (ScopeInRange c.args.file.now) c.args.scopes.now c.loop-scope.scope-index c.scope-item.result _ c.loop-scope-test.true c.scope-item.is c.loop-scope.invariant c.if-not-fits.false
    (c.in_ok-fits.ensures)

pub returns : goal.returns
returns c = none_fails (ScopeInRange c.args.file.now) c.args.scopes.now c.loop-scope.scope-index c.loop-scope-test.false c.loop-scope.invariant
