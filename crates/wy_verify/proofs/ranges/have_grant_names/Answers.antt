use Rattle.wy_image.specs.declared.file.Grant.{Grant}
use Rattle.wy_verified.specs.Ranges.{IsGrantName}
use Rattle.wy_verify.proofs.RangeTests.{item_fails, item_more, none_fails}
use Rattle.wy_verify.proofs.ranges.have_grant_names.Goals as goal

pub returns-then-not-is_grant_name : goal.returns-then-not-is_grant_name
returns-then-not-is_grant_name c =
    item_fails ((λ (g : Grant). IsGrantName g.name)) c.args.grants.now c.loop-grant.grant-index c.grant-item.result c.is_grant_name.result c.loop-grant-test.true c.grant-item.is c.if-not-is_grant_name.true
    c.is_grant_name.ensures

pub loop-grant-preserved : goal.loop-grant-preserved
loop-grant-preserved c =
    item_more ((λ (g : Grant). IsGrantName g.name)) c.args.grants.now c.loop-grant.grant-index c.grant-item.result c.is_grant_name.result c.loop-grant-test.true c.grant-item.is c.loop-grant.invariant
    c.if-not-is_grant_name.false c.is_grant_name.ensures

pub returns : goal.returns
returns c = none_fails ((λ (g : Grant). IsGrantName g.name)) c.args.grants.now c.loop-grant.grant-index c.loop-grant-test.false c.loop-grant.invariant
