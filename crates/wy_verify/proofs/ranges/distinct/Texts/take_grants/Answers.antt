use Rattle.wy_image.specs.declared.file.Grant.{Grant}
use Rattle.wy_verify.proofs.RangeLists.{begins, taken_more, taken_before, taken_all}
use Rattle.wy_verify.proofs.ranges.distinct.Texts.take_grants.Goals as goal

pub loop-grant-init : goal.loop-grant-init
loop-grant-init c = begins (λ (g : Grant). g.name) c.args.self.now c.args.grants.now c.requires

pub returns-then-not-fresh : goal.returns-then-not-fresh
returns-then-not-fresh c =
    taken_before (λ (g : Grant). g.name) c.args.self.now c.args.grants.now c.loop-grant.grant-index c.grant-item.result c.loop-grant-test.true c.grant-item.is c.loop-grant.self c.put.new.self c.loop-grant.invariant _ c.if-not-fresh.true c.in_ok-fresh.ensures

pub loop-grant-preserved : goal.loop-grant-preserved
loop-grant-preserved c =
    taken_more (λ (g : Grant). g.name) c.args.self.now c.args.grants.now c.loop-grant.grant-index c.grant-item.result c.loop-grant-test.true c.grant-item.is c.loop-grant.self c.put.new.self c.loop-grant.invariant _ c.if-not-fresh.false c.in_ok-fresh.ensures

pub returns : goal.returns
returns c = taken_all (λ (g : Grant). g.name) c.args.self.now c.args.grants.now c.loop-grant.grant-index c.loop-grant.self c.loop-grant-test.false c.loop-grant.invariant
