use Rattle.std.proofs.Common.{◌<◌, ◌≤◌, length, refl, rules}
use Rattle.wy_certify.specs.Settling.{standing_of}
use Rattle.wy_certify.proofs.Settled.{body_turn, bodies_end}
use Rattle.wy_certify.proofs.settling.Settler.settle_bodies.Goals as goal

pub loop-body-init : goal.loop-body-init
loop-body-init c = refl

pub loop-body-preserved : goal.loop-body-preserved
unfolding standing_of
loop-body-preserved c =
    let xs = c.args.bodies.now in
    let lt : c.loop-body.body-index < length xs = search rules in
    body_turn (standing_of c.args.self.now) xs c.loop-body.body-index c.body-item.result lt c.body-item.is _ c.loop-body.known.items c.settle_block.new.known.items c.loop-body.invariant c.in_ok-settle_block.ensures

pub returns : goal.returns
returns c =
    let xs = c.args.bodies.now in
    let short : length xs ≤ c.loop-body.body-index = search rules in
    bodies_end (standing_of c.args.self.now) xs c.loop-body.body-index short _ c.loop-body.known.items c.loop-body.invariant
