use Rattle.wy_text.proofs.Lists.{In-read}
use Rattle.wy_certify.specs.Step.{steps_of}
use Rattle.wy_certify.proofs.Numbers.{parts_said, node_turn}
use Rattle.wy_certify.proofs.listing.cert_nodes_of.Goals as goal

pub loop-step-init : goal.loop-step-init
unfolding steps_of
loop-step-init c = c.new-nodes.ensures

pub cert_node_of-requires-clause-parts : goal.cert_node_of-requires-clause-parts
cert_node_of-requires-clause-parts c =
    let x = c.step-item.result in
    parts_said c.args.steps.now c.requires.1 x (In-read c.args.steps.now c.loop-step.step-index x x c.loop-step-test.true c.step-item.is)

pub loop-step-preserved : goal.loop-step-preserved
loop-step-preserved c =
    node_turn c.args.table.now c.args.steps.now c.loop-step.step-index c.step-item.result c.loop-step-test.true c.step-item.is c.loop-step.nodes c.push.new.self c.in_ok-cert_node_of.field-0
    c.loop-step.invariant c.in_ok-cert_node_of.ensures c.in_ok-push.ensures.ok
