use Rattle.std.proofs.Common.{◌≡◌, take, map}
use Rattle.wy_proving.specs.Written.{cert_node}
use Rattle.wy_certify.specs.Step.{steps_of}
use Rattle.wy_certify.proofs.listing.cert_nodes_of.Given as goal

abbrev pub invariant-loop-step : goal.invariant-loop-step
invariant-loop-step l = l.nodes ≡ map (cert_node l.table) (steps_of (take l.step-index l.steps))
