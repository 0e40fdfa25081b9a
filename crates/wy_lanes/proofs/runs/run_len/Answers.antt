use Rattle.std.proofs.Common.{arith}
use Rattle.wy_lanes.specs.Runs.{is_of}
use Rattle.wy_lanes.proofs.Fronts.{front_found, front_next}
use Rattle.wy_lanes.proofs.runs.run_len.Goals as goal

pub returns-then-found-block-clause-value : goal.returns-then-found-block-clause-value
returns-then-found-block-clause-value c =
    front_found (is_of c.args.class) c.args.bytes.now c.loop-rest.rest.now c.split_at.result.0.now c.split_at.result.1.now c.run_in-found.result c.loop-rest.invariant c.split_at.ensures.by_index.0
    c.run_in-found.ensures.value c.if-found-block.true

pub loop-rest-preserved : goal.loop-rest-preserved
loop-rest-preserved c =
    front_next (is_of c.args.class) c.args.bytes.now c.loop-rest.rest.now c.split_at.result.0.now c.split_at.result.1.now c.run_in-found.result c.loop-rest.invariant c.split_at.ensures.by_index.0
    c.run_in-found.ensures.value c.run_in-found.ensures.within (λ l. let n = c.if-found-block.false in omega (arith, l, n))
