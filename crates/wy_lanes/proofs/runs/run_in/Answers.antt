use Rattle.std.proofs.Common.{◌∙◌, arith}
use Rattle.wy_lanes.specs.Runs.{is_of}
use Rattle.wy_lanes.proofs.Fronts.{run_found, run_whole}
use Rattle.wy_lanes.proofs.runs.run_in.Goals as goal

pub returns-in-Some-clause-value : goal.returns-in-Some-clause-value
returns-in-Some-clause-value c =
    let told = c.in-Some.ensures in
    c.min.ensures ∙ run_found (is_of c.args.class) c.args.bytes.now c.mask.result c.in-Some.bit c.mask.ensures c.mask.type_inv told.there.1 told.there.2 (λ i l. told.lowest i (omega arith) l)

pub returns-in-None-clause-value : goal.returns-in-None-clause-value
returns-in-None-clause-value c =
    run_whole (is_of c.args.class) c.args.bytes.now c.mask.result c.mask.ensures c.mask.type_inv c.requires (λ i l. c.in-None.ensures.none i (omega arith) l)
