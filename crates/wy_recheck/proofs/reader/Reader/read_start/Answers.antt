use Rattle.std.proofs.Common.{ap}
use Rattle.wy_types.specs.Program.{start_of}
use Rattle.wy_types.specs.View.{values_of, block_of}
use Rattle.wy_recheck.proofs.NodesOfBodies.{bodies_as, starts_with_values, starts_with_block}
use Rattle.wy_recheck.proofs.reader.Reader.read_start.Goals as goal

pub returns-in-Init : goal.returns-in-Init
returns-in-Init c =
    let r = c.args.self.now in
    let form = starts_with_values r c.requires.owner c.args.at.now (values_of c.in-Init.values.items) (ap start_of c.in-Init.is) in
    bodies_as r.nodes.now _ c.read_fields.result _ _ form c.read_fields.ensures

pub returns-in-Run : goal.returns-in-Run
returns-in-Run c =
    let r = c.args.self.now in
    let form = starts_with_block r c.requires.owner c.args.at.now (block_of c.in-Run.block) (ap start_of c.in-Run.is) in
    bodies_as r.nodes.now _ c.read_block_body.result _ _ form c.read_block_body.ensures
