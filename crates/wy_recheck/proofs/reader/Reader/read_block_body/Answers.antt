use Rattle.std.proofs.Common.{◌≡◌, Err, refl, subst, Bool}
use Rattle.wy_recheck.specs.Nodes.{body_node_read, BodiesAreRead}
use Rattle.wy_recheck.proofs.NodesOfBodies.{behind_block, block_fails_first}
use Rattle.wy_recheck.proofs.NodesFailing.{handed_on}
use Rattle.wy_recheck.proofs.reader.Reader.read_block_body.Goals as goal

pub returns-in_err-read : goal.returns-in_err-read
returns-in_err-read c =
    let r = c.args.self.now in
    let e : c.from_residual.result ≡ Err c.in_err-read.field-0.0 = handed_on c.from_residual.result c.in_err-read.field-0.0 c.from_residual.ensures.1 in
    rw e (block_fails_first r.nodes.now _ _ _ refl _ c.in_err-read.ensures)

pub returns : goal.returns
returns c =
    let r = c.args.self.now in
    let z = c.in_ok-read.read in
    let mid = c.read_block.new.at in
    let P : Bool → Type 0 = λ v. BodiesAreRead r.nodes.now (body_node_read r mid v z.effect c.args.declared.now c.args.place 1) c.body_node.new.at c.body_node.result in
    behind_block r.nodes.now _ _ _ refl z mid _ c.body_node.result c.in_ok-read.ensures (subst P c.same-holds.ensures c.body_node.ensures)
