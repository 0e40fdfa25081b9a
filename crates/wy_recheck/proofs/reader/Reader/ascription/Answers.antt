use Rattle.std.proofs.Common.{refl, sym}
use Rattle.wy_cert.specs.declared.certificate.Rule.TheVariants as by
use Rattle.wy_recheck.proofs.NodesPassed.{node_as}
use Rattle.wy_recheck.proofs.reader.Reader.ascription.Goals as goal

pub returns : goal.returns
returns c =
    node_as c.args.self.now c.args.at.now by.Asc c.args.place 1 c.read_node.new.at c.read_node.result (sym c.same-holds.ensures) (sym c.in_ok-typ.ensures) refl c.read_node.ensures
