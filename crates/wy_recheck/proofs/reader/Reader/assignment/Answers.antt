use Rattle.std.proofs.Common.{Option, refl, sym, subst}
use Rattle.wy_types.specs.declared.resolved.Field.{Field}
use Rattle.wy_rules.specs.Canonical.{same_type}
use Rattle.wy_cert.specs.declared.certificate.Rule.TheVariants as by
use Rattle.wy_proving.specs.Reading.{read_set}
use Rattle.wy_recheck.specs.Nodes.{reading_of, lists_of, left, IsRead}
use Rattle.wy_recheck.proofs.NodesPassed.{node_as}
use Rattle.wy_recheck.proofs.reader.Reader.assignment.Goals as goal

pub returns : goal.returns
returns c =
    let r = c.args.self.now in
    let at = c.args.at.now in
    let x = c.args.value in
    subst (λ (o : Option Field). IsRead r.nodes.now (read_set (reading_of r) same_type (lists_of r) o c.args.place x.typ x.effect at (left r at)) c.read_node.new.at c.read_node.result) c.in-Some.ensures
    (node_as r at by.Set c.args.place 1 c.read_node.new.at c.read_node.result (sym c.same-holds.ensures) refl refl c.read_node.ensures)
