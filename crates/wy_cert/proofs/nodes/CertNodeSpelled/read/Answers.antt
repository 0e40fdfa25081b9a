use Rattle.std.proofs.Common.{sym, subst}
use Rattle.std.proofs.lemmas.Result.{err_from_is_err_and}
use Rattle.wy_spelling.specs.Spelling.{SpellsFront}
use Rattle.wy_spelling.proofs.Shapes.{found_in_shape, refused_in_shape}
use Rattle.wy_cert.specs.NodeLaws.{AreNodeParts, node_of, node_parts, node_parts_apart, node_parts_bytes, node_shape}
use Rattle.wy_cert.specs.Spelled.{IsNodeSpelled, node_bytes}
use Rattle.wy_cert.specs.declared.certificate.CertNode.{CertNode}
use Rattle.wy_cert.proofs.nodes.CertNodeSpelled.read.Goals as goal

pub returns-in_err-parts-clause-bad : goal.returns-in_err-parts-clause-bad
returns-in_err-parts-clause-bad c =
    let p = err_from_is_err_and c.from_residual.result c.from_residual.ensures.1 in
    rw (p.1, p.2) (refused_in_shape AreNodeParts node_parts_bytes IsNodeSpelled node_bytes node_of node_parts node_shape c.args.bytes.now c.in_err-parts.field-0.0 node_parts_apart c.in_err-parts.ensures.bad)

pub returns-clause-found : goal.returns-clause-found
returns-clause-found c =
    let rest = c.in_ok-parts.rest.now in
    let found = found_in_shape AreNodeParts node_parts_bytes IsNodeSpelled node_bytes node_of node_parts node_shape c.args.bytes.now rest c.in_ok-parts.parts c.in_ok-parts.ensures.found in
    subst (λ (node : CertNode). SpellsFront IsNodeSpelled node_bytes c.args.bytes.now node rest) (sym c.node_of.ensures) found
