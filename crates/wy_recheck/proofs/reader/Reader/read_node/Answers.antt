use Rattle.std.proofs.Common.{sym, subst}
use Rattle.wy_types.specs.declared.types.TypeRef.{TypeRef}
use Rattle.wy_rules.specs.Canonical.{same_type}
use Rattle.wy_proving.specs.Reading.{Part}
use Rattle.wy_recheck.specs.Nodes.{reading_of, lists_of, IsRead}
use Rattle.wy_recheck.proofs.NodesPassed.{node_stands}
use Rattle.wy_recheck.proofs.reader.Reader.read_node.Goals as goal

pub returns : goal.returns
returns c =
    let r = c.args.self.now in
    let f = c.args.form in
    let x = c.args.part in
    let P : Part TypeRef → Type 0 = λ p. IsRead r.nodes.now p c.read_subs.new.at c.read_subs.result in
    subst P (sym (node_stands (reading_of r) same_type (lists_of r) c.args.holds f.rule f.place f.parts x.typ x.effect r.nodes.now c.args.at.now c.pass_typed.new.at c.in_ok-pass_typed.ensures)) c.read_subs.ensures
