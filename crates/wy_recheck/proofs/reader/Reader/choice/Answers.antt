use Rattle.std.proofs.Common.{◌≡◌, refl, sym, ap, ◌∙◌}
use Rattle.wy_types.specs.declared.types.TypeRef.TheVariants.{Bool}
use Rattle.wy_rules.specs.Canonical.{both, same_type}
use Rattle.wy_cert.specs.declared.certificate.Rule.TheVariants as by
use Rattle.wy_recheck.proofs.NodesPassed.{node_as}
use Rattle.wy_recheck.proofs.reader.Reader.choice.Goals.{then-same, else-same}
use Rattle.wy_recheck.proofs.reader.Reader.choice.Goals as goal

pub returns : goal.returns
returns c =
    let branches = same_type c.args.second.typ c.args.first.typ in
    let tested = ap (λ b. both b branches) (sym c.same.ensures) in
    let premise : both (same_type c.args.test.typ Bool) branches ≡ c.if-same.holds = tested ∙ elim c.if-same.branch [
      | then-same w ↦ ap (λ b. both b branches) w.if-same.true ∙ sym w.same-holds.ensures ∙ sym w.holds-is
      | else-same w ↦ ap (λ b. both b branches) w.if-same.false ∙ sym w.if-same.false ∙ sym w.holds-is
    ] in
    node_as c.args.self.now c.args.at.now by.If c.args.place 3 c.read_node.new.at c.read_node.result premise refl (sym c.in_ok-effect.ensures) c.read_node.ensures
