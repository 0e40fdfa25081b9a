use Rattle.std.proofs.Common.{◌≡◌, [], List, ℕ, sym, ap, ◌∙◌, subst, Bool}
use Rattle.wy_rules.specs.Canonical.{both}
use Rattle.wy_cert.specs.declared.certificate.CertNode.{CertNode}
use Rattle.wy_cert.specs.declared.certificate.Rule.TheVariants as by
use Rattle.wy_proving.specs.Reading.{says_untyped}
use Rattle.wy_recheck.specs.Nodes.{lists_of, IsPassed}
use Rattle.wy_recheck.proofs.NodesOfBodies.{passed_body}
use Rattle.wy_recheck.proofs.reader.Reader.body_node.Goals as goal
use Rattle.wy_recheck.proofs.reader.Reader.body_node.Goals.{then-holds, else-holds}

pub returns : goal.returns
returns c =
    let r = c.args.self.now in
    let q = c.args.place in
    let at = c.args.at.now in
    let allowed = (lists_of r).allows c.args.effect.now c.args.declared.now in
    let holds = both c.args.holds allowed in
    let same : c.if-holds.holds ≡ holds =
    elim c.if-holds.branch [
      | then-holds w ↦ w.holds-is ∙ w.allows-holds.ensures ∙ ap (λ b. both b allowed) (sym w.if-holds.true)
      | else-holds w ↦ w.holds-is ∙ w.if-holds.false ∙ sym (ap (λ b. both b allowed) w.if-holds.false)
    ] in
    let P : Bool → List ℕ → Type 0 = λ b e. IsPassed r.nodes.now (λ (n : CertNode). both b (says_untyped by.Body q c.args.parts e n)) at c.pass_untyped.new.at c.pass_untyped.result in
    passed_body holds q c.args.parts r.nodes.now at c.pass_untyped.new.at c.pass_untyped.result
    (subst (λ b. P b []) same (subst (λ e. P c.if-holds.holds e) c.empty.ensures c.pass_untyped.ensures))
