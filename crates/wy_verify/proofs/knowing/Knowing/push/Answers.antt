use Rattle.std.proofs.Common.{[], ◌∷◌, ap, ◌∙◌}
use Rattle.wy_verified.specs.declared.known.Known.{Known}
use Rattle.wy_verified.specs.Rules.{reversed}
use Rattle.wy_verify.proofs.Backwards.{pushed, with_operands}
use Rattle.wy_verify.proofs.knowing.Knowing.push.Goals as goal

pub returns : goal.returns
returns c =
    ap (λ t. with_operands c.self.inside.stored c.self.inside.set t)
    (ap (λ t. reversed t []) c.in_ok-push.ensures.items ∙ pushed c.self.inside.operands.items c.args.kind) ∙
    ap (λ (k : Known). with_operands k.stored k.set (c.args.kind ∷ k.operands)) c.self.view_is
