use Rattle.std.proofs.Common.{length, sym, ap, ◌∙◌}
use Rattle.wy_verified.specs.declared.known.Known.{Known}
use Rattle.wy_verified.proofs.Lists.{reversed_count}
use Rattle.wy_verify.proofs.knowing.Knowing.depth.Goals as goal

pub returns : goal.returns
returns c =
    c.len.ensures ∙ c.self.inside.operands.ok.0 ∙ sym (reversed_count c.self.inside.operands.items) ∙
    ap (λ (k : Known). length k.operands) c.self.view_is
