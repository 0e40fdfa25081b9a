use Rattle.std.proofs.Common.{◌∙◌, ap, sym}
use Rattle.wy_subtype.specs.Nodes.{with_outcome}
use Rattle.wy_subtype.proofs.Knowing.{keys-with, written_with}
use Rattle.wy_subtype.proofs.nodes.Nodes.learn.Goals as goal

pub invariant_of-self : goal.invariant_of-self
invariant_of-self c = c.self.invariant ∙ sym (keys-with c.self.inside.nodes.items c.args.number c.args.outcome c.index_mut.result.now c.index_mut.ensures.value)

pub returns : goal.returns
returns c =
    written_with c.self.inside.nodes.items c.args.number c.args.outcome c.index_mut.result.now c.index_mut.ensures.value ∙
    ap (λ l. with_outcome l c.args.number c.args.outcome) c.self.view_is
