use Rattle.std.proofs.Common.{take, map, sym, ap, ◌∙◌}
use Rattle.wy_verify.specs.Closing.{both, pair_key}
use Rattle.wy_verify.proofs.Keys.{map_take}
use Rattle.wy_verify.proofs.pairs.Pairs.cut.Goals as goal

pub invariant_of-self : goal.invariant_of-self
invariant_of-self c =
    c.truncate-2.ensures.keys ∙ ap (take c.args.count) c.self.invariant ∙ map_take pair_key c.args.count c.self.inside.pairs.items ∙ ap (map pair_key) (sym c.truncate.ensures.items)

pub returns : goal.returns
returns c =
    ap (map both) c.truncate.ensures.items ∙ sym (map_take both c.args.count c.self.inside.pairs.items) ∙ ap (take c.args.count) c.self.view_is
