use Rattle.std.proofs.Common.{length, sym, ◌∙◌}
use Rattle.std.proofs.lemmas.List.{length-map}
use Rattle.wy_symbols.specs.Lent.{lent_declared, lent_type, module_tree}
use Rattle.wy_heads.proofs.Mosts.{first_counted}
use Rattle.wy_heads.proofs.limits.early_limit.Goals as goal

pub returns : goal.returns
returns c =
    c.first_over.ensures
    ∙ first_counted (lent_declared c.args.types.now c.args.modules.now c.args.programs.now)
    (length c.args.types.now) (length c.args.modules.now) c.most_grants.result c.declared_most-most.result
    (sym (length-map c.args.types.now lent_type)) (sym (length-map c.args.modules.now module_tree)) c.most_grants.ensures c.declared_most-most.ensures
