use Rattle.std.proofs.Common.{[], ap, ◌∙◌, length, map, refl, rules, ◌++◌, ◌<◌, ◌∷◌}
use Rattle.wy_heads.specs.Lines.{use_name}
use Rattle.wy_symbols.proofs.Nexts.{added_next}
use Rattle.wy_symbols.specs.Lent.{module_tree}
use Rattle.wy_heads.proofs.own_names.add_uses.Goals as goal

pub loop-i-preserved : goal.loop-i-preserved
loop-i-preserved c =
    let lt : c.loop-i.i < length c.args.uses.now = search rules in
    added_next c.args.uses.now c.loop-i.i c.index-uses-i.result lt c.index-uses-i.is (map (use_name c.args.owners.now.heads (map module_tree c.args.modules.now) c.args.owners.now.atoms)) c.loop-i.list c.push.new.self (use_name c.args.owners.now.heads (map module_tree c.args.modules.now) c.args.owners.now.atoms c.index-uses-i.result ∷ []) (c.args.list.now ++ map (use_name c.args.owners.now.heads (map module_tree c.args.modules.now) c.args.owners.now.atoms) c.args.uses.now) (c.in_ok-push.ensures.ok ∙ ap (λ y. c.loop-i.list ++ y ∷ []) c.in_ok-use_own.ensures) refl c.loop-i.invariant
