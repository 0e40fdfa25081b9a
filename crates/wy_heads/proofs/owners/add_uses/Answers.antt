use Rattle.std.proofs.Common.{◌<◌, length, rules, [], map, refl, subst, ◌∷◌}
use Rattle.wy_symbols.specs.Atoms.{use_owner}
use Rattle.wy_syntax.specs.Collected.{Adds}
use Rattle.wy_symbols.specs.declared.scoping.Owner.{Owner}
use Rattle.wy_symbols.specs.declared.scoping.Opening.{Opening}
use Rattle.wy_symbols.proofs.Nexts.{collected_next}
use Rattle.wy_symbols.specs.Lent.{module_tree}
use Rattle.wy_heads.proofs.owners.add_uses.Goals as goal

pub loop-name-preserved : goal.loop-name-preserved
loop-name-preserved c =
    let lt : c.loop-name.name-index < length c.args.uses.now = search rules in
    let P : Opening → Type 0 = λ o. Adds {X = Owner} (record { name = c.name-item.result.text; opening = o } ∷ []) c.loop-name.owners c.add.new.self in
    let added = subst P c.module_opening.ensures c.add.ensures in
    collected_next c.args.uses.now c.loop-name.name-index c.name-item.result lt c.name-item.is (map (use_owner c.args.types.now (map module_tree c.args.modules.now))) c.loop-name.owners c.add.new.self c.args.owners.now (use_owner c.args.types.now (map module_tree c.args.modules.now) c.name-item.result ∷ []) added (refl) c.loop-name.invariant
