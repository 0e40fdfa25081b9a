use Rattle.std.proofs.Common.{◌<◌, length, rules, [], map, refl, subst, ◌∷◌}
use Rattle.wy_symbols.specs.Atoms.{grant_owner}
use Rattle.wy_syntax.specs.Collected.{Adds}
use Rattle.wy_symbols.specs.declared.scoping.Owner.{Owner}
use Rattle.wy_symbols.specs.declared.scoping.Opening.{Opening}
use Rattle.wy_symbols.proofs.Nexts.{collected_next}
use Rattle.wy_heads.proofs.owners.add_grants.Goals as goal

pub loop-grant-preserved : goal.loop-grant-preserved
loop-grant-preserved c =
    let lt : c.loop-grant.grant-index < length c.args.grants.now = search rules in
    let P : Opening → Type 0 = λ o. Adds {X = Owner} (record { name = c.grant-item.result.name.text; opening = o } ∷ []) c.loop-grant.owners c.add.new.self in
    let added = subst P c.grant_opening.ensures c.add.ensures in
    collected_next c.args.grants.now c.loop-grant.grant-index c.grant-item.result lt c.grant-item.is (map (grant_owner c.args.types.now)) c.loop-grant.owners c.add.new.self c.args.owners.now (grant_owner c.args.types.now c.grant-item.result ∷ []) added (refl) c.loop-grant.invariant
