use Rattle.std.proofs.Common.{[], length, map, refl, rules, ◌++◌, ◌<◌, ◌∷◌, ap, ◌∙◌}
use Rattle.wy_heads.specs.Lines.{grant_name}
use Rattle.wy_symbols.proofs.Nexts.{added_next}
use Rattle.wy_heads.proofs.own_names.add_grants.Goals as goal

pub loop-i-preserved : goal.loop-i-preserved
loop-i-preserved c =
    let lt : c.loop-i.i < length c.args.grants.now = search rules in
    added_next c.args.grants.now c.loop-i.i c.index-grants-i.result lt c.index-grants-i.is (map (grant_name c.args.owners.now)) c.loop-i.list c.push.new.self (grant_name c.args.owners.now c.index-grants-i.result ∷ []) (c.args.list.now ++ map (grant_name c.args.owners.now) c.args.grants.now) (c.in_ok-push.ensures.ok ∙ ap (λ y. c.loop-i.list ++ y ∷ []) c.in_ok-grant_own.ensures) refl c.loop-i.invariant
