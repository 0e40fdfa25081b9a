use Rattle.std.proofs.Common.{[], false, length, map, refl, rules, ◌++◌, ◌<◌, ◌∷◌, ap, ◌∙◌}
use Rattle.wy_heads.specs.Lines.{param_name}
use Rattle.wy_symbols.proofs.Nexts.{added_next}
use Rattle.wy_heads.proofs.own_names.add_effect_params.Goals as goal

pub loop-i-preserved : goal.loop-i-preserved
loop-i-preserved c =
    let lt : c.loop-i.i < length c.args.params.now = search rules in
    added_next c.args.params.now c.loop-i.i c.index-params-i.result lt c.index-params-i.is (map (param_name c.args.scope.now false)) c.loop-i.list c.push.new.self (param_name c.args.scope.now false c.index-params-i.result ∷ []) (c.args.list.now ++ map (param_name c.args.scope.now false) c.args.params.now) (c.in_ok-push.ensures.ok ∙ ap (λ y. c.loop-i.list ++ y ∷ []) c.in_ok-effect_param.ensures) refl c.loop-i.invariant
