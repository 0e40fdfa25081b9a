use Rattle.std.proofs.Common.{[], length, map, refl, rules, true, ◌++◌, ◌<◌, ◌∷◌, ap, ◌∙◌}
use Rattle.wy_heads.specs.Lines.{param_name}
use Rattle.wy_symbols.proofs.Nexts.{added_next}
use Rattle.wy_heads.proofs.own_names.add_plain_params.Goals as goal

pub loop-param-preserved : goal.loop-param-preserved
loop-param-preserved c =
    let lt : c.loop-param.param-index < length c.args.params.now = search rules in
    added_next c.args.params.now c.loop-param.param-index c.param-item.result lt c.param-item.is (map (param_name c.args.scope.now true)) c.loop-param.list c.push.new.self (param_name c.args.scope.now true c.param-item.result ∷ []) (c.args.list.now ++ map (param_name c.args.scope.now true) c.args.params.now) (c.in_ok-push.ensures.ok ∙ ap (λ y. c.loop-param.list ++ y ∷ []) c.in_ok-plain_param.ensures) refl c.loop-param.invariant
