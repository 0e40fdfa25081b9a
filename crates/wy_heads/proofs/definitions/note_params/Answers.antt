use Rattle.std.proofs.Common.{◌<◌, ◌+◌, ◌∷◌, [], ap, ◌∙◌, rules, drop, length}
use Rattle.wy_heads.specs.Lines.{param_refusals}
use Rattle.wy_symbols.proofs.Turns.{next_of}
use Rattle.wy_symbols.proofs.Leasts.{noted_turn}
use Rattle.wy_heads.proofs.Params.{params_more}
use Rattle.wy_heads.proofs.definitions.note_params.Goals as goal

pub loop-param-preserved : goal.loop-param-preserved
loop-param-preserved c =
    let lt : c.loop-param.param-index < length c.args.params.now = search rules in
    let left = drop (c.loop-param.param-index + 1) c.args.params.now in
    let refusals = param_refusals c.args.scope.now c.args.plain in
    noted_turn c.loop-param.least c.note_param.new.least c.args.least.now (refusals (c.param-item.result ∷ [])) (refusals left)
    (refusals (drop c.loop-param.param-index c.args.params.now)) (refusals c.args.params.now) (search rules)
    (ap refusals (next_of c.args.params.now c.loop-param.param-index c.param-item.result lt c.param-item.is)
    ∙ params_more c.args.scope.now c.args.plain c.param-item.result left)
    c.loop-param.invariant
