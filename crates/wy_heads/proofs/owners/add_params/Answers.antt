use Rattle.std.proofs.Common.{◌<◌, length, rules, [], ◌∷◌}
use Rattle.wy_symbols.specs.Atoms.{params_owners}
use Rattle.wy_heads.proofs.Params.{owners_more}
use Rattle.wy_symbols.proofs.Nexts.{collected_next}
use Rattle.wy_heads.proofs.owners.add_params.Goals as goal

pub loop-param-preserved : goal.loop-param-preserved
loop-param-preserved c =
    let lt : c.loop-param.param-index < length c.args.params.now = search rules in
    let added = c.add_param.ensures in
    collected_next c.args.params.now c.loop-param.param-index c.param-item.result lt c.param-item.is (params_owners c.args.types.now c.args.plain) c.loop-param.owners c.add_param.new.owners c.args.owners.now (params_owners c.args.types.now c.args.plain (c.param-item.result ∷ [])) added (owners_more c.args.types.now c.args.plain c.param-item.result _) c.loop-param.invariant
