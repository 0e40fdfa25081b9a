use Rattle.std.proofs.Common.{◌<◌, ◌∷◌, [], length, refl, rules}
use Rattle.wy_symbols.specs.TypeUses.{type_ref, use_refusals, param_types, params_refusals}
use Rattle.wy_symbols.proofs.Nexts.{added_next, noted_next}
use Rattle.wy_symbols.proofs.signatures.read_params.Goals as goal

pub loop-param-preserved : goal.loop-param-preserved
loop-param-preserved c =
    let params = c.args.params.now in
    let i = c.loop-param.param-index in
    let lt : i < length params = search rules in
    let x = c.param-item.result in
    let s = c.args.scope.now in
    let plain = c.args.plain in
    record {
      types = added_next params i x lt c.param-item.is (param_types s plain) c.loop-param.types c.push.new.self (type_ref s plain x.type_use ∷ []) (param_types s plain params)
          (search rules) refl c.loop-param.invariant.types;
      least = noted_next params i x lt c.param-item.is (params_refusals s plain) c.loop-param.least c.read_type.new.least c.args.least.now (use_refusals s plain x.type_use)
          (search rules) refl c.loop-param.invariant.least;
    }
