use Rattle.std.proofs.Common.{◌≡◌, ◌++◌, drop}
use Rattle.wy_symbols.specs.Least.{noted}
use Rattle.wy_symbols.specs.TypeUses.{param_types, params_refusals}
use Rattle.wy_symbols.proofs.signatures.read_params.Given as goal

abbrev pub invariant-loop-param : goal.invariant-loop-param
invariant-loop-param l = record {
  types : l.types ++ param_types l.scope l.plain (drop l.param-index l.params) ≡ param_types l.scope l.plain l.params;
  least : noted l.least (params_refusals l.scope l.plain (drop l.param-index l.params)) ≡ noted l.initial.least (params_refusals l.scope l.plain l.params);
}
