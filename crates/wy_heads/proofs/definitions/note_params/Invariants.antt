use Rattle.std.proofs.Common.{◌≡◌, drop}
use Rattle.wy_symbols.specs.Least.{noted}
use Rattle.wy_heads.specs.Lines.{param_refusals}
use Rattle.wy_heads.proofs.definitions.note_params.Given as goal

abbrev pub invariant-loop-param : goal.invariant-loop-param
invariant-loop-param l = noted l.least (param_refusals l.scope l.plain (drop l.param-index l.params)) ≡ noted l.initial.least (param_refusals l.scope l.plain l.params)
