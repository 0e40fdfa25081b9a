use Rattle.std.proofs.Common.{◌≡◌, ◌++◌, drop, map, true}
use Rattle.wy_heads.specs.Lines.{param_name}
use Rattle.wy_heads.proofs.own_names.add_plain_params.Given as goal

abbrev pub invariant-loop-param : goal.invariant-loop-param
invariant-loop-param l = l.list ++ map (param_name l.scope true) (drop l.param-index l.params) ≡ l.initial.list ++ map (param_name l.scope true) l.params
