use Rattle.std.proofs.Common.{◌≡◌, ◌++◌, drop, map, false}
use Rattle.wy_heads.specs.Lines.{param_name}
use Rattle.wy_heads.proofs.own_names.add_effect_params.Given as goal

abbrev pub invariant-loop-i : goal.invariant-loop-i
invariant-loop-i l = l.list ++ map (param_name l.scope false) (drop l.i l.params) ≡ l.initial.list ++ map (param_name l.scope false) l.params
