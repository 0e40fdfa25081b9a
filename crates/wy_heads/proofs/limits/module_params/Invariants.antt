use Rattle.std.proofs.Common.{◌≡◌, drop, map}
use Rattle.wy_heads.specs.Most.{greatest, module_params}
use Rattle.wy_symbols.specs.Lent.{module_tree}
use Rattle.wy_heads.proofs.limits.module_params.Given as goal

abbrev pub invariant-loop-view : goal.invariant-loop-view
invariant-loop-view l = greatest l.most (module_params (map module_tree (drop l.view-index l.modules))) ≡ greatest l.initial.most (module_params (map module_tree l.modules))
