use Rattle.std.proofs.Common.{◌≡◌, drop, map}
use Rattle.wy_heads.specs.Most.{modules_most}
use Rattle.wy_symbols.specs.Lent.{module_tree}
use Rattle.wy_heads.proofs.limits.modules_most.Given as goal

abbrev pub invariant-loop-view : goal.invariant-loop-view
invariant-loop-view l = modules_most l.most (map module_tree (drop l.view-index l.modules)) ≡ modules_most l.initial.most (map module_tree l.modules)
