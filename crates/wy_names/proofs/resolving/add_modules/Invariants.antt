use Rattle.std.proofs.Common.{◌≡◌, ◌++◌, drop, map}
use Rattle.wy_types.specs.Program.{scope_of}
use Rattle.wy_symbols.specs.Least.{noted}
use Rattle.wy_names.specs.Scopes.{scope_of_module, modules_refusals}
use Rattle.wy_symbols.specs.Lent.{module_tree}
use Rattle.wy_names.proofs.resolving.add_modules.Given as goal

abbrev pub invariant-loop-view : goal.invariant-loop-view
invariant-loop-view l = record {
  scopes :
      map scope_of l.scopes ++ map (scope_of_module l.heads (map module_tree l.modules)) (map module_tree (drop l.view-index l.views)) ≡
      map scope_of l.initial.scopes ++ map (scope_of_module l.heads (map module_tree l.modules)) (map module_tree l.modules);
  least :
      noted l.least (modules_refusals l.heads (map module_tree l.modules) (map module_tree (drop l.view-index l.views))) ≡
      noted l.initial.least (modules_refusals l.heads (map module_tree l.modules) (map module_tree l.modules));
}
