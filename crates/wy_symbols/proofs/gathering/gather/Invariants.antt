use Rattle.std.proofs.Common.{◌≡◌, ◌++◌, drop, map}
use Rattle.wy_syntax.specs.Views.{file_tree}
use Rattle.wy_symbols.specs.Declarations.{types_of, modules_of, programs_of, all_items}
use Rattle.wy_symbols.specs.Lent.{lent_type, module_tree, lent_program}
use Rattle.wy_symbols.proofs.gathering.gather.Given as goal

abbrev pub invariant-loop-tree : goal.invariant-loop-tree
invariant-loop-tree l = record {
  types : map lent_type l.found.types.items ++ types_of (all_items (map file_tree (drop l.tree-index l.trees))) ≡ types_of (all_items (map file_tree l.trees));
  modules : map module_tree l.found.modules.items ++ modules_of (all_items (map file_tree (drop l.tree-index l.trees))) ≡ modules_of (all_items (map file_tree l.trees));
  programs : map lent_program l.found.programs.items ++ programs_of (all_items (map file_tree (drop l.tree-index l.trees))) ≡ programs_of (all_items (map file_tree l.trees));
}
