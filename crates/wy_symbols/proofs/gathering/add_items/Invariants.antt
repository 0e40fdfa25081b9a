use Rattle.std.proofs.Common.{◌≡◌, ◌++◌, drop, map}
use Rattle.wy_syntax.specs.Views.{item_tree}
use Rattle.wy_symbols.specs.Declarations.{types_of, modules_of, programs_of}
use Rattle.wy_symbols.specs.Lent.{lent_type, module_tree, lent_program}
use Rattle.wy_symbols.proofs.gathering.add_items.Given as goal

abbrev pub invariant-loop-item : goal.invariant-loop-item
invariant-loop-item l = record {
  types : map lent_type l.found.types.items ++ types_of (map item_tree (drop l.item-index l.items)) ≡ map lent_type l.initial.found.types.items ++ types_of (map item_tree l.items);
  modules : map module_tree l.found.modules.items ++ modules_of (map item_tree (drop l.item-index l.items)) ≡ map module_tree l.initial.found.modules.items ++ modules_of (map item_tree l.items);
  programs : map lent_program l.found.programs.items ++ programs_of (map item_tree (drop l.item-index l.items)) ≡ map lent_program l.initial.found.programs.items ++ programs_of (map item_tree l.items);
}
