use Rattle.std.proofs.Common.{◌<◌, ◌++◌, List, length, map, refl, rules}
use Rattle.wy_syntax.specs.declared.items.Item.{Item}
use Rattle.wy_syntax.specs.Views.{item_tree}
use Rattle.wy_symbols.specs.Declarations.{item_types, item_modules, item_programs, types_of, modules_of, programs_of}
use Rattle.wy_symbols.specs.Lent.{lent_type, module_tree, lent_program}
use Rattle.wy_symbols.proofs.Nexts.{added_next}
use Rattle.wy_symbols.proofs.gathering.add_items.Goals as goal

pub loop-item-preserved : goal.loop-item-preserved
loop-item-preserved c =
    let items = c.args.items.now in
    let i = c.loop-item.item-index in
    let lt : i < length items = search rules in
    let x = c.item-item.result in
    let at = c.item-item.is in
    let types = λ (xs : List Item). types_of (map item_tree xs) in
    let modules = λ (xs : List Item). modules_of (map item_tree xs) in
    let programs = λ (xs : List Item). programs_of (map item_tree xs) in
    let old = c.loop-item.found in
    let new = c.add_item.new.found in
    let start = c.args.found.now in
    record {
      types = added_next items i x lt at types (map lent_type old.types.items) (map lent_type new.types.items) (item_types (item_tree x))
          (map lent_type start.types.items ++ types items) c.in_ok-add_item.ensures.types refl c.loop-item.invariant.types;
      modules = added_next items i x lt at modules (map module_tree old.modules.items) (map module_tree new.modules.items) (item_modules (item_tree x))
          (map module_tree start.modules.items ++ modules items) c.in_ok-add_item.ensures.modules refl c.loop-item.invariant.modules;
      programs = added_next items i x lt at programs (map lent_program old.programs.items) (map lent_program new.programs.items) (item_programs (item_tree x))
          (map lent_program start.programs.items ++ programs items) c.in_ok-add_item.ensures.programs refl c.loop-item.invariant.programs;
    }
