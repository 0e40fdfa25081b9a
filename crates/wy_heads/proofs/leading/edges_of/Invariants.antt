use Rattle.std.proofs.Common.{map, take}
use Rattle.wy_symbols.specs.Declarations.{ModuleTree}
use Rattle.wy_heads.specs.Cycles.{named_modules}
use Rattle.wy_heads.specs.Leading.{numbers_of, EachOnce}
use Rattle.wy_symbols.specs.Lent.{module_tree}
use Rattle.wy_heads.proofs.leading.edges_of.Given as goal

abbrev pub invariant-loop-view : goal.invariant-loop-view
invariant-loop-view l =
    EachOnce (map (λ (m : ModuleTree). numbers_of (map module_tree l.modules) (named_modules m)) (map module_tree (take l.view-index l.views))) l.edges.items
