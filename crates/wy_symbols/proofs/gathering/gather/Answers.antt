use Rattle.std.proofs.Common.{◌≡◌, ◌<◌, ◌+◌, ◌++◌, ◌∷◌, [], List, ap, sym, refl, ◌∙◌, drop, length, map, rules, append_assoc}
use Rattle.wy_syntax.specs.Trees.{ItemTree}
use Rattle.wy_syntax.specs.declared.items.Tree.{Tree}
use Rattle.wy_syntax.specs.Views.{file_tree}
use Rattle.wy_symbols.specs.Declarations.{gathered, item_types, item_modules, item_programs, types_of, modules_of, programs_of, all_items}
use Rattle.wy_symbols.specs.Lent.{lent_type, module_tree, lent_program}
use Rattle.wy_symbols.proofs.Nexts.{added_next}
use Rattle.wy_symbols.proofs.gathering.gather.Goals as goal

gathered-append : {X : Type 0} (f : ItemTree → List X) (is js : List ItemTree) → gathered f (is ++ js) ≡ gathered f is ++ gathered f js
gathered-append f [] js = refl
gathered-append f (i ∷ is) js = ap (λ l. f i ++ l) (gathered-append f is js) ∙ sym (append_assoc (f i) (gathered f is) (gathered f js))

pub loop-tree-preserved : goal.loop-tree-preserved
loop-tree-preserved c =
    let trees = c.args.trees.now in
    let i = c.loop-tree.tree-index in
    let lt : i < length trees = search rules in
    let x = c.tree-item.result in
    let at = c.tree-item.is in
    let rest = all_items (map file_tree (drop (i + 1) trees)) in
    let types = λ (ts : List Tree). types_of (all_items (map file_tree ts)) in
    let modules = λ (ts : List Tree). modules_of (all_items (map file_tree ts)) in
    let programs = λ (ts : List Tree). programs_of (all_items (map file_tree ts)) in
    let old = c.loop-tree.found in
    let new = c.add_items.new.found in
    record {
      types = added_next trees i x lt at types (map lent_type old.types.items) (map lent_type new.types.items) (types_of (file_tree x)) (types trees)
          (search rules) (gathered-append item_types (file_tree x) rest) c.loop-tree.invariant.types;
      modules = added_next trees i x lt at modules (map module_tree old.modules.items) (map module_tree new.modules.items) (modules_of (file_tree x)) (modules trees)
          (search rules) (gathered-append item_modules (file_tree x) rest) c.loop-tree.invariant.modules;
      programs = added_next trees i x lt at programs (map lent_program old.programs.items) (map lent_program new.programs.items) (programs_of (file_tree x)) (programs trees)
          (search rules) (gathered-append item_programs (file_tree x) rest) c.loop-tree.invariant.programs;
    }
