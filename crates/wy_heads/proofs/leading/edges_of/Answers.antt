use Rattle.std.proofs.Common.{◌<◌, ◌++◌, ◌∷◌, [], List, ℕ, length, map, rules, subst, sym, take}
use Rattle.wy_symbols.specs.Declarations.{ModuleTree}
use Rattle.wy_heads.specs.Cycles.{named_modules}
use Rattle.wy_heads.specs.Leading.{numbers_of, Adds, EachOnce}
use Rattle.wy_symbols.specs.Lent.{module_tree}
use Rattle.wy_heads.proofs.EdgesOnce.{more_once}
use Rattle.wy_symbols.proofs.Turns.{mapped_more}
use Rattle.wy_heads.proofs.leading.edges_of.Goals as goal

pub loop-view-preserved : goal.loop-view-preserved
loop-view-preserved c =
    let views = c.views-views.result.now in
    let lt : c.loop-view.view-index < length views = search rules in
    let modules = map module_tree c.args.modules.now in
    let edge = λ (m : ModuleTree). numbers_of modules (named_modules m) in
    let view = c.view-item.result in
    let before = map edge (map module_tree (take c.loop-view.view-index views)) in
    let numbers : Adds [] (edge (module_tree view)) c.in_ok-numbers_of.field-0 = search rules in
    let P : List (List ℕ) → Type 0 = λ l. EachOnce l c.push.new.self.items in
    let Q : List (List ℕ) → Type 0 = λ l. EachOnce (before ++ edge (module_tree view) ∷ []) l in
    subst P (mapped_more edge module_tree views c.loop-view.view-index view lt c.view-item.is)
    (subst Q (sym {A = List (List ℕ)} c.in_ok-push.ensures.items) (more_once before c.loop-view.edges.items (edge (module_tree view)) c.in_ok-numbers_of.field-0 c.loop-view.invariant numbers))
