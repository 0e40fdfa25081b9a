use Rattle.std.proofs.Common.{◌<◌, ◌+◌, List, ap, rules, drop, length, map}
use Rattle.wy_symbols.specs.declared.gathering.ModuleView.{ModuleView}
use Rattle.wy_names.specs.Scopes.{scope_of_module, module_refusals, modules_refusals}
use Rattle.wy_symbols.specs.Lent.{module_tree}
use Rattle.wy_symbols.proofs.Turns.{next_of}
use Rattle.wy_symbols.proofs.Leasts.{noted_turn}
use Rattle.wy_names.proofs.Judging.{pushed}
use Rattle.wy_names.proofs.resolving.add_modules.Goals as goal

pub loop-view-preserved : goal.loop-view-preserved
loop-view-preserved c =
    let views = c.views-views.result.now in
    let lt : c.loop-view.view-index < length views = search rules in
    let heads = c.args.heads.now in
    let modules = map module_tree c.args.modules.now in
    let m = module_tree c.view-item.result in
    let next = next_of views c.loop-view.view-index c.view-item.result lt c.view-item.is in
    let left = map module_tree (drop c.loop-view.view-index views) in
    let rest = map module_tree (drop (c.loop-view.view-index + 1) views) in
    let make = scope_of_module heads modules in
    record {
      scopes = pushed c.loop-view.scopes c.push.new.self c.in_ok-module_scope.field-0 (make m) (map make rest) (map make left) _
          c.in_ok-push.ensures.ok c.in_ok-module_scope.ensures.scope (ap (λ (ms : List ModuleView). map make (map module_tree ms)) next) c.loop-view.invariant.scopes;
      least = noted_turn c.loop-view.least c.module_scope.new.least c.args.least.now (module_refusals heads modules m) (modules_refusals heads modules rest) (modules_refusals heads modules left)
          (modules_refusals heads modules modules) c.in_ok-module_scope.ensures.noted (ap (λ (ms : List ModuleView). modules_refusals heads modules (map module_tree ms)) next) c.loop-view.invariant.least;
    }
