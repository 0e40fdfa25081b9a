use Rattle.std.proofs.Common.{◌≡◌, ◌+◌, ℕ, ap, rules, arith, slice_get, map}
use Rattle.wy_heads.specs.Leading.{EachOnce, edges_of}
use Rattle.wy_heads.specs.CycleRefusals.{cycle_refusals}
use Rattle.wy_symbols.specs.Lent.{module_tree}
use Rattle.wy_heads.proofs.CyclesFound.{leads_inside, found_sound, found_complete}
use Rattle.wy_heads.proofs.EdgesOnce.{inside_once, reached_once}
use Rattle.wy_heads.proofs.leading.note_cycles.Goals as goal

pub reached_of-requires : goal.reached_of-requires
reached_of-requires c =
    let modules = map module_tree c.args.modules.now in
    let once : EachOnce (edges_of modules) c.deref.result.now = search rules in
    inside_once (edges_of modules) c.deref.result.now once (leads_inside modules)

pub returns : goal.returns
returns c =
    let modules = map module_tree c.args.modules.now in
    let reached = c.in_ok-reached.reached.items in
    let once : EachOnce (edges_of modules) c.deref.result.now = search rules in
    let are = reached_once (edges_of modules) c.deref.result.now reached once c.in_ok-reached.ensures in
    record {
      refusals = cycle_refusals reached modules 0 modules;
      are = λ r. (
        found_sound reached modules are 0 modules (λ i. (let e : i ≡ 0 + i = omega arith in ap (λ (n : ℕ). slice_get modules n) e)) r,
        found_complete reached modules are r,
      );
      noted_are = search rules;
    }
