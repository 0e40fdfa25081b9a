use Rattle.std.proofs.Common.{◌<◌, ◌+◌, ap, rules, drop, length, map}
use Rattle.wy_heads.specs.Cycles.{named_modules}
use Rattle.wy_heads.specs.CycleRefusals.{words_refusals, cycle_refusals}
use Rattle.wy_symbols.specs.Lent.{module_tree}
use Rattle.wy_symbols.proofs.Turns.{next_of}
use Rattle.wy_symbols.proofs.Leasts.{noted_turn}
use Rattle.wy_heads.proofs.leading.note_reached.Goals as goal

pub loop-i-preserved : goal.loop-i-preserved
loop-i-preserved c =
    let views = c.views-views.result.now in
    let lt : c.loop-i.i < length views = search rules in
    let modules = map module_tree c.args.modules.now in
    let refusals = cycle_refusals c.args.reached.now modules in
    let m = c.index-views-i.result in
    noted_turn c.loop-i.least c.note_words.new.least c.args.least.now (words_refusals c.args.reached.now modules c.loop-i.i (named_modules (module_tree m)))
    (refusals (c.loop-i.i + 1) (map module_tree (drop (c.loop-i.i + 1) views)))
    (refusals c.loop-i.i (map module_tree (drop c.loop-i.i views))) (refusals 0 modules) (search rules)
    (ap (λ ms. refusals c.loop-i.i (map module_tree ms)) (next_of views c.loop-i.i m lt c.index-views-i.is))
    c.loop-i.invariant
