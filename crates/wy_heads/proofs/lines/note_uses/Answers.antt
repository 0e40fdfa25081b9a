use Rattle.std.proofs.Common.{[], ◌+◌, ap, drop, map}
use Rattle.wy_symbols.specs.Declarations.{module_number}
use Rattle.wy_symbols.specs.Lent.{module_tree}
use Rattle.wy_symbols.proofs.Leasts.{noted_turn}
use Rattle.wy_symbols.proofs.Turns.{next_of}
use Rattle.wy_heads.specs.Lines.{unless_number, uses_refusals}
use Rattle.wy_heads.proofs.lines.note_uses.Goals as goal

pub loop-name-preserved : goal.loop-name-preserved
loop-name-preserved c =
    let modules = map module_tree c.args.modules.now in
    let refusals = uses_refusals [] modules [] in
    let uses = c.args.uses.now in
    let i = c.loop-name.name-index in
    let x = c.name-item.result in
    noted_turn c.loop-name.least c.note_module.new.least c.args.least.now (unless_number [] modules [] x (module_number modules x.text))
    (refusals (drop (i + 1) uses)) (refusals (drop i uses)) (refusals uses)
    c.note_module.ensures (ap refusals (next_of uses i x c.loop-name-test.true c.name-item.is)) c.loop-name.invariant
