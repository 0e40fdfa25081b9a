use Rattle.std.proofs.Common.{◌<◌, length, rules, [], map, refl, ◌∷◌}
use Rattle.wy_symbols.specs.Atoms.{line_owner}
use Rattle.wy_symbols.proofs.Nexts.{collected_next, collected_end}
use Rattle.wy_symbols.specs.Lent.{module_tree}
use Rattle.wy_heads.proofs.owners.add_lines.Goals as goal

pub loop-line-preserved : goal.loop-line-preserved
loop-line-preserved c =
    let lt : c.loop-line.line-index < length c.args.lines.now = search rules in
    let added = c.add_line.ensures in
    collected_next c.args.lines.now c.loop-line.line-index c.line-item.result lt c.line-item.is (map (line_owner c.args.types.now (map module_tree c.args.modules.now))) c.loop-line.owners c.add_line.new.owners c.args.owners.now (line_owner c.args.types.now (map module_tree c.args.modules.now) c.line-item.result ∷ []) added (refl) c.loop-line.invariant

pub returns : goal.returns
returns c =
    collected_end (map (line_owner c.args.types.now (map module_tree c.args.modules.now))) c.args.lines.now c.loop-line.line-index c.loop-line.owners c.args.owners.now
    c.loop-line-test.false refl c.loop-line.invariant
