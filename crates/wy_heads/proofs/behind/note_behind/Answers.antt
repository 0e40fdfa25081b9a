use Rattle.std.proofs.Common.{[], List, map, ap, ◌∙◌}
use Rattle.wy_symbols.specs.declared.scoping.Owner.{Owner}
use Rattle.wy_symbols.specs.Least.{noted}
use Rattle.wy_symbols.specs.Atoms.{head_names, use_owner, line_owner}
use Rattle.wy_heads.specs.Lines.{uses_refusals, lines_refusals}
use Rattle.wy_symbols.proofs.Leasts.{noted_then}
use Rattle.wy_symbols.specs.Lent.{module_tree}
use Rattle.wy_heads.proofs.LaterOwners.{early_are, lines_there}
use Rattle.wy_heads.proofs.Fronts.{uses_same}
use Rattle.wy_heads.proofs.behind.note_behind.Goals as goal

pub note_lines-requires-clause-there : goal.note_lines-requires-clause-there
note_lines-requires-clause-there c =
    let o = c.args.owners.now in
    let modules = map module_tree c.args.modules.now in
    lines_there (use_owner (head_names o.heads) modules) (line_owner (head_names o.heads) modules) c.args.uses.now c.args.lines.now o.owners c.args.before c.requires.behind

pub returns : goal.returns
returns c =
    let o = c.args.owners.now in
    let modules = map module_tree c.args.modules.now in
    let lines = λ (before : List Owner). lines_refusals o.heads modules o.atoms before c.args.lines.now in
    let early = early_are (use_owner (head_names o.heads) modules) (line_owner (head_names o.heads) modules) c.args.uses.now c.args.lines.now o.owners c.args.before c.requires.behind in
    let noted_uses = c.note_uses.ensures ∙ ap (noted c.args.least.now) (uses_same [] o.heads modules [] o.atoms c.args.uses.now) in
    let noted_lines = c.note_lines.ensures ∙ ap (λ os. noted c.note_uses.new.least (lines os)) early in
    noted_then c.args.least.now c.note_uses.new.least c.note_lines.new.least (uses_refusals o.heads modules o.atoms c.args.uses.now) _ noted_uses noted_lines
