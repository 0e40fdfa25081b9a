use Rattle.std.proofs.Common.{◌+◌, ◌++◌, List, map, take, length, ap, ◌∙◌, append_assoc}
use Rattle.wy_symbols.specs.declared.scoping.Owner.{Owner}
use Rattle.wy_symbols.specs.Atoms.{head_names, use_owner, line_owner}
use Rattle.wy_heads.specs.Lines.{use_name, line_names}
use Rattle.wy_symbols.specs.Lent.{module_tree}
use Rattle.wy_heads.proofs.LaterOwners.{uses_there, early_are, lines_there}
use Rattle.wy_heads.proofs.behind.add_behind.Goals as goal

pub add_uses-requires-clause-there : goal.add_uses-requires-clause-there
add_uses-requires-clause-there c =
    let o = c.args.owners.now in
    let modules = map module_tree c.args.modules.now in
    uses_there (use_owner (head_names o.heads) modules) (line_owner (head_names o.heads) modules) c.args.uses.now c.args.lines.now o.owners c.args.before c.requires.behind

pub add_lines-requires-clause-there : goal.add_lines-requires-clause-there
add_lines-requires-clause-there c =
    let o = c.args.owners.now in
    let modules = map module_tree c.args.modules.now in
    lines_there (use_owner (head_names o.heads) modules) (line_owner (head_names o.heads) modules) c.args.uses.now c.args.lines.now o.owners c.args.before c.requires.behind

pub returns : goal.returns
returns c =
    let o = c.args.owners.now in
    let modules = map module_tree c.args.modules.now in
    let uses = map (use_name o.heads modules o.atoms) c.args.uses.now in
    let lines = λ (before : List Owner). line_names o.heads modules o.atoms before c.args.lines.now in
    let early = early_are (use_owner (head_names o.heads) modules) (line_owner (head_names o.heads) modules) c.args.uses.now c.args.lines.now o.owners c.args.before c.requires.behind in
    c.in_ok-add_lines.ensures
    ∙ ap (λ l. l ++ lines (take (c.args.before + length c.args.uses.now) o.owners)) c.in_ok-add_uses.ensures
    ∙ append_assoc c.args.list.now uses (lines (take (c.args.before + length c.args.uses.now) o.owners))
    ∙ ap (λ os. c.args.list.now ++ (uses ++ lines os)) early
