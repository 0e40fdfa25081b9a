use Rattle.std.proofs.Common.{◌≡◌, ◌++◌, List, map, take, length, ap, ◌∙◌, rules}
use Rattle.std.proofs.lemmas.List.{length-map}
use Rattle.wy_symbols.specs.declared.scoping.Owner.{Owner}
use Rattle.wy_symbols.specs.Atoms.{AtomScope, head_names, grant_owner}
use Rattle.wy_heads.specs.Lines.{grant_name, use_name, line_names}
use Rattle.wy_heads.specs.ScopeHeads.{use_owners, line_owners, program_scope}
use Rattle.wy_symbols.specs.Lent.{module_tree, program_tree}
use Rattle.wy_heads.proofs.LaterOwners.{behind_is, front_is}
use Rattle.wy_heads.proofs.program_heads.program_own.Goals as goal

pub add_behind-requires-clause-behind : goal.add_behind-requires-clause-behind
add_behind-requires-clause-behind c =
    let o = c.args.owners.now in
    let modules = map module_tree c.args.modules.now in
    let g = program_tree c.args.program.now in
    let uses : g.uses ≡ c.as_slice-uses.result.now = search rules in
    let lines : g.lines ≡ c.as_slice-lines.result.now = search rules in
    behind_is (map (grant_owner (head_names o.heads)) g.grants) (use_owners o.heads modules g.uses) (line_owners o.heads modules g.lines) o.owners (length c.as_slice-grants.result.now)
    (ap (λ (s : AtomScope). s.owners) c.requires) (search (length-map, rules))
    ∙ ap (λ us. use_owners o.heads modules us ++ line_owners o.heads modules g.lines) uses ∙ ap (λ ls. use_owners o.heads modules c.as_slice-uses.result.now ++ line_owners o.heads modules ls) lines

pub returns : goal.returns
returns c =
    let o = c.args.owners.now in
    let modules = map module_tree c.args.modules.now in
    let g = program_tree c.args.program.now in
    let own = λ (s : AtomScope) (before : List Owner).
    map (grant_name s) g.grants ++ (map (use_name o.heads modules s.atoms) g.uses ++ line_names o.heads modules s.atoms (before ++ use_owners o.heads modules g.uses) g.lines) in
    let front = front_is (map (grant_owner (head_names o.heads)) g.grants) (use_owners o.heads modules g.uses) (line_owners o.heads modules g.lines) o.owners (length c.as_slice-grants.result.now)
    (ap (λ (s : AtomScope). s.owners) c.requires) (search (length-map, rules)) in
    let added : c.add_behind.new.list ≡ own o (take (length c.as_slice-grants.result.now) o.owners) = search rules in
    added ∙ ap (λ s. own s (take (length c.as_slice-grants.result.now) o.owners)) c.requires ∙ ap (own (program_scope o.heads modules g)) front
