use Rattle.std.proofs.Common.{◌≡◌, [], ◌++◌, List, take, length, map, ap, ◌∙◌, rules}
use Rattle.std.proofs.lemmas.List.{length-map}
use Rattle.wy_text.specs.declared.fault.AtomName.{AtomName}
use Rattle.wy_symbols.specs.declared.scoping.Owner.{Owner}
use Rattle.wy_symbols.specs.Least.{noted}
use Rattle.wy_symbols.specs.Declarations.{repeated}
use Rattle.wy_symbols.specs.Atoms.{AtomScope, head_names, grant_owner}
use Rattle.wy_heads.specs.Lines.{grant_refusals, uses_refusals, lines_refusals}
use Rattle.wy_heads.specs.ScopeHeads.{grant_names, line_words, use_owners, line_owners, program_atoms, grant_owners}
use Rattle.wy_symbols.specs.Lent.{module_tree, program_tree}
use Rattle.wy_symbols.proofs.Leasts.{noted_then}
use Rattle.wy_heads.proofs.LaterOwners.{behind_is, front_is}
use Rattle.wy_heads.proofs.program_heads.note_program.Goals as goal

pub note_behind-requires-clause-behind : goal.note_behind-requires-clause-behind
note_behind-requires-clause-behind c =
    let o = c.args.owners.now in
    let modules = map module_tree c.args.modules.now in
    let g = program_tree c.args.program.now in
    let uses : g.uses ≡ c.as_slice-uses.result.now = search rules in
    let lines : g.lines ≡ c.as_slice-lines.result.now = search rules in
    behind_is (map (grant_owner (head_names o.heads)) g.grants) (use_owners o.heads modules g.uses) (line_owners o.heads modules g.lines) o.owners (length c.as_slice-grants.result.now)
    (ap (λ (s : AtomScope). s.owners) c.requires) (search (length-map, rules))
    ∙ ap (λ us. use_owners o.heads modules us ++ line_owners o.heads modules g.lines) uses ∙ ap (λ ls. use_owners o.heads modules c.as_slice-uses.result.now ++ line_owners o.heads modules ls) lines

pub returns : goal.returns
returns c =
    let o = c.args.owners.now in
    let modules = map module_tree c.args.modules.now in
    let g = program_tree c.args.program.now in
    let atoms = ap (λ (s : AtomScope). s.atoms) c.requires in
    let words = repeated [] (grant_names g.grants ++ (g.uses ++ line_words g.lines)) in
    let grants = grant_refusals (head_names o.heads) g.grants in
    let uses = uses_refusals o.heads modules (program_atoms o.heads modules g) g.uses in
    let lines = lines_refusals o.heads modules (program_atoms o.heads modules g) (grant_owners o.heads modules g) g.lines in
    let end = c.note_behind.new.least in
    let front = front_is (map (grant_owner (head_names o.heads)) g.grants) (use_owners o.heads modules g.uses) (line_owners o.heads modules g.lines) o.owners (length c.as_slice-grants.result.now)
    (ap (λ (s : AtomScope). s.owners) c.requires) (search (length-map, rules)) in
    let behind = λ (a : List AtomName) (before : List Owner). uses_refusals o.heads modules a g.uses ++ lines_refusals o.heads modules a (before ++ use_owners o.heads modules g.uses) g.lines in
    let first : c.note_words.new.least ≡ noted c.args.least.now words = search rules in
    let second : c.note_grants.new.least ≡ noted c.note_words.new.least grants = search rules in
    let third : end ≡ noted c.note_grants.new.least (behind o.atoms (take (length c.as_slice-grants.result.now) o.owners)) = search rules in
    let fourth : end ≡ noted c.note_grants.new.least (uses ++ lines) =
    third ∙ ap (λ a. noted c.note_grants.new.least (behind a (take (length c.as_slice-grants.result.now) o.owners))) atoms
    ∙ ap (λ os. noted c.note_grants.new.least (behind (program_atoms o.heads modules g) os)) front in
    noted_then c.args.least.now c.note_words.new.least end words (grants ++ (uses ++ lines)) first
    (noted_then c.note_words.new.least c.note_grants.new.least end grants (uses ++ lines) second fourth)
