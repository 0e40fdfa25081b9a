use Rattle.std.proofs.Common.{◌≡◌, [], ◌++◌, List, map, take, length, refl, ap, ◌∙◌, rules}
use Rattle.wy_types.specs.declared.resolved.OwnName.{OwnName}
use Rattle.wy_types.specs.Types.{is_plain}
use Rattle.wy_symbols.specs.Atoms.{AtomScope, head_names, params_owners, atom_scope}
use Rattle.wy_heads.specs.Lines.{param_name, use_name, line_names}
use Rattle.wy_heads.specs.ScopeHeads.{param_owners, use_owners, line_owners}
use Rattle.wy_symbols.specs.Lent.{module_tree}
use Rattle.wy_heads.proofs.LaterOwners.{behind_is}
use Rattle.wy_heads.proofs.Owned.{own_is, params_length}
use Rattle.wy_heads.proofs.module_heads.own_of.Goals as goal

pub add_behind-requires-clause-behind : goal.add_behind-requires-clause-behind
add_behind-requires-clause-behind c =
    let o = c.args.owners.now in
    let modules = map module_tree c.args.modules.now in
    let m = module_tree c.args.view.now in
    behind_is (param_owners o.heads modules m) (use_owners o.heads modules m.uses) (line_owners o.heads modules m.lines) o.owners (length m.params)
    (ap (λ (s : AtomScope). s.owners) c.requires) (params_length (head_names o.heads) (is_plain m.kind) m.params)

pub returns : goal.returns
returns c =
    let o = c.args.owners.now in
    let modules = map module_tree c.args.modules.now in
    let m = module_tree c.args.view.now in
    let plain : c.eq-plain.result ≡ is_plain m.kind = search rules in
    let atoms = ap (λ (s : AtomScope). s.atoms) c.requires in
    let owners = ap (λ (s : AtomScope). s.owners) c.requires in
    let params = map (param_name (atom_scope o.heads o.atoms (params_owners (head_names o.heads) c.eq-plain.result m.params) []) c.eq-plain.result) m.params in
    let one : c.add_params.new.list ≡ params = search rules in
    let behind = map (use_name o.heads modules o.atoms) m.uses ++ line_names o.heads modules o.atoms (take (length m.params) o.owners ++ use_owners o.heads modules m.uses) m.lines in
    c.in_ok-add_behind.ensures ∙ ap (λ (l : List OwnName). l ++ behind) one
    ∙ own_is o.heads modules m o.atoms o.owners c.eq-plain.result (length m.params) plain atoms owners refl
