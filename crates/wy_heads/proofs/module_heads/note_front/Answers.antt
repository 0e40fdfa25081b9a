use Rattle.std.proofs.Common.{◌≡◌, [], ◌++◌, List, take, length, map, ap, ◌∙◌, rules}
use Rattle.wy_text.specs.declared.fault.AtomName.{AtomName}
use Rattle.wy_symbols.specs.declared.scoping.Owner.{Owner}
use Rattle.wy_types.specs.Types.{is_plain}
use Rattle.wy_symbols.specs.Least.{noted}
use Rattle.wy_symbols.specs.Declarations.{repeated}
use Rattle.wy_symbols.specs.Atoms.{AtomScope, head_names, type_number}
use Rattle.wy_symbols.specs.TypeUses.{param_names}
use Rattle.wy_heads.specs.Lines.{param_refusals, uses_refusals, lines_refusals}
use Rattle.wy_heads.specs.ScopeHeads.{line_words, sealed_refusals, param_owners, use_owners, line_owners, param_scope, early_owners, module_atoms}
use Rattle.wy_symbols.specs.Lent.{module_tree}
use Rattle.wy_symbols.proofs.Leasts.{noted_then}
use Rattle.wy_heads.proofs.Fronts.{sealed_same, params_seen}
use Rattle.wy_heads.proofs.LaterOwners.{behind_is, front_is}
use Rattle.wy_heads.proofs.Owned.{params_length}
use Rattle.wy_heads.proofs.module_heads.note_front.Goals as goal

pub note_behind-requires-clause-behind : goal.note_behind-requires-clause-behind
note_behind-requires-clause-behind c =
    let o = c.args.owners.now in
    let modules = map module_tree c.args.modules.now in
    let m = module_tree c.args.view.now in
    behind_is (param_owners o.heads modules m) (use_owners o.heads modules m.uses) (line_owners o.heads modules m.lines) o.owners (length m.params)
    (ap (λ (s : AtomScope). s.owners) c.requires) (params_length (head_names o.heads) (is_plain m.kind) m.params)

pub returns : goal.returns
returns c =
    let o = c.args.owners.now in
    let modules = map module_tree c.args.modules.now in
    let m = module_tree c.args.view.now in
    let atoms = ap (λ (s : AtomScope). s.atoms) c.requires in
    let owners = ap (λ (s : AtomScope). s.owners) c.requires in
    let early = early_owners o.heads modules m in
    let sealed = sealed_refusals o.heads modules m (type_number (head_names o.heads) m.sealed.text) in
    let words = repeated [] (param_names m.params ++ (m.uses ++ line_words m.lines)) in
    let params = param_refusals (param_scope o.heads modules m) (is_plain m.kind) m.params in
    let uses = uses_refusals o.heads modules (module_atoms o.heads modules m) m.uses in
    let lines = lines_refusals o.heads modules (module_atoms o.heads modules m) early m.lines in
    let first : c.note_sealed.new.least ≡ noted c.args.least.now sealed =
    search rules ∙ ap (noted c.args.least.now) (sealed_same o.heads [] modules m (type_number (head_names o.heads) m.sealed.text)) in
    let second : c.note_words.new.least ≡ noted c.note_sealed.new.least words = search rules in
    let third : c.note_param_types.new.least ≡ noted c.note_words.new.least params =
    search rules ∙ ap (λ s. noted c.note_words.new.least (param_refusals s (is_plain m.kind) m.params)) (params_seen o.heads modules m o.atoms o.owners atoms owners) in
    let front = front_is (param_owners o.heads modules m) (use_owners o.heads modules m.uses) (line_owners o.heads modules m.lines) o.owners (length m.params) owners
    (params_length (head_names o.heads) (is_plain m.kind) m.params) in
    let behind = λ (a : List AtomName) (before : List Owner). uses_refusals o.heads modules a m.uses ++ lines_refusals o.heads modules a (before ++ use_owners o.heads modules m.uses) m.lines in
    let end = c.note_behind.new.least in
    let fourth : end ≡ noted c.note_param_types.new.least (uses ++ lines) =
    c.note_behind.ensures ∙ ap (λ a. noted c.note_param_types.new.least (behind a (take (length m.params) o.owners))) atoms
    ∙ ap (λ os. noted c.note_param_types.new.least (behind (module_atoms o.heads modules m) os)) front in
    noted_then c.args.least.now c.note_sealed.new.least end sealed (words ++ (params ++ (uses ++ lines))) first
    (noted_then c.note_sealed.new.least c.note_words.new.least end words (params ++ (uses ++ lines)) second
    (noted_then c.note_words.new.least c.note_param_types.new.least end params (uses ++ lines) third fourth))
