use Rattle.std.proofs.Common.{◌≡◌, [], ◌++◌, map, length, ap, ◌∙◌, rules}
use Rattle.std.proofs.lemmas.List.{length-map}
use Rattle.std.proofs.lemmas.Result.{on_ok_weaker}
use Rattle.wy_symbols.specs.Least.{noted}
use Rattle.wy_symbols.specs.Declarations.{repeated}
use Rattle.wy_symbols.specs.Atoms.{AtomScope}
use Rattle.wy_heads.specs.ScopeHeads.{define_names}
use Rattle.wy_symbols.specs.Lent.{module_tree}
use Rattle.wy_names.proofs.ScopesMade.{meanings_are, defined_are, module_noted}
use Rattle.wy_names.proofs.scopes.parts_of.Goals as goal

pub parts_with-requires-clause-defined : goal.parts_with-requires-clause-defined
parts_with-requires-clause-defined c =
    let o = c.args.owners.now in
    let modules = map module_tree c.args.modules.now in
    let m = module_tree c.args.view.now in
    let atoms = ap (λ (s : AtomScope). s.atoms) c.requires in
    let owners = ap (λ (s : AtomScope). s.owners) c.requires in
    let visible : c.len-visible.result ≡ length o.owners = search (length-map, rules) in
    meanings_are o.heads modules m o.atoms o.owners c.len-visible.result atoms owners visible c.in_ok-meanings.meanings c.in_ok-meanings.ensures.value

pub returns-clause-noted : goal.returns-clause-noted
returns-clause-noted c =
    let o = c.args.owners.now in
    let modules = map module_tree c.args.modules.now in
    let m = module_tree c.args.view.now in
    let atoms = ap (λ (s : AtomScope). s.atoms) c.requires in
    let owners = ap (λ (s : AtomScope). s.owners) c.requires in
    let visible : c.len-visible.result ≡ length o.owners = search (length-map, rules) in
    let front = c.note_front.new.least in
    let read = c.in_ok-meanings.ensures.noted
    ∙ ap (λ l. noted front (repeated [] (define_names m.defines) ++ l)) (defined_are o.heads modules m o.atoms o.owners c.len-visible.result atoms owners visible) in
    on_ok_weaker c.parts_with.result
    (λ h. module_noted o.heads modules m c.args.least.now front c.read_defined.new.least c.parts_with.new.least c.in_ok-note_front.ensures read h)
    c.parts_with.ensures.noted
