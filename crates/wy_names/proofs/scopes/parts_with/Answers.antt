use Rattle.std.proofs.Common.{◌≡◌, ℕ, List, [], ◌∷◌, ◌++◌, map, length, ap, ◌∙◌, rules}
use Rattle.std.proofs.lemmas.List.{length-map}
use Rattle.wy_types.specs.Program.{Init}
use Rattle.wy_types.specs.Types.{is_plain}
use Rattle.wy_symbols.specs.declared.scoping.Owner.{Owner}
use Rattle.wy_symbols.specs.Least.{noted}
use Rattle.wy_symbols.specs.Atoms.{AtomScope, bounds_of_owners, head_names, type_number, owner_names}
use Rattle.wy_bodies.specs.Sight.{outermost, inside}
use Rattle.wy_bodies.specs.Bodies.{Within, at_start, part_values, literal_of, parts_literals, parts_bodies}
use Rattle.wy_bodies.specs.BodyRefusals.{repeated_parts, parts_refusals}
use Rattle.wy_heads.specs.ScopeHeads.{definitions_at, start_effect, init_refusals, module_atoms, module_scope, module_meanings}
use Rattle.wy_symbols.specs.Lent.{module_tree}
use Rattle.wy_heads.proofs.Fronts.{init_same, start_same, definitions_same}
use Rattle.wy_symbols.proofs.Leasts.{noted_then}
use Rattle.wy_names.proofs.ScopesMade.{scope_is, within_is}
use Rattle.wy_names.proofs.scopes.parts_with.Goals as goal

pub returns-clause-parts : goal.returns-clause-parts
returns-clause-parts c =
    let o = c.args.owners.now in
    let modules = map module_tree c.args.modules.now in
    let m = module_tree c.args.view.now in
    let meanings = c.args.meanings.now in
    let atoms = ap (λ (s : AtomScope). s.atoms) c.requires.owned in
    let owners = ap (λ (s : AtomScope). s.owners) c.requires.owned in
    let visible = c.len-visible.ensures ∙ ap (λ (l : List (List ℕ)). length l) c.names.ensures ∙ length-map o.owners (λ (x : Owner). x.name) in
    let plain : c.eq-plain.result ≡ is_plain m.kind = search rules in
    let number = c.number-number.ensures ∙ ap (λ h. type_number (head_names h) m.sealed.text) c.heads.ensures in
    let scope : c.new-scope.result ≡ module_scope o.heads modules m =
    c.new-scope.ensures ∙ scope_is o.heads modules m o.atoms o.owners c.len-visible.result atoms owners visible meanings c.requires.defined in
    let w : Within = record { atoms = c.new-scope.result; plain = c.eq-plain.result; own = c.names-2.result.now } in
    let within = within_is o.heads modules m w scope plain (c.names-2.ensures ∙ ap owner_names owners) in
    let parts = m.parts in
    record {
      bounds = c.in_ok-bounds.ensures ∙ ap (λ a. bounds_of_owners o.heads a o.owners) atoms ∙ ap (bounds_of_owners o.heads (module_atoms o.heads modules m)) owners;
      names = c.in_ok-own.ensures;
      definitions =
          c.in_ok-definitions.ensures
          ∙ definitions_same c.heads-2.result.now [] modules c.eq-plain.result meanings c.number-number.result
          ∙ ap (λ h. definitions_at h modules c.eq-plain.result meanings c.number-number.result) c.heads-2.ensures
          ∙ ap (λ p. definitions_at o.heads modules p meanings c.number-number.result) plain
          ∙ ap (λ l. definitions_at o.heads modules (is_plain m.kind) l c.number-number.result) c.requires.defined
          ∙ ap (definitions_at o.heads modules (is_plain m.kind) (module_meanings o.heads modules m)) number;
      effect = c.in_ok-start_effect.ensures ∙ start_same [] o.heads [] modules c.new-scope.result m.init ∙ ap (λ s. start_effect o.heads modules s m.init) scope;
      literals = c.in_ok-resolved.ensures.literals ∙ ap (λ x. literal_of x outermost parts ∷ parts_literals x outermost (inside outermost parts) at_start parts) within;
      start = c.in_ok-resolved.ensures.start ∙ ap (λ x. Init (part_values x outermost at_start parts)) within;
      bodies = c.in_ok-resolved.ensures.bodies ∙ ap (λ x. parts_bodies x outermost (inside outermost parts) 0 at_start parts) within;
    }

pub returns-clause-noted : goal.returns-clause-noted
returns-clause-noted c =
    let o = c.args.owners.now in
    let modules = map module_tree c.args.modules.now in
    let m = module_tree c.args.view.now in
    let meanings = c.args.meanings.now in
    let atoms = ap (λ (s : AtomScope). s.atoms) c.requires.owned in
    let owners = ap (λ (s : AtomScope). s.owners) c.requires.owned in
    let visible = c.len-visible.ensures ∙ ap (λ (l : List (List ℕ)). length l) c.names.ensures ∙ length-map o.owners (λ (x : Owner). x.name) in
    let plain : c.eq-plain.result ≡ is_plain m.kind = search rules in
    let scope : c.new-scope.result ≡ module_scope o.heads modules m =
    c.new-scope.ensures ∙ scope_is o.heads modules m o.atoms o.owners c.len-visible.result atoms owners visible meanings c.requires.defined in
    let w : Within = record { atoms = c.new-scope.result; plain = c.eq-plain.result; own = c.names-2.result.now } in
    let within = within_is o.heads modules m w scope plain (c.names-2.ensures ∙ ap owner_names owners) in
    let parts = m.parts in
    let old = c.args.least.now in
    let init = init_refusals o.heads modules (module_scope o.heads modules m) m.init in
    let started = c.note_init.ensures ∙ ap (noted old) (init_same [] o.heads [] modules c.new-scope.result m.init ∙ ap (λ s. init_refusals o.heads modules s m.init) scope) in
    let bodies = c.in_ok-resolved.ensures.noted ∙ ap (λ x. noted c.note_init.new.least (repeated_parts parts ++ parts_refusals x outermost (inside outermost parts) at_start parts)) within in
    noted_then old c.note_init.new.least c.module_parts.new.least init _ started bodies
