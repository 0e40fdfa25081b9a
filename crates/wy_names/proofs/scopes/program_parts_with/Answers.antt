use Rattle.std.proofs.Common.{◌≡◌, ℕ, List, [], ◌∷◌, length, map, take, ap, ◌∙◌, false, rules}
use Rattle.std.proofs.lemmas.List.{length-map}
use Rattle.wy_types.specs.Program.{Run}
use Rattle.wy_symbols.specs.declared.scoping.Owner.{Owner}
use Rattle.wy_symbols.specs.Least.{noted}
use Rattle.wy_symbols.specs.Atoms.{AtomScope, bounds_of_owners, set_of, set_refusals, owner_names, atom_scope}
use Rattle.wy_bodies.specs.Sight.{outermost}
use Rattle.wy_bodies.specs.Bodies.{Within, at_start, tail_block, tail_literals, tail_bodies}
use Rattle.wy_bodies.specs.BodyRefusals.{tail_refusals}
use Rattle.wy_heads.specs.ScopeHeads.{program_atoms, program_owners, program_scope}
use Rattle.wy_names.specs.Scopes.{program_within}
use Rattle.wy_symbols.specs.Lent.{module_tree, program_tree}
use Rattle.wy_names.proofs.ScopesMade.{program_noted, whole_scope}
use Rattle.wy_names.proofs.scopes.program_parts_with.Goals as goal

pub returns-clause-parts : goal.returns-clause-parts
returns-clause-parts c =
    let o = c.args.owners.now in
    let modules = map module_tree c.args.modules.now in
    let g = program_tree c.args.program.now in
    let atoms = ap (λ (s : AtomScope). s.atoms) c.requires.owned in
    let owners = ap (λ (s : AtomScope). s.owners) c.requires.owned in
    let visible = c.len.ensures ∙ ap (λ (l : List (List ℕ)). length l) c.names.ensures ∙ length-map o.owners (λ (x : Owner). x.name) in
    let scope : c.new-scope.result ≡ program_scope o.heads modules g =
    c.new-scope.ensures ∙ ap (λ l. atom_scope o.heads o.atoms (take c.len.result o.owners) l) c.requires.nothing ∙ whole_scope o.heads o.atoms (program_atoms o.heads modules g) o.owners (program_owners o.heads modules g) c.len.result atoms owners visible in
    let W = λ (a : AtomScope) (own : _). let w : Within = record { atoms = a; plain = false; own = own } in w in
    let within = ap (λ a. W a c.names-2.result.now) scope ∙ ap (W (program_scope o.heads modules g)) (c.names-2.ensures ∙ ap owner_names owners) in
    let effect : c.in_ok-start_effect.start_effect ≡ set_of c.new-scope.result g.effect = search rules in
    record {
      bounds = c.in_ok-bounds.ensures ∙ ap (λ a. bounds_of_owners o.heads a o.owners) atoms ∙ ap (bounds_of_owners o.heads (program_atoms o.heads modules g)) owners;
      names = c.in_ok-own.ensures;
      definitions = c.new-definitions.ensures;
      effect = effect ∙ ap (λ s. set_of s g.effect) scope;
      literals = c.in_ok-resolved.ensures.literals ∙ ap (λ w. record { captures = []; fields = [] } ∷ tail_literals w outermost at_start g.body) within;
      start = c.in_ok-resolved.ensures.start ∙ ap (λ w. Run (tail_block w g.run outermost at_start g.body)) within;
      bodies = c.in_ok-resolved.ensures.bodies ∙ ap (λ w. tail_bodies w outermost at_start g.body) within;
    }

pub returns-clause-noted : goal.returns-clause-noted
returns-clause-noted c =
    let o = c.args.owners.now in
    let modules = map module_tree c.args.modules.now in
    let g = program_tree c.args.program.now in
    let atoms = ap (λ (s : AtomScope). s.atoms) c.requires.owned in
    let owners = ap (λ (s : AtomScope). s.owners) c.requires.owned in
    let visible = c.len.ensures ∙ ap (λ (l : List (List ℕ)). length l) c.names.ensures ∙ length-map o.owners (λ (x : Owner). x.name) in
    let scope : c.new-scope.result ≡ program_scope o.heads modules g =
    c.new-scope.ensures ∙ ap (λ l. atom_scope o.heads o.atoms (take c.len.result o.owners) l) c.requires.nothing ∙ whole_scope o.heads o.atoms (program_atoms o.heads modules g) o.owners (program_owners o.heads modules g) c.len.result atoms owners visible in
    let W = λ (a : AtomScope) (own : _). let w : Within = record { atoms = a; plain = false; own = own } in w in
    let within = ap (λ a. W a c.names-2.result.now) scope ∙ ap (W (program_scope o.heads modules g)) (c.names-2.ensures ∙ ap owner_names owners) in
    let set : c.note_set.new.least ≡ noted c.note_program.new.least (set_refusals (program_scope o.heads modules g) g.effect) =
    search rules ∙ ap (λ s. noted c.note_program.new.least (set_refusals s g.effect)) scope in
    let tail : c.program_block.new.least ≡ noted c.note_set.new.least (tail_refusals (program_within o.heads modules g) outermost at_start g.body) =
    c.in_ok-resolved.ensures.noted ∙ ap (λ w. noted c.note_set.new.least (tail_refusals w outermost at_start g.body)) within in
    program_noted o.heads modules g c.args.least.now c.note_program.new.least c.note_set.new.least c.program_block.new.least c.in_ok-note_program.ensures set tail
