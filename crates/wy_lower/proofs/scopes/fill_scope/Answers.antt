use Rattle.std.proofs.Common.{map, sym, ap, ◌∙◌}
use Rattle.wy_types.specs.Program.{body_of, start_of}
use Rattle.wy_lower.specs.Parts.{each_once_after, texts_in, calls_in, start_parts, bodies_parts}
use Rattle.wy_lower.proofs.EmitPlaces.{once_append}
use Rattle.wy_lower.proofs.EmitParts.{texts_append, calls_append}
use Rattle.wy_lower.proofs.scopes.fill_scope.Goals as goal

pub returns-clause-texts : goal.returns-clause-texts
returns-clause-texts c =
    let keys = c.args.names.now.texts.keys in
    let start = start_parts (start_of c.args.scope.now.start) in
    let bodies = bodies_parts (map body_of c.args.scope.now.bodies) in
    c.in_ok-add_bodies.ensures.texts ∙ ap (λ bs. each_once_after c.start_vals.new.names.texts.keys (texts_in (bodies_parts (map body_of bs)))) c.as_slice-2.ensures
    ∙ ap (λ z. each_once_after z (texts_in bodies)) c.in_ok-start.ensures.texts
    ∙ sym (once_append keys (texts_in start) (texts_in bodies)) ∙ ap (each_once_after keys) (sym (texts_append start bodies))

pub returns-clause-methods : goal.returns-clause-methods
returns-clause-methods c =
    let keys = c.args.names.now.methods.keys in
    let start = start_parts (start_of c.args.scope.now.start) in
    let bodies = bodies_parts (map body_of c.args.scope.now.bodies) in
    c.in_ok-add_bodies.ensures.methods ∙ ap (λ bs. each_once_after c.start_vals.new.names.methods.keys (calls_in (bodies_parts (map body_of bs)))) c.as_slice-2.ensures
    ∙ ap (λ z. each_once_after z (calls_in bodies)) c.in_ok-start.ensures.methods
    ∙ sym (once_append keys (calls_in start) (calls_in bodies)) ∙ ap (each_once_after keys) (sym (calls_append start bodies))
