use Rattle.std.proofs.Common.{sym, ap, ◌∙◌}
use Rattle.std.proofs.lemmas.Option.{slice_get-map}
use Rattle.std.specs.Option.{option_map}
use Rattle.wy_types.specs.Program.{scope_of}
use Rattle.wy_types.specs.Types.{methods_of_owner, scope_bodies}
use Rattle.wy_types.proofs.Spans.{same_methods}
use Rattle.wy_types.proofs.methods.bodies_around.Goals as goal

pub returns-in-Some : goal.returns-in-Some
returns-in-Some c =
    let o = c.args.owner in
    same_methods o c.around.result.now c.in-Some.s.now.bodies c.around.ensures
    ∙ ap (λ v. methods_of_owner o (scope_bodies (option_map scope_of v))) c.in-Some.ensures
    ∙ ap (λ v. methods_of_owner o (scope_bodies v)) (sym (slice_get-map scope_of c.args.core.now.scopes c.args.scope))

pub returns-in-None : goal.returns-in-None
returns-in-None c =
    ap (λ v. methods_of_owner c.args.owner (scope_bodies (option_map scope_of v))) c.in-None.ensures
    ∙ ap (λ v. methods_of_owner c.args.owner (scope_bodies v)) (sym (slice_get-map scope_of c.args.core.now.scopes c.args.scope))
