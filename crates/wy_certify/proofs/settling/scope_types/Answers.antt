use Rattle.std.proofs.Common.{◌≡◌, [], List, None, map, sym, ap, ◌∙◌}
use Rattle.std.proofs.lemmas.Result.{IfOk-weaker}
use Rattle.wy_types.specs.declared.resolved.Body.{Body}
use Rattle.wy_types.specs.Program.{program_of, scope_of, body_of}
use Rattle.wy_certify.specs.Written.{Context}
use Rattle.wy_certify.specs.Settling.{standing_of, start_settled, bodies_settled}
use Rattle.wy_certify.proofs.Settled.{scope_settled}
use Rattle.wy_certify.proofs.settling.scope_types.Goals as goal

pub returns : goal.returns
unfolding standing_of
returns c =
    let w : Context = record { program = program_of c.args.core.now; number = c.args.number; scope = scope_of c.args.scope.now; locals = []; owner = None } in
    let bodies = c.as_slice-bodies.result.now in
    let first : c.settle_start.new.known.items ≡ start_settled w = c.in_ok-settle_start.ensures in
    let second : c.settle_bodies.new.known.items ≡ bodies_settled w (map body_of bodies) c.settle_start.new.known.items = c.in_ok-settle_bodies.ensures in
    let all = c.as_slice-types.ensures.value ∙ second ∙ ap (bodies_settled w (map body_of bodies)) first ∙ ap (λ (l : List Body). bodies_settled w (map body_of l) (start_settled w)) c.as_slice-bodies.ensures ∙ sym (scope_settled w) in
    IfOk-weaker c.listed.result _ _ (λ us h. h ∙ all) c.listed.ensures
