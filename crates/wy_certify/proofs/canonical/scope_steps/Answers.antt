use Rattle.std.proofs.Common.{◌++◌, List, None, map, sym, ap, ◌∙◌}
use Rattle.std.proofs.lemmas.Result.{IfOk-weaker}
use Rattle.wy_types.specs.declared.resolved.Body.{Body}
use Rattle.wy_types.specs.Program.{program_of, scope_of, body_of}
use Rattle.wy_certify.specs.Gathered.{Gathered}
use Rattle.wy_certify.specs.Step.{steps_of}
use Rattle.wy_certify.specs.Written.{Context, start_written, bodies_written}
use Rattle.wy_certify.specs.Writer.{context_of}
use Rattle.wy_certify.proofs.Bodies.{scope_written}
use Rattle.wy_certify.proofs.Gathering.{two}
use Rattle.wy_certify.proofs.canonical.scope_steps.Goals as goal

pub returns : goal.returns
unfolding context_of steps_of
returns c =
    let w : Context = record { program = program_of c.args.core.now; number = c.args.number; scope = scope_of c.args.scope.now; locals = c.args.locals.now; owner = None } in
    let all = two c.write_start.ensures c.write_bodies.ensures in
    IfOk-weaker c.into_steps.result _ _ (λ steps h.
    h.1 ∙ all.added h.0 ∙ ap (λ (o : Gathered). o.list ++ (start_written w ++ bodies_written w (map body_of c.as_slice.result.now))) c.new-out.ensures ∙
    ap (λ (l : List Body). start_written w ++ bodies_written w (map body_of l)) c.as_slice.ensures ∙ sym (scope_written w)) c.into_steps.ensures
