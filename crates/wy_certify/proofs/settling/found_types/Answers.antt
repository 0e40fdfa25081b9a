use Rattle.std.proofs.Common.{◌≡◌, Some, ap, sym, ◌∙◌}
use Rattle.std.specs.Prelude.{slice_get}
use Rattle.std.proofs.lemmas.Result.{IfOk-weaker}
use Rattle.wy_types.specs.Program.{Scope, program_of, scope_of}
use Rattle.wy_certify.specs.LocalsAt.{locals_at}
use Rattle.wy_certify.proofs.Settled.{same_mapped, none_mapped}
use Rattle.wy_certify.proofs.settling.found_types.Goals as goal

pub returns-in-Some : goal.returns-in-Some
returns-in-Some c =
    let p = program_of c.args.core.now in
    let x = c.in-Some.scope.now in
    let there : slice_get c.args.core.now.scopes c.args.number ≡ Some x = sym c.in-Some.ensures in
    IfOk-weaker c.scope_types.result _ _ (λ us h. λ s e. h ∙ ap (λ (v : Scope). locals_at p c.args.number v) (same_mapped scope_of c.args.core.now.scopes c.args.number x s there e)) c.scope_types.ensures

pub returns-in-None : goal.returns-in-None
returns-in-None c = λ s e. absurd (none_mapped scope_of c.args.core.now.scopes c.args.number s (sym c.in-None.ensures) e)
