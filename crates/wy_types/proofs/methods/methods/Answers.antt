use Rattle.std.proofs.Common.{◌≡◌, List, map, sym, ap, ◌∙◌, subst}
use Rattle.std.specs.Prelude.{IfOk}
use Rattle.wy_types.specs.declared.types.TypeRef.{TypeRef}
use Rattle.wy_types.specs.Program.{program_of}
use Rattle.wy_types.specs.Signature.{Signature}
use Rattle.wy_types.specs.Types.{signature, bounded_methods, methods_of}
use Rattle.wy_types.proofs.methods.methods.Goals as goal

pub returns-in-At : goal.returns-in-At
returns-in-At c =
    let p = program_of c.args.core.now in
    let P : List (Signature TypeRef) → Type 0 = λ ms. IfOk c.read_methods-in-At.result (λ v. map signature v.items ≡ ms) in
    subst P (ap (bounded_methods c.in-At.bound) c.declared-in-At.ensures ∙ ap (methods_of p c.args.scope) (sym c.in-At.is)) c.read_methods-in-At.ensures
