use Rattle.std.proofs.Common.{◌≡◌, List, sym, ap, subst}
use Rattle.std.specs.Prelude.{IfOk}
use Rattle.std.specs.Option.{option_map}
use Rattle.wy_types.specs.declared.types.TypeRef.{TypeRef}
use Rattle.wy_types.specs.Program.{program_of}
use Rattle.wy_types.specs.Signature.{Signature, find_method}
use Rattle.wy_types.specs.Types.{signature, methods_of}
use Rattle.wy_types.proofs.methods.find_method.Goals as goal

pub returns-in-At : goal.returns-in-At
returns-in-At c =
    let p = program_of c.args.core.now in
    let P : List (Signature TypeRef) → Type 0 = λ ms. IfOk c.find_read-in-At.result (λ o. option_map signature o ≡ find_method c.args.name.now ms) in
    subst P (ap (methods_of p c.args.scope) (sym c.in-At.is)) c.find_read-in-At.ensures
