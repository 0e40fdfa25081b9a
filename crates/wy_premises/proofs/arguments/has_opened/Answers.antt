use Rattle.std.proofs.Common.{◌≡◌, ◌↔◌, true, subst}
use Rattle.std.specs.Prelude.{IfOk, slice_get}
use Rattle.wy_types.specs.Program.{program_of}
use Rattle.wy_types.specs.Ground.{type_of}
use Rattle.wy_premises.specs.Tried.{HasAll}
use Rattle.wy_premises.proofs.arguments.has_opened.Goals as goal

pub returns : goal.returns
returns c =
    let p = program_of c.args.core.now in
    subst (λ ms. IfOk c.has_all.result (λ b. (b ≡ true) ↔ HasAll p (type_of (slice_get c.args.outer.now c.args.argument)) ms)) c.opened.ensures
    (subst (λ t. IfOk c.has_all.result (λ b. (b ≡ true) ↔ HasAll p t c.opened.result.now)) c.in_ok-typ.ensures c.has_all.ensures)
