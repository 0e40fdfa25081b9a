use Rattle.std.proofs.Common.{◌≤◌, length, sym, subst}
use Rattle.wy_effects.specs.Bounds.{Bounds, GoDown, IsWidened}
use Rattle.wy_types.specs.Program.{program_of}
use Rattle.wy_types.proofs.Bounding.{few_bounds, go_down}
use Rattle.wy_types.proofs.bounds.widened.Goals as goal

pub widened-requires : goal.widened-requires
widened-requires c = subst (λ (l : Bounds). length l ≤ 512) (sym c.bounds.ensures) (few_bounds (program_of c.args.core.now) c.requires c.args.scope)

pub returns-clause-exact : goal.returns-clause-exact
returns-clause-exact c =
    let p = program_of c.args.core.now in
    let P : Bounds → Type 0 = λ l. IsWidened l c.args.set.now c.widened.result in
    subst P c.bounds.ensures (c.widened.ensures.exact (subst GoDown (sym c.bounds.ensures) (go_down p c.requires c.args.scope)))
