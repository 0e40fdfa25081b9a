use Rattle.std.proofs.Common.{List, ap, ◌∙◌}
use Rattle.std.specs.Prelude.{ℕ}
use Rattle.wy_types.specs.declared.types.TypeRef.{TypeRef}
use Rattle.wy_types.specs.declared.resolved.OwnName.{OwnName}
use Rattle.wy_types.specs.declared.resolved.Origin.TheVariants as origin
use Rattle.wy_symbols.specs.Atoms.{head_names, grant_owner}
use Rattle.wy_heads.proofs.own_names.grant_own.Goals as goal

pub returns : goal.returns
returns c =
    let place = c.args.grant.now.name.place in
    let N : List ℕ → TypeRef → OwnName = λ n t. record { name = n; place = place; typ = t; origin = origin.Grant } in
    ap (λ n. N n c.in_ok-own_type.field-0) c.in_ok-copy.ensures
    ∙ ap (N c.args.grant.now.name.text) (c.in_ok-own_type.ensures (grant_owner (head_names c.args.owners.now.heads) c.args.grant.now) c.requires)
