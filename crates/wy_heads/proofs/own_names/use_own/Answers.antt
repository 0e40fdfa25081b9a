use Rattle.std.proofs.Common.{List, ap, ◌∙◌, map}
use Rattle.std.specs.Prelude.{ℕ}
use Rattle.wy_types.specs.declared.types.TypeRef.{TypeRef}
use Rattle.wy_types.specs.declared.resolved.OwnName.{OwnName}
use Rattle.wy_types.specs.declared.resolved.Origin.TheVariants as origin
use Rattle.wy_symbols.specs.Atoms.{head_names, use_owner}
use Rattle.wy_symbols.specs.Lent.{module_tree}
use Rattle.wy_heads.proofs.own_names.use_own.Goals as goal

pub returns : goal.returns
returns c =
    let place = c.args.name.now.place in
    let N : List ℕ → TypeRef → ℕ → OwnName = λ n t m. record { name = n; place = place; typ = t; origin = origin.Use m } in
    ap (λ n. N n c.in_ok-own_type.field-0 c.number_or_zero.result) c.in_ok-copy.ensures
    ∙ ap (λ t. N c.args.name.now.text t c.number_or_zero.result)
    (c.in_ok-own_type.ensures (use_owner (head_names c.args.owners.now.heads) (map module_tree c.args.modules.now) c.args.name.now) c.requires)
    ∙ ap (N c.args.name.now.text _) c.number_or_zero.ensures
