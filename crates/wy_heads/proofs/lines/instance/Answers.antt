use Rattle.std.proofs.Common.{List, ap, ◌∙◌, map, take}
use Rattle.std.specs.Prelude.{ℕ}
use Rattle.wy_syntax.specs.declared.items.Line.TheVariants as line
use Rattle.wy_types.specs.declared.types.TypeRef.{TypeRef}
use Rattle.wy_types.specs.declared.resolved.OwnName.{OwnName}
use Rattle.wy_types.specs.declared.resolved.Origin.TheVariants as origin
use Rattle.wy_symbols.specs.Declarations.{module_number}
use Rattle.wy_symbols.specs.Atoms.{head_names, line_owner, module_opening}
use Rattle.wy_heads.specs.Lines.{argument_numbers, number_or_zero, opened_type}
use Rattle.wy_symbols.specs.Lent.{module_tree}
use Rattle.wy_heads.proofs.lines.instance.Goals as goal

pub returns : goal.returns
returns c =
    let place = c.args.name.now.place in
    let N : List ℕ → TypeRef → ℕ → List ℕ → OwnName = λ n t m ks. record { name = n; place = place; typ = t; origin = origin.Instance m ks } in
    let o = c.args.owners.now in
    let modules = map module_tree c.args.modules.now in
    let opened = opened_type o.heads o.atoms c.args.name.now.text (module_opening (head_names o.heads) modules c.args.named.now.text) in
    let written = line.Instance c.args.name.now c.args.named.now c.args.arguments.now in
    ap (λ n. N n c.in_ok-typ.typ c.number_or_zero.result c.in_ok-arguments.arguments) c.in_ok-written.ensures
    ∙ ap (λ t. N c.args.name.now.text t c.number_or_zero.result c.in_ok-arguments.arguments)
    (c.in_ok-typ.ensures (line_owner (head_names o.heads) modules written) c.requires)
    ∙ ap (λ m. N c.args.name.now.text opened m c.in_ok-arguments.arguments) c.number_or_zero.ensures
    ∙ ap (N c.args.name.now.text opened (number_or_zero (module_number modules c.args.named.now.text)))
    (c.in_ok-arguments.ensures ∙ ap (argument_numbers o.heads modules o.atoms (take c.args.number o.owners)) c.as_slice.ensures)
