use Rattle.std.proofs.Common.{[], length, refl, rules, take, ◌<◌, ◌∷◌, map, ap, ◌∙◌, ◌++◌}
use Rattle.wy_symbols.specs.Declarations.{first_from}
use Rattle.wy_heads.specs.Lines.{argument_numbers, number_or_zero}
use Rattle.wy_symbols.specs.Atoms.{owner_names}
use Rattle.wy_symbols.proofs.Nexts.{added_next}
use Rattle.wy_symbols.specs.Lent.{module_tree}
use Rattle.wy_heads.proofs.lines.argument_numbers.Goals as goal

pub loop-name-preserved : goal.loop-name-preserved
loop-name-preserved c =
    let lt : c.loop-name.name-index < length c.args.names.now = search rules in
    added_next c.args.names.now c.loop-name.name-index c.name-item.result lt c.name-item.is (argument_numbers c.args.owners.now.heads (map module_tree c.args.modules.now) c.args.owners.now.atoms (take c.args.visible c.args.owners.now.owners)) c.loop-name.numbers c.push.new.self (number_or_zero (first_from 0 (owner_names (take c.args.visible c.args.owners.now.owners)) c.name-item.result.text) ∷ []) (argument_numbers c.args.owners.now.heads (map module_tree c.args.modules.now) c.args.owners.now.atoms (take c.args.visible c.args.owners.now.owners) c.args.names.now) (c.in_ok-push.ensures.ok ∙ ap (λ y. c.loop-name.numbers ++ y ∷ []) c.in_ok-argument_number.ensures) refl c.loop-name.invariant
