use Rattle.std.proofs.Common.{◌≡◌, ◌++◌, drop, take, map}
use Rattle.wy_heads.specs.Lines.{argument_numbers}
use Rattle.wy_symbols.specs.Lent.{module_tree}
use Rattle.wy_heads.proofs.lines.argument_numbers.Given as goal

abbrev pub invariant-loop-name : goal.invariant-loop-name
invariant-loop-name l =
    l.numbers ++ argument_numbers l.owners.heads (map module_tree l.modules) l.owners.atoms (take l.visible l.owners.owners) (drop l.name-index l.names) ≡
    argument_numbers l.owners.heads (map module_tree l.modules) l.owners.atoms (take l.visible l.owners.owners) l.names
