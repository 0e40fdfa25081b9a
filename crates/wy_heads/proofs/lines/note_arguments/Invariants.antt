use Rattle.std.proofs.Common.{◌≡◌, drop, take, map}
use Rattle.wy_symbols.specs.Least.{noted}
use Rattle.wy_heads.specs.Lines.{argument_refusals}
use Rattle.wy_symbols.specs.Lent.{module_tree}
use Rattle.wy_heads.proofs.lines.note_arguments.Given as goal

abbrev pub invariant-loop-name : goal.invariant-loop-name
invariant-loop-name l =
    noted l.least (argument_refusals l.owners.heads (map module_tree l.modules) l.owners.atoms (take l.visible l.owners.owners) (drop l.name-index l.names)) ≡
    noted l.initial.least (argument_refusals l.owners.heads (map module_tree l.modules) l.owners.atoms (take l.visible l.owners.owners) l.names)
