use Rattle.std.proofs.Common.{◌≡◌, ◌+◌, drop, take, map}
use Rattle.wy_symbols.specs.Least.{noted}
use Rattle.wy_heads.specs.Lines.{lines_refusals}
use Rattle.wy_symbols.specs.Lent.{module_tree}
use Rattle.wy_heads.proofs.lines.note_lines.Given as goal

abbrev pub invariant-loop-i : goal.invariant-loop-i
invariant-loop-i l =
    noted l.least (lines_refusals l.owners.heads (map module_tree l.modules) l.owners.atoms (take (l.first + l.i) l.owners.owners) (drop l.i l.lines)) ≡
    noted l.initial.least (lines_refusals l.owners.heads (map module_tree l.modules) l.owners.atoms (take l.first l.owners.owners) l.lines)
