use Rattle.std.proofs.Common.{◌≡◌, ◌++◌, ◌+◌, drop, take, map}
use Rattle.wy_heads.specs.Lines.{line_names}
use Rattle.wy_symbols.specs.Lent.{module_tree}
use Rattle.wy_heads.proofs.lines.add_lines.Given as goal

abbrev pub invariant-loop-i : goal.invariant-loop-i
invariant-loop-i l =
    l.list ++ line_names l.owners.heads (map module_tree l.modules) l.owners.atoms (take (l.first + l.i) l.owners.owners) (drop l.i l.lines) ≡
    l.initial.list ++ line_names l.owners.heads (map module_tree l.modules) l.owners.atoms (take l.first l.owners.owners) l.lines
